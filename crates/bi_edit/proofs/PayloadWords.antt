use Rattle.std.proofs.Common.{◌≡◌, ◌≤◌, ◌<◌, ◌+◌, ◌⊎◌, inl, inr, ℕ, List}
use Rattle.std.proofs.Common.{[], ◌∷◌, ◌++◌, length, take, drop, Option, Some, None, Bor, MatchOption}
use Rattle.std.proofs.Common.{IfSome, codes, refl, sym, ap, ◌∙◌, arith}
use Rattle.std.proofs.Math.Seq.{drop-append_seam}
use Rattle.std.proofs.lemmas.Bool.{cases_lt}
use Rattle.std.specs.Str.Pattern.{FindsText}
use Rattle.bi_common.specs.Shown.{shown_text}
use Rattle.bi_common.proofs.ReadableWords.Cuts.{later_same}
use Rattle.bi_edit.specs.EditWords.{IsPayloadWord}

-- A text is cut at the first place where another text is.

-- How a text is split.
abbrev pub IsSplitAt : (pattern text : List ℕ) → Option (Bor (List ℕ) × Bor (List ℕ)) → Type 0
IsSplitAt pattern text result =
    MatchOption result (FindsText pattern text None)
    (λ x. (i : ℕ) × (j : ℕ) × FindsText pattern text (Some (i, j)) × (x.0.now ≡ take i text) × (x.1.now ≡ drop j text) × (i ≤ j)
    × (length x.0.now ≡ i) × (length x.1.now + j ≡ length text))

-- No such place is before the first.
pub first_split : (pattern text : List ℕ) (result : Option (Bor (List ℕ) × Bor (List ℕ))) → IsSplitAt pattern text result →
    IfSome result (λ x. (before after : List ℕ) → text ≡ before ++ (pattern ++ after) → length x.0.now ≤ length before)
first_split pattern text None split = tt
first_split pattern text (Some parts) split = λ before after is. where_less before after is (cases_lt (length before) split.0)
  where
    where_less : (before after : List ℕ) → text ≡ before ++ (pattern ++ after) →
        (length before < split.0) ⊎ (split.0 ≤ length before) → length parts.0.now ≤ length before
    where_less before after is (inl less) =
        absurd (split.2.0 (length before) less after (ap (drop (length before)) is ∙ drop-append_seam before (pattern ++ after)))
    where_less before after is (inr within) = omega (arith, within, split.6)

-- Lists of one length that begin one list are the same.
same_front : (one other x y : List ℕ) → length one ≡ length other → one ++ x ≡ other ++ y → (one ≡ other) × (x ≡ y)
same_front [] [] x y count same = (refl, same)
same_front [] (b ∷ other) x y count same = absurd (omega (arith, count))
same_front (a ∷ one) [] x y count same = absurd (omega (arith, count))
same_front (a ∷ one) (b ∷ other) x y count same =
    let rest = same_front one other x y (omega (arith, count)) (later_same same) in
    let head : a ≡ b = cc in
    let tail : one ≡ other = rest.0 in
    (cc, rest.1)

-- The two parts of a word for a payload are those at the first `=@`.
pub same_payload_parts : (word shown name : List ℕ) → word ≡ shown ++ (codes "=@" ++ name) →
    ((before after : List ℕ) → word ≡ before ++ (codes "=@" ++ after) → length shown ≤ length before) → (image file : List ℕ) →
    IsPayloadWord word image file → (shown_text image ≡ shown) × (file ≡ name)
same_payload_parts word shown name is first image file is_word =
    let less = first (shown_text image) file is_word.is in
    let more = is_word.first shown name is in
    let parts = same_front (shown_text image) shown (codes "=@" ++ file) (codes "=@" ++ name) (omega (arith, less, more))
    (sym is_word.is ∙ is) in
    (parts.0, later_same (later_same parts.1))
