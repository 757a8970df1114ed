use Rattle.std.proofs.Common.{◌≡◌, ◌==◌, ℕ, Bool, true, not, cond, List, [], ◌∷◌, ◌++◌, flat_map, refl, ap, ◌∙◌}
use Rattle.std.specs.List.{list_all}
use Rattle.std.proofs.lemmas.Bool.{and_parts, not-true}
use Rattle.bi_common.specs.DescribedValues.{is_unescaped, quoted_byte}
use Rattle.bi_common.specs.Shown.{digits_of_byte, is_plain, shown_byte}
use Rattle.bi_common.specs.ValueTexts.{needs_backslash}

-- Bytes that are printed unchanged.

pub plain_name : (bytes : List ℕ) → list_all is_plain bytes ≡ true → flat_map shown_byte bytes ≡ bytes
plain_name [] are = refl
plain_name (byte ∷ later) are =
    let both = and_parts (is_plain byte) (list_all is_plain later) are in
    ap (λ (b : Bool). cond b (byte ∷ []) (37 ∷ digits_of_byte true byte) ++ flat_map shown_byte later) both.0
    ∙ ap (λ (l : List ℕ). byte ∷ l) (plain_name later both.1)

pub unescaped_texts : (bytes : List ℕ) → list_all is_unescaped bytes ≡ true → flat_map quoted_byte bytes ≡ bytes
unescaped_texts [] are = refl
unescaped_texts (byte ∷ later) are =
    let both = and_parts (is_unescaped byte) (list_all is_unescaped later) are in
    let not_escaped = and_parts (not (byte == 0)) (not (needs_backslash byte)) both.0 in
    ap (λ (b : Bool). cond b (34 ∷ 32 ∷ 34 ∷ []) (cond (needs_backslash byte) (92 ∷ byte ∷ []) (byte ∷ [])) ++ flat_map quoted_byte later)
    (not-true (byte == 0) not_escaped.0)
    ∙ ap (λ (b : Bool). cond b (92 ∷ byte ∷ []) (byte ∷ []) ++ flat_map quoted_byte later) (not-true (needs_backslash byte) not_escaped.1)
    ∙ ap (λ (l : List ℕ). byte ∷ l) (unescaped_texts later both.1)
