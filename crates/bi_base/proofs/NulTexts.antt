use Rattle.std.proofs.Common.{◌≡◌, ◌<◌, ◌+◌, ℕ, Bool, true, false, cond, ltb, List, [], ◌∷◌, ◌++◌, Option, Some, None, ◌==◌, length, take}
use Rattle.std.proofs.Common.{refl, arith, sym, ◌∙◌}
use Rattle.std.specs.List.{list_any, before_first, after_first, position_or_len, position}
use Rattle.std.specs.Option.{option_map}
use Rattle.std.proofs.lemmas.Grind.{common_steps}
use Rattle.std.proofs.lemmas.List.Sums.{split_at_first, passes_at_first}
use Rattle.std.proofs.lemmas.Bool.{eqb-true}
use borrow.Author.Tests.{ltb-true}
use Rattle.bi_base.specs.Strings.{text_before_nul}

-- A value that has a text is the text, a zero byte and the rest, and the text ends at the first zero byte.

-- Adding one to both numbers does not change their order.
ltb-after : (m n : ℕ) → ltb m n ≡ ltb (1 + m) (1 + n)
ltb-after m n = grind (arith, common_steps)

-- Some element passes if and only if the index of the first one that passes is within the list.
pub list_any-by_place : (p : ℕ → Bool) (xs : List ℕ) → list_any p xs ≡ ltb (position_or_len p xs) (length xs)
list_any-by_place p [] = refl
list_any-by_place p (x ∷ xs) = let rest = list_any-by_place p xs in grind (arith, common_steps, ltb-after, rest)

-- The elements before a chosen index are the choice of the elements before the index.
taken_before : (b : Bool) (end : ℕ) (bytes : List ℕ) →
    option_map (λ place. take place bytes) (cond b (Some end) None) ≡ cond b (Some (take end bytes)) None
taken_before true end bytes = refl
taken_before false end bytes = refl

-- The text ends at the first NUL, and there is none if there is no NUL.
pub text_by_place : (bytes : List ℕ) (place : Option ℕ) → place ≡ position (λ byte. byte == 0) bytes →
    option_map (λ end. take end bytes) place ≡ text_before_nul bytes
unfolding text_before_nul
text_by_place bytes place e = rw (e, list_any-by_place (λ byte. byte == 0) bytes) (taken_before _ _ bytes)

-- Where a choice returns a text, its test holds and the text is the chosen one.
chosen_text : (b : Bool) (text name : List ℕ) → cond b (Some text) None ≡ Some name → (b ≡ true) × (text ≡ name)
chosen_text true text name e = (refl, cc)
chosen_text false text name e = cc

-- A value with a text is the text, a NUL and the rest.
pub text_then_zero : (bytes name : List ℕ) → text_before_nul bytes ≡ Some name → (rest : List ℕ) × (bytes ≡ name ++ 0 ∷ rest)
unfolding text_before_nul
text_then_zero bytes name e =
    let p : ℕ → Bool = λ byte. byte == 0 in
    let here = chosen_text (list_any p bytes) (before_first p bytes) name e in
    let within : position_or_len p bytes < length bytes = ltb-true _ _ (sym (list_any-by_place p bytes) ∙ here.0) in
    let cut = split_at_first p bytes 0 within in
    let zero = eqb-true _ _ (passes_at_first p bytes 0 within) in
    (after_first p bytes, cc)
