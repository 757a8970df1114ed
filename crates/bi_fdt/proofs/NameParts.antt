use Rattle.std.proofs.Common.{◌≡◌, ◌⊎◌, ℕ, zero, suc, inl, inr, Bool, true, false, cond, List, [], ◌∷◌, ◌++◌, length, Option, Some, None}
use Rattle.std.proofs.Common.{slice_get, ◌≤◌, refl, sym, ap, ◌∙◌, rules}
use denote.Ref.{Bor}
use Rattle.std.proofs.lemmas.List.{append_assoc, append-nil}
use Rattle.std.proofs.lemmas.Option.{none-some, same_Some}
use Rattle.bi_fdt.specs.NameParts.{NamePart, AreOnce, AreAfterTails, IsNewPart, IsPlaced, AreMoreParts}
use Rattle.bi_fdt.specs.Numbers.{BeginsWith}
use Rattle.bi_fdt.specs.PartNumbers.{is_same_key}
use Rattle.bi_fdt.proofs.PartNumbers.{part_of_slice, same_part, equal_part}

-- Parts of names keep their numbers, and a map has the numbers of exactly these parts.

-- Elements of a list that is longer.
pub slice_get-longer : {Item : Type 0} (xs ys : List Item) (index : ℕ) (x : Item) → slice_get xs index ≡ Some x →
    slice_get (xs ++ ys) index ≡ Some x
slice_get-longer [] ys index x is = absurd (none-some x is)
slice_get-longer (y ∷ xs) ys zero x is = is
slice_get-longer (y ∷ xs) ys (suc index) x is = slice_get-longer xs ys index x is

pub slice_get-last : {Item : Type 0} (xs : List Item) (x : Item) → slice_get (xs ++ x ∷ []) (length xs) ≡ Some x
slice_get-last [] x = refl
slice_get-last (y ∷ xs) x = slice_get-last xs x

pub slice_get-pushed : {Item : Type 0} (xs : List Item) (y : Item) (index : ℕ) (x : Item) → slice_get (xs ++ y ∷ []) index ≡ Some x →
    (slice_get xs index ≡ Some x) ⊎ ((index ≡ length xs) × (y ≡ x))
slice_get-pushed [] y zero x is = inr (refl, same_Some y x is)
slice_get-pushed [] y (suc index) x is = absurd (none-some x is)
slice_get-pushed (z ∷ xs) y zero x is = inl is
slice_get-pushed (z ∷ xs) y (suc index) x is = search (rules, slice_get-pushed xs y index x is)

-- What was in the list is in one that begins with it.
pub slice_get-begin : {Item : Type 0} (all front : List Item) → BeginsWith all front → (index : ℕ) (x : Item) →
    slice_get front index ≡ Some x →
    slice_get all index ≡ Some x
slice_get-begin all front begins index x is = ap (λ l. slice_get l index) begins.1 ∙ slice_get-longer front begins.0 index x is

-- The numbers with one more part are those of no others.
pub found_more : (old new : ℕ × Bor (List ℕ) → Option ℕ) (parts : List NamePart) (added : ℕ × Bor (List ℕ))
    → ((part : ℕ × Bor (List ℕ)) (number : ℕ) → old part ≡ Some number → slice_get parts number ≡ Some (part_of_slice part))
    → ((part : ℕ × Bor (List ℕ)) → new part ≡ cond (is_same_key added part) (Some (length parts)) (old part)) →
    (part : ℕ × Bor (List ℕ)) (number : ℕ)
    → new part ≡ Some number → slice_get (parts ++ part_of_slice added ∷ []) number ≡ Some (part_of_slice part)
found_more old new parts added found updates part number is = by (is_same_key added part) refl where
  now : cond (is_same_key added part) (Some (length parts)) (old part) ≡ Some number
  now = sym (updates part) ∙ is

  by : (test : Bool) → is_same_key added part ≡ test → slice_get (parts ++ part_of_slice added ∷ []) number ≡ Some (part_of_slice part)
  by true same =
      let last : length parts ≡ number = same_Some _ _ (ap (λ b. cond b (Some (length parts)) (old part)) (sym same) ∙ now) in
      ap (slice_get (parts ++ part_of_slice added ∷ [])) (sym last) ∙ slice_get-last parts (part_of_slice added)
      ∙ ap Some (same_part added part same)
  by false other =
      slice_get-longer parts (part_of_slice added ∷ []) number (part_of_slice part)
      (found part number (ap (λ b. cond b (Some (length parts)) (old part)) (sym other) ∙ now))

-- The numbers with one more part, which had none, are those of all.
pub listed_more : (old new : ℕ × Bor (List ℕ) → Option ℕ) (parts : List NamePart) (added : ℕ × Bor (List ℕ))
    → ((part : ℕ × Bor (List ℕ)) (number : ℕ) → slice_get parts number ≡ Some (part_of_slice part) → old part ≡ Some number)
    → ((part : ℕ × Bor (List ℕ)) → new part ≡ cond (is_same_key added part) (Some (length parts)) (old part)) → old added ≡ None
    → (part : ℕ × Bor (List ℕ)) (number : ℕ) → slice_get (parts ++ part_of_slice added ∷ []) number ≡ Some (part_of_slice part) →
    new part ≡ Some number
listed_more old new parts added listed updates lacks part number is =
    updates part ∙ elim (slice_get-pushed parts (part_of_slice added) number (part_of_slice part) is) [
      | inl there ↦ other there (is_same_key added part) refl
      | inr last ↦ ap (λ b. cond b (Some (length parts)) (old part)) (equal_part added part last.1) ∙ ap Some (sym last.0)
    ] where
      other : slice_get parts number ≡ Some (part_of_slice part) → (test : Bool) → is_same_key added part ≡ test
          → cond (is_same_key added part) (Some (length parts)) (old part) ≡ Some number
      other there true same =
          absurd (none-some number (sym lacks ∙ listed added number (there ∙ ap Some (sym (same_part added part same)))))
      other there false differs = ap (λ b. cond b (Some (length parts)) (old part)) differs ∙ listed part number there

-- A part that has no number is new.
pub lacks_part : (numbers : ℕ × Bor (List ℕ) → Option ℕ) (parts : List NamePart) (part : ℕ × Bor (List ℕ))
    → ((part : ℕ × Bor (List ℕ)) (number : ℕ) → slice_get parts number ≡ Some (part_of_slice part) → numbers part ≡ Some number)
    → numbers part ≡ None → IsNewPart (part_of_slice part) parts
lacks_part numbers parts part listed lacks index there = none-some index (sym lacks ∙ listed part index there)

-- The same parts.
pub AreMoreParts-same : (old new : List NamePart) → new ≡ old → AreMoreParts old new
AreMoreParts-same old new same = search (rules, append-nil)

-- One more part.
pub once_more : (parts : List NamePart) (part : NamePart) → IsNewPart part parts → AreOnce parts → AreOnce (parts ++ part ∷ [])
once_more parts part new once other m n at_m at_n = search (rules, slice_get-pushed)

-- It is in order if the blocks after it are.
order_more : (parts : List NamePart) (part : NamePart) → part.0 ≤ length parts → AreAfterTails parts → AreAfterTails (parts ++ part ∷ [])
order_more parts part fits order index other at = search (rules, slice_get-pushed)

-- What adding a part does.
pub placed_more : (old : List NamePart) (part : NamePart) (index : ℕ) (new : List NamePart) → part.0 ≤ length old →
    IsPlaced old part index new → AreMoreParts old new
placed_more old part index new fits placed = search (rules, AreMoreParts-same, once_more, order_more)

pub placed_at : (old : List NamePart) (part : NamePart) (index : ℕ) (new : List NamePart) → IsPlaced old part index new →
    slice_get new index ≡ Some part
placed_at old part index new placed = search (rules, slice_get-last)

-- More parts than more parts.
pub AreMoreParts-again : (a b c : List NamePart) → AreMoreParts a b → AreMoreParts b c → AreMoreParts a c
AreMoreParts-again a b c first second = search (rules, append_assoc)
