use Rattle.std.proofs.Common.{◌≡◌, ℕ, zero, suc, ◌+◌, ◌-◌, ◌/◌, ◌<◌, ◌≤◌, List, [], ◌∷◌, ◌++◌, length, take, Option, Some, None}
use Rattle.std.proofs.Common.{slice_get, inl, inr, rules}
use Rattle.std.proofs.Common.{refl, sym, ap, subst, ◌∙◌, arith}
use Rattle.std.specs.List.{AllZip}
use Rattle.std.proofs.lemmas.Option.{none-some, same_Some, some_pair_parts}
use Rattle.bi_blob.specs.Tree.{IsNew}
use Rattle.bi_fdt.specs.NameParts.{NamePart, AreOnce, AreAfterTails}
use Rattle.bi_fdt.specs.NameTails.{IsTail, IsHead, AreHeads, head_length}
use Rattle.bi_fdt.specs.Numbers.{FindsNumber}
use Rattle.bi_fdt.specs.OtherNames.{FindsBlocks, HasOtherNumber, AreOtherNumbers, FindsAfter, FindsTail, AreFoundAmong, AreOwnNumbers}
use Rattle.bi_fdt.proofs.NameParts.{slice_get-pushed}
use Rattle.bi_fdt.proofs.NameTails.{one_number, blocks_number_within, same_name_of_head}
use Rattle.bi_fdt.proofs.NumberedNames.{known_name, new_name, heads_length}

-- Names are found among others by their parts, the last blocks first.

-- There is a value at each index within a list.
value_there : {A : Type 0} (values : List A) (index : ℕ) → index < length values → (value : A) × (slice_get values index ≡ Some value)
value_there [] index within = absurd (omega (arith, within))
value_there (value ∷ values) zero within = (value, refl)
value_there (value ∷ values) (suc index) within = value_there values index (omega (arith, within))

-- The number of the blocks from a part on.
part_other : (parts others : List NamePart) → AreOnce others → (index later : ℕ) (block : List ℕ) (tail found : Option ℕ) →
    slice_get parts index ≡ Some (later, block) → HasOtherNumber parts others later tail → FindsTail others tail block found →
    HasOtherNumber parts others (index + 1) found
part_other parts others once index later block tail found there after finds zero name is = absurd (omega (arith, is))
part_other parts others once index later block tail found there after finds (suc count) name is =
    search (rules, some_pair_parts, none-some, one_number)

-- One more number.
pub others_more : (parts others : List NamePart) (numbers more : List (Option ℕ)) (index later : ℕ) (block : List ℕ)
    (tail found : Option ℕ) →
    AreOnce others → AreAfterTails parts → slice_get parts index ≡ Some (later, block) → length numbers ≡ index + 1 →
    ((number : ℕ) (found : Option ℕ) → slice_get numbers number ≡ Some found → HasOtherNumber parts others number found) →
    ((value : Option ℕ) → slice_get numbers later ≡ Some value → tail ≡ value) → FindsTail others tail block found →
    more ≡ numbers ++ found ∷ [] →
    (number : ℕ) (other : Option ℕ) → slice_get more number ≡ Some other → HasOtherNumber parts others number other
others_more parts others numbers more index later block tail found once order there long each value finds pushed number other at =
    elim (slice_get-pushed numbers found number other (ap (λ l. slice_get l number) (sym pushed) ∙ at)) [
      | inl before ↦ each number other before
      | inr last ↦ subst (HasOtherNumber parts others number) last.1
          (subst (λ number. HasOtherNumber parts others number found) (sym (last.0 ∙ long))
          (part_other parts others once index later block tail found there
          (subst (HasOtherNumber parts others later) (sym (value kept.0 kept.1)) (each later kept.0 kept.1)) finds))
    ]
  where
    kept : (value : Option ℕ) × (slice_get numbers later ≡ Some value)
    kept = value_there numbers later (omega (arith, order index (later, block) there, long))

-- A name is new if its last blocks have no number.
new_by_blocks : (tails heads : List NamePart) (names : List (List ℕ)) (name : List ℕ) → AllZip (IsHead tails) heads names →
    ((number : ℕ) → ¬ (IsTail tails number name)) → IsNew name names
new_by_blocks tails [] [] name all none = tt
new_by_blocks tails [] (other ∷ names) name all none = absurd all
new_by_blocks tails (head ∷ heads) [] name all none = absurd all
new_by_blocks tails (head ∷ heads) (other ∷ names) name all none = search (rules, new_by_blocks tails heads names name all.1 none)

-- A name is found by its head, if its last blocks are.
name_found : (tails heads : List NamePart) (names : List (List ℕ)) (head name : List ℕ) (tail found : Option ℕ) →
    AreHeads tails heads names →
    head ≡ take (head_length name) name → FindsBlocks tails (length name / 64 - 1) name tail → FindsAfter heads tail head found →
    FindsNumber names name found
name_found tails heads names head name None found are is none finds = search (rules, new_by_blocks)
name_found tails heads names head name (Some tail) None are is some finds = search (rules, new_name)
name_found tails heads names head name (Some tail) (Some number) are is some finds = search (rules, known_name)

-- The head of the name at an index.
head_there : (tails heads : List NamePart) (names : List (List ℕ)) → AllZip (IsHead tails) heads names → (index : ℕ) (name : List ℕ) →
    slice_get names index ≡ Some name → (part : NamePart) × (slice_get heads index ≡ Some part) × IsHead tails part name
head_there tails [] [] all index name is = absurd (none-some name is)
head_there tails [] (other ∷ names) all index name is = absurd all
head_there tails (head ∷ heads) [] all index name is = absurd all
head_there tails (head ∷ heads) (other ∷ names) all zero name is = (head, refl, subst (IsHead tails head) (same_Some other name is) all.0)
head_there tails (head ∷ heads) (other ∷ names) all (suc index) name is = head_there tails heads names all.1 index name is

-- What holds at each index of two lists of one length.
each_place : {A B : Type 0} (R : A → B → Type 0) (xs : List A) (ys : List B) → length ys ≡ length xs →
    ((index : ℕ) (x : A) (y : B) → slice_get xs index ≡ Some x → slice_get ys index ≡ Some y → R x y) → AllZip R xs ys
each_place R [] [] long each = tt
each_place R [] (y ∷ ys) long each = absurd (omega (arith, long))
each_place R (x ∷ xs) [] long each = absurd (omega (arith, long))
each_place R (x ∷ xs) (y ∷ ys) long each =
    (each 0 x y refl refl, each_place R xs ys (omega (arith, long)) (λ index. each (suc index)))

-- Each name is found among others.
pub names_found : (tails heads : List NamePart) (names : List (List ℕ)) (other_tails other_heads : List NamePart) (others : List (List ℕ))
    (numbers found : List (Option ℕ)) → AreHeads tails heads names → AreHeads other_tails other_heads others →
    AreOtherNumbers tails other_tails numbers → AreFoundAmong heads other_heads numbers found → AllZip (FindsNumber others) names found
names_found tails heads names other_tails other_heads others numbers found are other_are kept among =
    each_place (FindsNumber others) names found (among.count ∙ heads_length tails heads names are) each
  where
    each : (index : ℕ) (name : List ℕ) (number : Option ℕ) → slice_get names index ≡ Some name → slice_get found index ≡ Some number →
        FindsNumber others name number
    each index name number at_name at_number =
        let there = head_there tails heads names are.each index name at_name in
        let within : there.0.0 ≤ length tails = blocks_number_within tails (length name / 64 - 1) there.0.0 name there.2.tail in
        let tail = value_there numbers there.0.0 (omega (arith, within, kept.count)) in
        name_found other_tails other_heads others there.0.1 name tail.0 number other_are there.2.head
        (kept.each there.0.0 tail.0 tail.1 (length name / 64 - 1) name there.2.tail)
        (among.each index there.0 tail.0 number there.1 tail.1 at_number)

-- Names with the same parts are the same.
pub same_names : (tails heads : List NamePart) (names others : List (List ℕ)) → AllZip (IsHead tails) heads names →
    AllZip (IsHead tails) heads others → names ≡ others
same_names tails [] [] [] are other_are = refl
same_names tails [] [] (other ∷ others) are other_are = absurd other_are
same_names tails [] (name ∷ names) others are other_are = absurd are
same_names tails (head ∷ heads) [] others are other_are = absurd are
same_names tails (head ∷ heads) (name ∷ names) [] are other_are = absurd other_are
same_names tails (head ∷ heads) (name ∷ names) (other ∷ others) are other_are =
    search (rules, same_name_of_head, same_names tails heads names others are.1 other_are.1)

-- Names are found among themselves, each at its own index.
pub own_names_found : (names : List (List ℕ)) (found : List (Option ℕ)) → AreOwnNumbers (length names) found →
    AllZip (FindsNumber names) names found
own_names_found names found own = search (rules, each_place)
