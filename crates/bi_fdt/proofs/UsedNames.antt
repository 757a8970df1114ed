use Rattle.std.proofs.Common.{◌≡◌, ◌↔◌, ℕ, zero, suc, List, Some, [], ◌∷◌, ◌++◌, slice_get, rules}
use Rattle.std.proofs.Common.{refl, sym, ap, subst, ◌∙◌}
use Rattle.std.specs.Prelude.{IfOk, OnOk, Ok, Err}
use Rattle.std.specs.declared.result.Result.{Result}
use Rattle.std.specs.List.{AllByRecursion}
use Rattle.std.proofs.lemmas.Option.{none-some, same_Some}
use Rattle.bi_blob.specs.Tree.{AreDistinct, IsNew, FileProperty}
use Rattle.bi_blob.proofs.Blobs.OpenNodes.{AreDistinct-push}
use Rattle.bi_blob.proofs.NameSets.{new_by_test, held_by_test}
use Rattle.bi_fdt.specs.NameTables.{HasAtMostMore}
use Rattle.bi_fdt.specs.Numbers.{IsNumberOf, AreNumbered, with_used_name, names_after}
use Rattle.bi_fdt.specs.TableItems.{TableItem, NodeItem, PropertyItem}

-- Names that were used are there once, at their numbers.

-- A name that has a number is not new.
pub numbered_old : (names : List (List ℕ)) (name : List ℕ) (number : ℕ) → IsNumberOf names name number → ¬ (IsNew name names)
numbered_old [] name number is new = absurd (none-some name is)
numbered_old (first ∷ later) name zero is new = absurd (new.0 (same_Some _ _ is))
numbered_old (first ∷ later) name (suc number) is new = numbered_old later name number is new.1

-- What holds of all holds of the last.
last_of_all : {A : Type 0} (P : A → Type 0) (xs : List A) (x : A) → AllByRecursion P (xs ++ x ∷ []) → P x
last_of_all P [] x all = all.0
last_of_all P (y ∷ xs) x all = last_of_all P xs x all.1

-- The last of distinct names is not among the others.
last_is_new : (names : List (List ℕ)) (name : List ℕ) → AreDistinct (names ++ name ∷ []) → IsNew name names
last_is_new [] name distinct = tt
last_is_new (first ∷ later) name distinct = (
  (λ same. last_of_all (λ other. ¬ (other ≡ first)) later name distinct.0 (sym same)),
  last_is_new later name distinct.1,
)

-- The names after one more use of one of them.
pub used_once_more : (old new : List (List ℕ)) (name : List ℕ) (number : ℕ) → HasAtMostMore old new name → AreDistinct new →
    IsNumberOf new name number → new ≡ with_used_name old name
used_once_more old new name number at_most distinct is = search (rules, held_by_test, last_is_new, numbered_old, new_by_test)

-- Two names are equal if and only if their numbers are.
pub one_number_each : (names : List (List ℕ)) → AreDistinct names → (a b : List ℕ) (m n : ℕ) → IsNumberOf names a m →
    IsNumberOf names b n →
    (m ≡ n) ↔ (a ≡ b)
one_number_each names distinct a b m n is_a is_b = (
  (λ same. same_Some _ _ (sym is_a ∙ ap (slice_get names) same ∙ is_b)),
  (λ same. once names distinct m n b (subst (λ l. IsNumberOf names l m) same is_a) is_b),
) where
  once : (names : List (List ℕ)) → AreDistinct names → (m n : ℕ) (name : List ℕ) → IsNumberOf names name m →
      IsNumberOf names name n → m ≡ n
  once [] distinct m n name at_m at_n = absurd (none-some name at_m)
  once (first ∷ later) distinct zero zero name at_m at_n = refl
  once (first ∷ later) distinct zero (suc n) name at_m at_n =
      absurd (numbered_old later name n at_n (subst (λ l. IsNew l later) (same_Some _ _ at_m) distinct.0))
  once (first ∷ later) distinct (suc m) zero name at_m at_n =
      absurd (numbered_old later name m at_m (subst (λ l. IsNew l later) (same_Some _ _ at_n) distinct.0))
  once (first ∷ later) distinct (suc m) (suc n) name at_m at_n = ap suc (once later distinct.1 m n name at_m at_n)

-- What follows from what holds of a value.
pub on_ok : {V E : Type 0} (r : Result V E) (P : V → Type 0) (Q : Type 0) → IfOk r P → ((v : V) → P v → Q) → OnOk r Q
on_ok (Ok v) P Q has follows = follows v has
on_ok (Err e) P Q has follows = tt

-- The names after one more use are there once.
with_used_name-distinct : (used : List (List ℕ)) (name : List ℕ) → AreDistinct used → AreDistinct (with_used_name used name)
with_used_name-distinct used name distinct = search (rules, AreDistinct-push, new_by_test)

pub names_after-distinct : (used : List (List ℕ)) (table : List TableItem) → AreDistinct used → AreDistinct (names_after used table)
names_after-distinct used [] distinct = distinct
names_after-distinct used (NodeItem depth place name ∷ table) distinct = names_after-distinct used table distinct
names_after-distinct used (PropertyItem property ∷ table) distinct =
    names_after-distinct (with_used_name used property.name) table (with_used_name-distinct used property.name distinct)

-- A property of a table has the name of its number.
pub numbered_property : (names : List (List ℕ)) (table : List TableItem) (numbers : List ℕ) (at number : ℕ) (property : FileProperty) →
    AreNumbered names table numbers → slice_get table at ≡ Some (PropertyItem property) → slice_get numbers at ≡ Some number →
    IsNumberOf names property.name number
numbered_property names [] numbers at number property are is has = absurd (none-some (PropertyItem property) is)
numbered_property names (item ∷ table) [] at number property are is has = absurd are
numbered_property names (item ∷ table) (first ∷ numbers) zero number property are is has = search (rules, same_Some)
numbered_property names (item ∷ table) (first ∷ numbers)
    (suc at) number property are is has = numbered_property names table numbers at number property are.1 is has
