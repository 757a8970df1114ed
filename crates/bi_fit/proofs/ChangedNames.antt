use Rattle.std.proofs.Common.{◌≡◌, ◌⊎◌, ℕ, zero, suc, Bool, true, false, inl, inr, List, [], ◌∷◌, ◌++◌, length, fold, All, rules}
use Rattle.std.proofs.Common.{Contains, IsPermutation, get_or}
use Rattle.std.proofs.Common.{refl, sym, ap, subst, ◌∙◌, append_assoc, append-nil}
use Rattle.std.specs.Prelude.{if◌then◌else◌, slice_index_or}
use Rattle.std.specs.Borrow.{Bor}
use Rattle.bi_base.specs.Slices.{bytes_of}
use Rattle.std.specs.List.{AllByRecursion, AllZip}
use Rattle.std.proofs.lemmas.List.Elements.{All-head, All-tail, Contains-get_or}
use Rattle.std.proofs.lemmas.List.Sorted.{All-permutation}
use Rattle.std.proofs.lemmas.Slice.Eq.{bytes_eq-Decides}
use Rattle.bi_base.proofs.ListMembers.{each-append, each-contains, Contains-first, Contains-others}
use Rattle.bi_blob.specs.Layout.{is_among}
use Rattle.bi_blob.specs.Tree.{IsNew, AreDistinct}
use Rattle.bi_blob.proofs.Blobs.OpenNodes.{AreDistinct-push}
use Rattle.bi_fdt.specs.Numbers.{IsNumberOf, AreNumbered, BeginsWith}
use Rattle.bi_fdt.specs.TableItems.{TableItem, NodeItem, PropertyItem}
use Rattle.bi_fit.specs.declared.property_names.ChangedNumbers.{ChangedNumbers}
use Rattle.bi_fit.specs.ChangedNames.{AreChangedNumbers, changed_names, with_missing, with_changed_names}
use Rattle.bi_fit.proofs.BuiltNames.{names_in_order}
use Rattle.bi_fit.proofs.LongNames.{long_length, AreShortOrAmong, distinct_in_order}

-- The names of a file with those that a text adds, changes or leaves out are distinct, have their numbers, and the long ones among them
-- are those of the file.

-- A number stays when names are added at the end,
pub number_append : (names more : List (List ℕ)) (name : List ℕ) (number : ℕ) → IsNumberOf names name number →
    IsNumberOf (names ++ more) name number
number_append [] more name number is = absurd cc
number_append (first ∷ names) more name zero is = is
number_append (first ∷ names) more name (suc number) is = number_append names more name number is

-- also those of all properties.
pub numbered_more : (base names : List (List ℕ)) → BeginsWith names base → (table : List TableItem) (numbers : List ℕ) →
    AreNumbered base table numbers → AreNumbered names table numbers
numbered_more base names begin [] [] are = tt
numbered_more base names begin [] (number ∷ numbers) are = absurd are
numbered_more base names begin (item ∷ table) [] are = absurd are
numbered_more base names begin (NodeItem depth place name ∷ table) (number ∷ numbers) are = (
  tt,
  numbered_more base names begin table numbers are.1,
)
numbered_more base names begin (PropertyItem property ∷ table) (number ∷ numbers) are = (
  subst (λ names. IsNumberOf names property.name number) (sym begin.1) (number_append base begin.0 property.name number are.0),
  numbered_more base names begin table numbers are.1,
)

-- A name at the end has the number of those before it.
pub number_last : (names : List (List ℕ)) (name : List ℕ) → IsNumberOf (names ++ name ∷ []) name (length names)
number_last [] name = refl
number_last (first ∷ names) name = number_last names name

-- The bytes of slices with one more.
pub bytes_push : (slices : List (Bor (List ℕ))) (slice : Bor (List ℕ)) → bytes_of (slices ++ slice ∷ []) ≡ bytes_of slices ++ slice.now ∷ []
bytes_push [] slice = refl
bytes_push (first ∷ slices) slice = ap (λ l. first.now ∷ l) (bytes_push slices slice)

-- The rank at the number of a name is its rank.
rank_number : (names sorted : List (List ℕ)) (ranks : List ℕ) → AllZip (IsNumberOf sorted) names ranks → (name : List ℕ) (number : ℕ) →
    IsNumberOf names name number → IsNumberOf sorted name (slice_index_or ranks number 0)
rank_number [] sorted ranks are name number is = absurd cc
rank_number (first ∷ names) sorted [] are name number is = absurd are
rank_number (first ∷ names) sorted (rank ∷ ranks) are name zero is = are.0 ∙ is
rank_number (first ∷ names) sorted (rank ∷ ranks) are name (suc number) is = rank_number names sorted ranks are.1 name number is

pub rank_numbers : (names sorted : List (List ℕ)) (ranks : List ℕ) → AllZip (IsNumberOf sorted) names ranks → (numbers : ChangedNumbers) →
    AreChangedNumbers names numbers → AreChangedNumbers sorted (record {
      payload = slice_index_or ranks numbers.payload 0;
      offset = slice_index_or ranks numbers.offset 0;
      position = slice_index_or ranks numbers.position 0;
      size = slice_index_or ranks numbers.size 0;
      time = slice_index_or ranks numbers.time 0;
      digest = slice_index_or ranks numbers.digest 0;
    })
rank_numbers names sorted ranks zipped numbers are = search (rules, rank_number)

-- A name that has a number is among the names.
pub among_numbered : (names : List (List ℕ)) (name : List ℕ) (number : ℕ) → IsNumberOf names name number → is_among name names ≡ true
among_numbered [] name number is = absurd cc
among_numbered (first ∷ names) name zero is = search (rules, bytes_eq-Decides)
among_numbered (first ∷ names) name (suc number) is = search (rules, among_numbered names name number is)

-- A new name is not among them,
pub not_among : (names : List (List ℕ)) (name : List ℕ) → IsNew name names → is_among name names ≡ false
not_among [] name new = refl
not_among (first ∷ names) name new = search (rules, bytes_eq-Decides, not_among names name new.1)

-- and one that is not among them is new.
new_among : (names : List (List ℕ)) (name : List ℕ) → is_among name names ≡ false → IsNew name names
new_among [] name is = tt
new_among (first ∷ names) name is = search (rules, bytes_eq-Decides, new_among names name)

-- What holds by index holds by recursion,
each_from_all : (P : List ℕ → Type 0) (names : List (List ℕ)) → All P names → AllByRecursion P names
each_from_all P [] all = tt
each_from_all P (name ∷ names) all = (All-head P name names all, each_from_all P names (All-tail P name names all))

-- and each of some names is among them.
each_itself_among : (base names : List (List ℕ)) → ((name : List ℕ) → Contains names name → (long_length name ≡ 0) ⊎ Contains base name) →
    AllByRecursion (λ name. (long_length name ≡ 0) ⊎ Contains base name) names
each_itself_among base [] keeps = tt
each_itself_among base (name ∷ names) keeps =
    (keeps name (Contains-first name names), each_itself_among base names (λ other has. keeps other (Contains-others name names other has)))

module _ (base : List (List ℕ)) where
  -- Names keep their front,
  pub begins_missing : (names : List (List ℕ)) (name : List ℕ) → BeginsWith names base → BeginsWith (with_missing base names name) base
  begins_missing names name begin = by_test (is_among name base)
    where
      by_test : (b : Bool) → BeginsWith (if b then names else names ++ name ∷ []) base
      by_test true = begin
      by_test false = (begin.0 ++ name ∷ [], ap (λ l. l ++ name ∷ []) begin.1 ∙ append_assoc base begin.0 (name ∷ []))

  -- and their numbers, when one more is added.
  number_kept : (names : List (List ℕ)) (name other : List ℕ) (number : ℕ) → IsNumberOf names other number →
      IsNumberOf (with_missing base names name) other number
  number_kept names name other number is = search (rules, number_append)

  pub number_stays : (names more : List (List ℕ)) (name other : List ℕ) (number : ℕ) → more ≡ with_missing base names name →
      IsNumberOf names other number → IsNumberOf more other number
  number_stays names more name other number is has = subst (λ names. IsNumberOf names other number) (sym is)
      (number_kept names name other number has)

  -- Names that are to be added are new after one of them is.
  still_new : (names added : List (List ℕ)) (name : List ℕ) → IsNew name added →
      AllByRecursion (λ other. IsNew other base → IsNew other names) added →
      AllByRecursion (λ other. IsNew other base → IsNew other (names ++ name ∷ [])) added
  still_new names [] name differ new = tt
  still_new names (first ∷ added) name differ new = search (rules, each-append, still_new names added name differ.1 new.1)

  -- Distinct names are distinct with others, if each of the others is new or one of the base.
  distinct_all : (names added : List (List ℕ)) → AreDistinct added → AreDistinct names →
      AllByRecursion (λ other. IsNew other base → IsNew other names) added → AreDistinct (fold (with_missing base) names added)
  distinct_all names [] distinct_added distinct new = distinct
  distinct_all names (name ∷ added) distinct_added distinct new =
      by_test (is_among name base) refl (distinct_all names added distinct_added.1 distinct new.1)
      (λ fresh. distinct_all (names ++ name ∷ []) added distinct_added.1 (AreDistinct-push names name distinct (new.0 fresh))
      (still_new names added name distinct_added.0 new.1))
    where
      by_test : (b : Bool) → is_among name base ≡ b → AreDistinct (fold (with_missing base) names added) →
          (IsNew name base → AreDistinct (fold (with_missing base) (names ++ name ∷ []) added)) →
          AreDistinct (fold (with_missing base) (if b then names else names ++ name ∷ []) added)
      by_test true is known added = known
      by_test false is known added = added (new_among base name is)

  -- What holds of each of the names and of those that may be added holds of all.
  each_all : (P : List ℕ → Type 0) (names added : List (List ℕ)) → AllByRecursion P names → AllByRecursion P added →
      AllByRecursion P (fold (with_missing base) names added)
  each_all P names [] each each_added = each
  each_all P names (name ∷ added) each each_added =
      by_test (is_among name base) (each_all P names added each each_added.1)
      (each_all P (names ++ name ∷ []) added (each-append P names (name ∷ []) each (each_added.0, tt)) each_added.1)
    where
      by_test : (b : Bool) → AllByRecursion P (fold (with_missing base) names added) →
          AllByRecursion P (fold (with_missing base) (names ++ name ∷ []) added) →
          AllByRecursion P (fold (with_missing base) (if b then names else names ++ name ∷ []) added)
      by_test true known more = known
      by_test false known more = more

  pub begins_all : (names added : List (List ℕ)) → BeginsWith names base → BeginsWith (fold (with_missing base) names added) base
  begins_all names [] begin = begin
  begins_all names (name ∷ added) begin = begins_all (with_missing base names name) added (begins_missing names name begin)

  -- ---- all of them

  each_itself : (added : List (List ℕ)) → AllByRecursion (λ other. IsNew other base → IsNew other base) added
  each_itself [] = tt
  each_itself (name ∷ added) = ((λ new. new), each_itself added)

  -- The names are distinct,
  pub changed_distinct : AreDistinct base → AreDistinct (with_changed_names base)
  changed_distinct distinct = search (rules, distinct_all, distinct_in_order, names_in_order, each_itself)

  -- and begin with those of the file.
  pub changed_begin : BeginsWith (with_changed_names base) base
  changed_begin = begins_all base changed_names ([], sym (append-nil base))

  -- Each of those in another order is short or one of the file.
  pub changed_short : (sorted : List (List ℕ)) → IsPermutation (with_changed_names base) sorted → AreShortOrAmong base sorted
  changed_short sorted moved =
      let P : List ℕ → Type 0 = λ name. (long_length name ≡ 0) ⊎ Contains base name in
      let all : AllByRecursion P (with_changed_names base) =
      each_all P base changed_names (each_itself_among base base (λ name has. inr has)) (
        inl refl,
        (inl refl, (inl refl, (inl refl, (inl refl, (inl refl, tt))))),
      ) in
      each_from_all P sorted
      (All-permutation P (with_changed_names base) sorted moved
      (λ k d within. each-contains P (with_changed_names base) (get_or (with_changed_names base) k d) all
      (Contains-get_or (with_changed_names base) k d within)))
