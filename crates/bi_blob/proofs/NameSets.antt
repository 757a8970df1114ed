use Rattle.std.proofs.Common.{◌≡◌, ◌≢◌, ℕ, true, false, List, [], ◌∷◌, ◌++◌, length, refl, sym, ap, ◌∙◌, inl, inr, rules}
use Rattle.std.specs.Prelude.{◌||◌, bytes_eq}
use Rattle.std.specs.List.{list_any}
use Rattle.std.specs.declared.cmp.Ordering.{Ordering}
use Rattle.std.specs.Ordering.{nat_cmp, is_eq}
use Rattle.std.specs.Cmp.Lexicographic.{slice_cmp, bytes_decides}
use Rattle.std.specs.BTreeSet.{BTreeSet, contains, Updates, IsEmpty, btree_set_len}
use denote.Ref.{Bor}
use Rattle.std.proofs.lemmas.Bool.{false≢true, or_cases}
use Rattle.std.proofs.lemmas.List.Folds.{list_any-append}
use Rattle.std.proofs.lemmas.List.{nil_from_length}
use Rattle.std.proofs.lemmas.Map.Text.{is_eq-slice_cmp}
use Rattle.bi_blob.specs.Tree.{IsNew}
use Rattle.bi_blob.specs.NameSets.{HoldsNames}

-- A set of names holds a name if and only if it was inserted, and inserting one keeps the others.

-- The order of names.
abbrev pub name_cmp : Bor (List ℕ) → Bor (List ℕ) → Ordering
name_cmp x y = slice_cmp nat_cmp x.now y.now

-- An empty set has no names.
pub HoldsNames-none : (set : BTreeSet (Bor (List ℕ))) → IsEmpty set → HoldsNames set []
HoldsNames-none set empty = record { each = λ name. ap (list_any (λ k. is_eq (name_cmp name k))) empty }

-- A set that a name joins has it too.
pub HoldsNames-insert : (old new : BTreeSet (Bor (List ℕ))) (name : Bor (List ℕ)) (held : List (List ℕ)) → HoldsNames old held →
    Updates name_cmp old new name true → HoldsNames new (held ++ name.now ∷ [])
HoldsNames-insert old new name held holds updates = search (rules, is_eq-slice_cmp, list_any-append)

-- A name that is not among others is new.
pub new_by_test : (name : List ℕ) (held : List (List ℕ)) → list_any (λ other. bytes_eq other name) held ≡ false → IsNew name held
new_by_test name [] e = tt
new_by_test name (other ∷ held) e = search (rules, false≢true, new_by_test name held)

-- A name that is among others is not new.
pub held_by_test : (name : List ℕ) (held : List (List ℕ)) → list_any (λ other. bytes_eq other name) held ≡ true → IsNew name held → ⊥
held_by_test name [] e is_new = false≢true e
held_by_test name (other ∷ held) e is_new = elim (or_cases (bytes_eq other name) (list_any (λ o. bytes_eq o name) held) e) [
  | inl same ↦ is_new.0 ((bytes_decides other name).0 same)
  | inr later ↦ held_by_test name held later is_new.1
]

pub HoldsNames-new : (set : BTreeSet (Bor (List ℕ))) (name : Bor (List ℕ)) (held : List (List ℕ)) → HoldsNames set held →
    contains name_cmp set name ≡ false → IsNew name.now held
HoldsNames-new set name held holds lacks = new_by_test name.now held (sym (holds.each name) ∙ lacks)

pub HoldsNames-held : (set : BTreeSet (Bor (List ℕ))) (name : Bor (List ℕ)) (held : List (List ℕ)) → HoldsNames set held →
    contains name_cmp set name ≡ true → IsNew name.now held → ⊥
HoldsNames-held set name held holds has = held_by_test name.now held (sym (holds.each name) ∙ has)

-- A set is empty if and only if it has no names.
pub HoldsNames-empty : (set : BTreeSet (Bor (List ℕ))) (held : List (List ℕ)) → HoldsNames set held →
    (btree_set_len set ≡ 0 → held ≡ []) × (held ≡ [] → btree_set_len set ≡ 0)
HoldsNames-empty set held holds = (to held holds.each, from set.keys holds.each) where
  to : (ns : List (List ℕ)) → ((name : Bor (List ℕ)) → contains name_cmp set name ≡ list_any (λ other. bytes_eq other name.now) ns) →
      length set.keys ≡ 0 → ns ≡ []
  to [] each none = refl
  to (n ∷ ns) each none =
      let name : Bor (List ℕ) = record { ref_ptr = (0, 0); now = n } in
      let empty : set.keys ≡ [] = nil_from_length set.keys none in
      let has : (bytes_eq n n || list_any (λ other. bytes_eq other n) ns) ≡ true =
      ap (λ b. b || list_any (λ other. bytes_eq other n) ns) ((bytes_decides n n).1 refl) in
      absurd (false≢true (sym (ap (list_any (λ k. is_eq (name_cmp name k))) empty) ∙ each name ∙ has))

  from : (ks : List (Bor (List ℕ))) →
      ((name : Bor (List ℕ)) → list_any (λ k. is_eq (name_cmp name k)) ks ≡ list_any (λ other. bytes_eq other name.now) held) → held ≡ [] →
      length ks ≡ 0
  from [] each none = refl
  from (k ∷ ks) each none =
      let same : is_eq (name_cmp k k) ≡ true = is_eq-slice_cmp k.now k.now ∙ (bytes_decides k.now k.now).1 refl in
      let has : list_any (λ x. is_eq (name_cmp k x)) (k ∷ ks) ≡ true =
      ap (λ b. b || list_any (λ x. is_eq (name_cmp k x)) ks) same in
      absurd (false≢true (sym (ap (list_any (λ other. bytes_eq other k.now)) none) ∙ sym (each k) ∙ has))
