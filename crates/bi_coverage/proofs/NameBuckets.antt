use Rattle.std.proofs.Common.{◌≡◌, ◌≢◌, ◌<◌, ℕ, Bool, true, false, List, [], length, Option, None, Some, slice_get, slice_set}
use Rattle.std.proofs.Common.{inl, inr, refl, sym, ap, subst, ◌∙◌, rules}
use Rattle.std.specs.Prelude.{◌||◌, bytes_eq}
use Rattle.std.specs.List.{list_any}
use Rattle.std.specs.Borrow.{Bor}
use Rattle.std.specs.BTreeSet.{BTreeSet, contains, IsEmpty, Updates}
use Rattle.std.specs.Ordering.{is_eq}
use Rattle.std.proofs.Math.Bool.{or-false}
use Rattle.std.proofs.lemmas.Bool.Decides.{eqb_tells}
use Rattle.std.proofs.lemmas.List.{get_or-set_same, get_or-set_other, length-set}
use Rattle.std.proofs.lemmas.Map.Text.{is_eq-slice_cmp}
use Rattle.std.proofs.lemmas.Nat.{mod_below}
use Rattle.std.proofs.lemmas.Option.{slice_get-get_or, slice_get_within}
use Rattle.std.proofs.lemmas.Slice.Eq.{bytes_eq-Decides}
use Rattle.bi_blob.specs.Layout.{is_among}
use Rattle.bi_blob.proofs.NameSets.{name_cmp}
use Rattle.bi_coverage.specs.NameBuckets.{bucket_of_name, set_has_name, HaveNames}
use Rattle.bi_coverage.specs.Paths.{with_new}
use Rattle.bi_coverage.proofs.NamesOnce.{among_new}

-- A name is looked up in the set that it chooses, and joins that set.

-- A set of names.
abbrev pub NameBucket : Type 0
NameBucket = BTreeSet (Bor (List ℕ))

-- The set that a name chooses has it if and only if it is among the names.
pub has_chosen : (sets : List NameBucket) (held : List (List ℕ)) (name : Bor (List ℕ)) (index : ℕ) (set : NameBucket) → HaveNames sets held
    → index ≡ bucket_of_name (length sets) name.now → slice_get sets index ≡ Some set
    → contains name_cmp set name ≡ is_among name.now held
has_chosen sets held name index set holds chosen is =
    ap (λ found. set_has_name found name) (sym is)
    ∙ ap (λ at. set_has_name (slice_get sets at) name) chosen
    ∙ holds.each name

-- Empty sets have no names.
pub HaveNames-none : (sets : List NameBucket) → 0 < length sets
    → ((index : ℕ) (set : NameBucket) → slice_get sets index ≡ Some set → IsEmpty set) → HaveNames sets []
HaveNames-none sets some empty = record {
  some = some;
  each = λ name.
      let index = bucket_of_name (length sets) name.now in
      lacks name (slice_get sets index) (empty index);
} where
  lacks : (name : Bor (List ℕ)) (found : Option NameBucket) → ((set : NameBucket) → found ≡ Some set → IsEmpty set)
      → set_has_name found name ≡ false
  lacks name None empty = refl
  lacks name (Some set) empty = ap (list_any (λ key. is_eq (name_cmp name key))) (empty set refl)

-- If a name joins the set that it chooses, the sets have it too.
pub HaveNames-insert : (sets : List NameBucket) (held : List (List ℕ)) (index : ℕ) (old new : NameBucket) (name : Bor (List ℕ))
    → HaveNames sets held → index ≡ bucket_of_name (length sets) name.now → slice_get sets index ≡ Some old
    → Updates name_cmp old new name true → HaveNames (slice_set sets index new) (with_new held name.now)
HaveNames-insert sets held index old new name holds chosen is updates = record {
  some = subst (λ n. 0 < n) (sym count) holds.some;
  each = λ other.
      ap (λ n. set_has_name (slice_get later (bucket_of_name n other.now)) other) count
      ∙ elim (eqb_tells (choice other) index) [
        | inl same ↦ joined other same.1
        | inr away ↦ kept other away.1
      ]
      ∙ sym (among_new held name.now other.now);
} where
  later : List NameBucket
  later = slice_set sets index new

  count : length later ≡ length sets
  count = length-set sets index new

  choice : Bor (List ℕ) → ℕ
  choice other = bucket_of_name (length sets) other.now

  within : index < length sets
  within = slice_get_within sets index old is

  joined : (other : Bor (List ℕ)) → choice other ≡ index
      → set_has_name (slice_get later (choice other)) other ≡ (is_among other.now held || bytes_eq name.now other.now)
  joined other same =
      ap (λ at. set_has_name (slice_get later at) other) same
      ∙ ap (λ found. set_has_name found other) (slice_get-get_or later index new (subst (λ n. index < n) (sym count) within)
      ∙ ap Some (get_or-set_same sets index new new within))
      ∙ search (rules, updates.0 other, is_eq-slice_cmp, has_chosen sets held other index old holds (sym same) is)

  differs : (other : Bor (List ℕ)) (test : Bool) → choice other ≢ index → bytes_eq name.now other.now ≡ test → test ≡ false
  differs other false away is = refl
  differs other true away is =
      absurd (away (ap (bucket_of_name (length sets)) (sym ((bytes_eq-Decides name.now other.now).0 is)) ∙ sym chosen))

  kept : (other : Bor (List ℕ)) → choice other ≢ index
      → set_has_name (slice_get later (choice other)) other ≡ (is_among other.now held || bytes_eq name.now other.now)
  kept other away =
      let below : choice other < length sets = mod_below _ (length sets) holds.some in
      ap (λ found. set_has_name found other) (slice_get-get_or later (choice other) new (subst (λ n. choice other < n) (sym count) below)
      ∙ ap Some (get_or-set_other sets index (choice other) new new away)
      ∙ sym (slice_get-get_or sets (choice other) new below))
      ∙ holds.each other
      ∙ sym (ap (λ test. is_among other.now held || test) (differs other (bytes_eq name.now other.now) away refl)
      ∙ or-false (is_among other.now held))
