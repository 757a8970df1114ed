use Rattle.std.proofs.Common.{◌≡◌, ◌↔◌, ◌∙◌, Bool, IsTrue, ℕ, List, [], Option, map, refl, sym, ap, subst}
use Rattle.std.specs.Option.{option_map}
use Rattle.bi_legacy.specs.Meaning.{LegacyImage, image_of}
use Rattle.bi_describe.specs.declared.describe.kept.KeptImage.{KeptImage}
use Rattle.bi_describe.specs.declared.describe.kept.KeptImage.TheVariants.{Legacy, Fit}
use Rattle.bi_describe.specs.declared.describe.kept.legacy.KeptLegacy.{KeptLegacy}
use Rattle.bi_describe.specs.declared.describe.kept.tree.KeptFit.{KeptFit}
use Rattle.bi_describe.specs.KeptEntries.{root_entries}
use Rattle.bi_describe.specs.KeptImages.{IsKeptImage, IsKeptLegacy, IsKeptTree, numbered_part}
use Rattle.bi_describe.specs.ReducedMeanings.{OfReducedLegacy, OfReducedTree, ReducedLegacy, ReducedMeaning, ReducedTree, fields_alone}
use Rattle.bi_describe.specs.TreeEntries.{as_entry}
use Rattle.bi_describe.proofs.EntriesApart.{roots_apart}

-- What stays of two images is the same if and only if it is for the code.

-- What the code compares of legacy images,
abbrev pub AreSameLegacy : (one other : KeptLegacy) → Type 0
AreSameLegacy one other =
    (fields_alone (image_of one.fields []) ≡ fields_alone (image_of other.fields []))
    × (one.time ≡ other.time)
    × (map numbered_part one.parts.items ≡ map numbered_part other.parts.items)

pub legacy_same : (image others : ReducedLegacy) (one other : KeptLegacy) → IsKeptLegacy image one → IsKeptLegacy others other →
    AreSameLegacy one other ↔ (image ≡ others)
legacy_same image others one other is also = (
  (λ same. (λ i. record {
    fields = (sym is.fields ∙ same.0 ∙ also.fields) i;
    time = (sym is.time ∙ same.1 ∙ also.time) i;
    parts = (sym is.parts ∙ same.2 ∙ also.parts) i;
  })),
  (λ same. (
    is.fields ∙ ap (λ (image : ReducedLegacy). image.fields) same ∙ sym also.fields,
    is.time ∙ ap (λ (image : ReducedLegacy). image.time) same ∙ sym also.time,
    is.parts ∙ ap (λ (image : ReducedLegacy). image.parts) same ∙ sym also.parts,
  )),
)

-- and of trees.
abbrev pub AreSameTrees : (one other : KeptFit) → Type 0
AreSameTrees one other =
    (one.blob.now.cpu ≡ other.blob.now.cpu)
    × (one.blob.now.reservations ≡ other.blob.now.reservations)
    × (option_map (λ entries. map as_entry entries.items) one.entries ≡ option_map (λ entries. map as_entry entries.items) other.entries)

pub trees_same : (tree others : ReducedTree) (one other : KeptFit) → IsKeptTree tree one → IsKeptTree others other →
    AreSameTrees one other ↔ (tree ≡ others)
trees_same tree others one other is also = (
  (λ same. (λ i. record {
    cpu = (sym is.cpu ∙ same.0 ∙ also.cpu) i;
    reservations = (sym is.reservations ∙ same.1 ∙ also.reservations) i;
    root = roots_apart tree.root others.root (sym is.entries ∙ same.2 ∙ also.entries) i;
  })),
  (λ same. (
    is.cpu ∙ ap (λ (tree : ReducedTree). tree.cpu) same ∙ sym also.cpu,
    is.reservations ∙ ap (λ (tree : ReducedTree). tree.reservations) same ∙ sym also.reservations,
    is.entries ∙ ap (λ (tree : ReducedTree). root_entries tree.root) same ∙ sym also.entries,
  )),
)

-- Reduced meanings of legacy images are the same only if the reduced images are.
same_of_legacy : (one other : ReducedLegacy) → OfReducedLegacy one ≡ OfReducedLegacy other → one ≡ other
same_of_legacy one other same = cc

same_of_tree : (one other : ReducedTree) → OfReducedTree one ≡ OfReducedTree other → one ≡ other
same_of_tree one other same = cc

pub legacy_as_meanings : (one other : ReducedLegacy) → (one ≡ other) ↔ (OfReducedLegacy one ≡ OfReducedLegacy other)
legacy_as_meanings one other = (ap OfReducedLegacy, same_of_legacy one other)

pub trees_as_meanings : (one other : ReducedTree) → (one ≡ other) ↔ (OfReducedTree one ≡ OfReducedTree other)
trees_as_meanings one other = (ap OfReducedTree, same_of_tree one other)

-- What holds of two legacy images, or of two trees, holds of the meanings that stay of two images.
pub legacy_images_by : (Same : (one other : ReducedMeaning) → Type 0) (one other : KeptImage) (a b : KeptLegacy) → one ≡ Legacy a →
    other ≡ Legacy b → ((image others : ReducedLegacy) → IsKeptLegacy image a → IsKeptLegacy others b →
    Same (OfReducedLegacy image) (OfReducedLegacy others)) → (meaning other_meaning : ReducedMeaning) → IsKeptImage meaning one →
    IsKeptImage other_meaning other → Same meaning other_meaning
legacy_images_by Same one other a b is also same meaning other_meaning kept other_kept =
    by meaning other_meaning (subst (IsKeptImage meaning) is kept) (subst (IsKeptImage other_meaning) also other_kept)
  where
    by : (meaning other_meaning : ReducedMeaning) → IsKeptImage meaning (Legacy a) → IsKeptImage other_meaning (Legacy b) →
        Same meaning other_meaning
    by (OfReducedLegacy image) (OfReducedLegacy others) kept other_kept = same image others kept other_kept
    by (OfReducedLegacy image) (OfReducedTree others) kept other_kept = absurd other_kept
    by (OfReducedTree tree) other_meaning kept other_kept = absurd kept

pub fit_images_by : (Same : (one other : ReducedMeaning) → Type 0) (one other : KeptImage) (a b : KeptFit) → one ≡ Fit a →
    other ≡ Fit b → ((tree others : ReducedTree) → IsKeptTree tree a → IsKeptTree others b →
    Same (OfReducedTree tree) (OfReducedTree others)) → (meaning other_meaning : ReducedMeaning) → IsKeptImage meaning one →
    IsKeptImage other_meaning other → Same meaning other_meaning
fit_images_by Same one other a b is also same meaning other_meaning kept other_kept =
    by meaning other_meaning (subst (IsKeptImage meaning) is kept) (subst (IsKeptImage other_meaning) also other_kept)
  where
    by : (meaning other_meaning : ReducedMeaning) → IsKeptImage meaning (Fit a) → IsKeptImage other_meaning (Fit b) →
        Same meaning other_meaning
    by (OfReducedTree tree) (OfReducedTree others) kept other_kept = same tree others kept other_kept
    by (OfReducedTree tree) (OfReducedLegacy others) kept other_kept = absurd other_kept
    by (OfReducedLegacy image) other_meaning kept other_kept = absurd kept

-- Whether two legacy images are the same decides whether their meanings are.
pub legacy_images_same : (result : Bool) (one other : KeptImage) (a b : KeptLegacy) → one ≡ Legacy a → other ≡ Legacy b →
    ((image others : ReducedLegacy) → IsKeptLegacy image a → IsKeptLegacy others b → IsTrue result ↔ (image ≡ others)) →
    (meaning other_meaning : ReducedMeaning) → IsKeptImage meaning one → IsKeptImage other_meaning other →
    IsTrue result ↔ (meaning ≡ other_meaning)
legacy_images_same result one other a b is also same meaning other_meaning kept other_kept =
    by meaning other_meaning (subst (IsKeptImage meaning) is kept) (subst (IsKeptImage other_meaning) also other_kept)
  where
    by : (meaning other_meaning : ReducedMeaning) → IsKeptImage meaning (Legacy a) → IsKeptImage other_meaning (Legacy b) →
        IsTrue result ↔ (meaning ≡ other_meaning)
    by (OfReducedLegacy image) (OfReducedLegacy others) kept other_kept =
        let both = same image others kept other_kept in
        (λ yes. ap OfReducedLegacy (both.0 yes), λ equal. both.1 (same_of_legacy image others equal))
    by (OfReducedLegacy image) (OfReducedTree others) kept other_kept = absurd other_kept
    by (OfReducedTree tree) other_meaning kept other_kept = absurd kept

pub fit_images_same : (result : Bool) (one other : KeptImage) (a b : KeptFit) → one ≡ Fit a → other ≡ Fit b →
    ((tree others : ReducedTree) → IsKeptTree tree a → IsKeptTree others b → IsTrue result ↔ (tree ≡ others)) →
    (meaning other_meaning : ReducedMeaning) → IsKeptImage meaning one → IsKeptImage other_meaning other →
    IsTrue result ↔ (meaning ≡ other_meaning)
fit_images_same result one other a b is also same meaning other_meaning kept other_kept =
    by meaning other_meaning (subst (IsKeptImage meaning) is kept) (subst (IsKeptImage other_meaning) also other_kept)
  where
    by : (meaning other_meaning : ReducedMeaning) → IsKeptImage meaning (Fit a) → IsKeptImage other_meaning (Fit b) →
        IsTrue result ↔ (meaning ≡ other_meaning)
    by (OfReducedTree tree) (OfReducedTree others) kept other_kept =
        let both = same tree others kept other_kept in
        (λ yes. ap OfReducedTree (both.0 yes), λ equal. both.1 (same_of_tree tree others equal))
    by (OfReducedTree tree) (OfReducedLegacy others) kept other_kept = absurd other_kept
    by (OfReducedLegacy image) other_meaning kept other_kept = absurd kept
