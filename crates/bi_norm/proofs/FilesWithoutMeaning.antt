use Rattle.std.proofs.Common.{◌≡◌, ◌≢◌, ◌⊎◌, ℕ, ◌<◌, ◌≤◌, List, length, inl, inr, arith, refl, sym, ap, subst, rules}
use Rattle.std.proofs.lemmas.Bool.{cases_lt}
use Rattle.std.proofs.lemmas.Bool.Decides.{eqb_tells}
use Rattle.bi_base.specs.Reading.{too_large}
use Rattle.bi_norm.specs.Converting.{IsFileConvertFault, NotLegacy}
use Rattle.bi_norm.specs.Faults.{IsFileFault, OfLegacyImage, OfTree}
use Rattle.bi_base.specs.declared.fault.Cause.TheVariants.{BadMagic}
use Rattle.bi_base.specs.declared.fault.Error.{Error}
use Rattle.bi_base.specs.declared.fault.Error.TheVariants.{Refused, OutOfMemory, ReadFailed, WriteFailed}
use Rattle.bi_base.specs.declared.fault.Fault.{Fault}
use Rattle.bi_base.specs.Limits.{Limits}
use Rattle.bi_blob.specs.BlobFaults.{HasNoFaultBeforeTree, InHeader}
use Rattle.bi_fit.specs.ImageTree.{ImageTree}
use Rattle.bi_fit.specs.File.{FitMeans}
use Rattle.bi_fit.specs.Faults.{IsFitFault, InBlob}
use Rattle.bi_fit.specs.Reading.{IsFitReadError, IsOnlyFitFault}
use Rattle.bi_fit.proofs.Meanings.{begins_with_magic}
use Rattle.bi_legacy.specs.Meaning.{LegacyImage}
use Rattle.bi_legacy.specs.File.{LegacyMeans}
use Rattle.bi_legacy.specs.Faults.{IsLegacyFault, IsOnlyLegacyFault}
use Rattle.bi_legacy.proofs.Magic.{file_begins}
use Rattle.bi_norm.specs.declared.kind.Kind.TheVariants.{Legacy}
use Rattle.bi_norm.specs.Kinds.{BeginsAs}
use Rattle.bi_norm.specs.Meaning.{OfLegacy, OfFit, MeansNothing}
use Rattle.bi_norm.specs.Reading.{IsBootImageReadError, NeedsMemory, ForTree}

-- A file that is too long means nothing and has this fault. A file that has no tree and has a fault as a legacy image means nothing and has
-- that fault.

-- A number is at most another or not.
nat_le_decided : (a b : ℕ) → (a ≤ b) ⊎ ¬ (a ≤ b)
nat_le_decided a b = search (rules, cases_lt)

-- A file begins as a legacy image or not.
pub legacy_or_not : (file : List ℕ) → BeginsAs file Legacy ⊎ ¬ (BeginsAs file Legacy)
legacy_or_not file = search (rules, nat_le_decided, eqb_tells)

-- A file that means a legacy image begins with its magic number.
pub means_legacy : (limits : Limits) (file : List ℕ) (image : LegacyImage) → LegacyMeans limits file image → BeginsAs file Legacy
means_legacy limits file image means =
    let begins = file_begins file image means.is_file in record { whole = begins.whole; magic = begins.magic }

-- A file that means a flattened image tree does not begin as a legacy image.
pub means_tree : (limits : Limits) (file : List ℕ) (tree : ImageTree) → FitMeans limits file tree → ¬ (BeginsAs file Legacy)
means_tree limits file tree means begins =
    omega (arith, begins.magic, begins_with_magic file tree means.is_file)

-- The fault of a file that is too long.
pub too_long_is_file_fault : (limits : Limits) (file : List ℕ) → limits.file < length file → IsFileFault limits file (too_large limits.file)
too_long_is_file_fault limits file longer = grind (arith, legacy_or_not)

-- It is not converted.
pub too_long_is_not_converted : (limits : Limits) (file : List ℕ) → limits.file < length file →
    IsFileConvertFault limits file (too_large limits.file)
too_long_is_not_converted limits file longer =
    NotLegacy (inl (λ short. omega (arith, longer, short), refl)) (λ image means. omega (arith, longer, means.short))

-- A file that is too long means nothing.
pub too_long_means_nothing : (limits : Limits) (file : List ℕ) → limits.file < length file → MeansNothing limits file
too_long_means_nothing limits file longer (OfLegacy image) means = omega (arith, longer, means.short)
too_long_means_nothing limits file longer (OfFit tree) means = omega (arith, longer, means.within.short)

-- A file that means neither a legacy image nor a flattened image tree means nothing.
neither_means_nothing : (limits : Limits) (file : List ℕ) → ((image : LegacyImage) → ¬ (LegacyMeans limits file image)) →
    ((tree : ImageTree) → ¬ (FitMeans limits file tree)) → MeansNothing limits file
neither_means_nothing limits file no_image no_tree (OfLegacy image) means = no_image image means
neither_means_nothing limits file no_image no_tree (OfFit tree) means = no_tree tree means

-- The fault of a file without the magic number of a tree.
abbrev pub no_tree_fault : Fault
no_tree_fault = record { cause = BadMagic; offset = 0 }

-- A file that begins as a legacy image, and is not too long, has this fault as a tree.
legacy_is_no_tree : (limits : Limits) (file : List ℕ) → BeginsAs file Legacy → length file ≤ limits.file →
    IsFitFault limits file no_tree_fault
legacy_is_no_tree limits file begins short =
    InBlob (InHeader (inr (short, inr (begins.whole, inl (λ magic. omega (arith, begins.magic, magic), refl)))))

-- Another fault of a file as a tree is its fault.
tree_fault : (limits : Limits) (file : List ℕ) (fault : Fault) → fault ≢ no_tree_fault → IsOnlyFitFault limits file fault →
    IsFileFault limits file fault × MeansNothing limits file
tree_fault limits file fault other is = by (legacy_or_not file) (nat_le_decided (length file) limits.file) where
  by : BeginsAs file Legacy ⊎ ¬ (BeginsAs file Legacy) → (length file ≤ limits.file) ⊎ ¬ (length file ≤ limits.file) →
      IsFileFault limits file fault × MeansNothing limits file
  by (inl begins) (inl short) = absurd (other (sym (is.only no_tree_fault (legacy_is_no_tree limits file begins short))))
  by (inl begins) (inr long) =
      let same : too_large limits.file ≡ fault = is.only (too_large limits.file) (InBlob (InHeader (inl (long, refl)))) in
      (OfLegacyImage begins (inl (long, sym same)), neither_means_nothing limits file (λ image means. long means.short) is.means_nothing)
  by (inr no_legacy) decided = (
    OfTree no_legacy is.is_fault,
    neither_means_nothing limits file
        (λ image means. no_legacy (means_legacy limits file image means)) is.means_nothing,
  )

-- Reading a tree needs memory only for a file that needs it.
tree_needs_memory : (limits : Limits) (file : List ℕ) → HasNoFaultBeforeTree limits file → NeedsMemory limits file
tree_needs_memory limits file fine = ForTree (λ begins. omega (arith, begins.magic, fine.header.1.1.0)) fine

-- Another error of reading a file as a tree is that of reading it as a boot image.
pub tree_error : (limits : Limits) (file : List ℕ) (error : Error) → error ≢ Refused no_tree_fault → IsFitReadError limits file error →
    IsBootImageReadError limits file error
tree_error limits file (Refused fault) other is = tree_fault limits file fault (λ same. other (ap Refused same)) is
tree_error limits file OutOfMemory other is = tree_needs_memory limits file is
tree_error limits file ReadFailed other is = is
tree_error limits file WriteFailed other is = is

-- The fault as a legacy image of a file that does not begin as one, but has this fault as a tree, is its fault as a tree.
both_faults : (limits : Limits) (file : List ℕ) (fault : Fault) → ¬ (BeginsAs file Legacy) → IsFitFault limits file no_tree_fault →
    IsLegacyFault limits file fault → IsFitFault limits file fault
both_faults limits file fault no_legacy no_tree (inl long) = InBlob (InHeader (inl long))
both_faults limits file fault no_legacy no_tree (inr (short, inl few)) = InBlob (InHeader (inr (short, inl few)))
both_faults limits file fault no_legacy no_tree (inr (short, inr (whole, inl other))) = subst (IsFitFault limits file) (sym other.1) no_tree
both_faults limits file fault no_legacy no_tree (inr (short, inr (whole, inr later))) =
    absurd (no_legacy (record { whole = whole; magic = later.0 }))

-- The fault as a legacy image of a file that has this fault as a tree is its fault.
pub legacy_fault : (limits : Limits) (file : List ℕ) (fault : Fault) → IsOnlyFitFault limits file no_tree_fault →
    IsOnlyLegacyFault limits file fault → IsFileFault limits file fault × MeansNothing limits file
legacy_fault limits file fault no_tree is =
    (by (legacy_or_not file), neither_means_nothing limits file is.means_nothing no_tree.means_nothing) where
      by : BeginsAs file Legacy ⊎ ¬ (BeginsAs file Legacy) → IsFileFault limits file fault
      by (inl begins) = OfLegacyImage begins is.is_fault
      by (inr no_legacy) = OfTree no_legacy (both_faults limits file fault no_legacy no_tree.is_fault is.is_fault)
