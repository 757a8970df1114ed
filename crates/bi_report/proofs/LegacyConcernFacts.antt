use Rattle.std.proofs.Common.{◌≡◌, ◌+◌, ◌-◌, ℕ, List, ◌∷◌, None, length, drop, IsFalse, IsTrue, refl, sym, ap, subst, ◌∙◌, arith}
use Rattle.std.proofs.Common.{true≢false}
use Rattle.bi_base.specs.Cells.{cell}
use Rattle.bi_base.specs.Limits.{widest}
use Rattle.bi_legacy.specs.File.{header, LegacyMeans}
use Rattle.bi_legacy.specs.KnownFaults.{file_of_data}
use Rattle.bi_legacy.specs.KnownFiles.{kernel_file_with_rest, multi_data_with_rest}
use Rattle.bi_legacy.specs.KnownImages.{kernel_file, kernel_image, multi_image}
use Rattle.bi_legacy.specs.Laws.{OneLegacyMeaning}
use Rattle.bi_legacy.specs.Meaning.{LegacyImage}
use Rattle.bi_legacy.specs.Parts.{parts_end}
use Rattle.bi_legacy.specs.Reading.{LegacyModel, IsReadLegacy}
use Rattle.bi_legacy.proofs.MeansNoFault.{means_no_fault}
use Rattle.bi_legacy.proofs.NormalForms.{has_normal_form}
use Rattle.bi_legacy.proofs.PartsInFile.{parts_at_offsets}
use Rattle.bi_norm.proofs.ComparisonFacts.{kernel_means, kernel_with_rest_means, multi_with_rest_means}
use Rattle.bi_norm.proofs.KindLaws.{one_kind}
use Rattle.bi_report.specs.declared.check.Allowed.{Allowed}
use Rattle.bi_report.specs.Checking.{Concern, AreConcerns, OfLegacyImage, OfImageTree, Unsigned, nothing_allowed, trailing_concerns}
use Rattle.bi_report.specs.CleanFiles.{IsClean, CleanLegacyImage, CleanImageTree, AreZeros}
use Rattle.bi_report.specs.KnownConcerns.{HasOnlyConcerns, LegacyConcernsAreKnown}

-- The bytes after the last part of a small legacy image are those that have a line.

module _ (one_legacy : OneLegacyMeaning) (file : List ℕ) (image : LegacyImage) (means : LegacyMeans widest file image) (unused : ℕ)
    (ends : 64 + parts_end image.image_type image.parts + unused ≡ length file) where
  -- What is read, and the bytes after it.
  abbrev pub known_model : LegacyModel
  known_model = record { image = image; unused = unused }

  abbrev bytes_after : List ℕ
  bytes_after = drop (length file - unused) file

  pub is_read : IsReadLegacy widest file known_model
  is_read = record {
    means = means;
    only = λ other other_means. one_legacy file other image other_means.is_file means.is_file;
    at_offsets = parts_at_offsets file image means.is_file;
    unused = ends;
    no_fault = means_no_fault file image widest means;
    normal_form = has_normal_form file image widest means;
  }

  -- No other number of bytes is unused.
  same_unused : (other : LegacyModel) → IsReadLegacy widest file other → other.unused ≡ unused
  same_unused other read =
      let same = one_legacy file other.image image read.means.is_file means.is_file in
      omega (arith, ap (λ (i : LegacyImage). parts_end i.image_type i.parts) same, ends, read.unused)

  only_these : (others : List Concern) → AreConcerns widest file others → others ≡ Unsigned None ∷ trailing_concerns bytes_after
  only_these others (OfLegacyImage other read is) =
      is ∙ ap (λ n. Unsigned None ∷ trailing_concerns (drop (length file - n) file)) (same_unused other read)
  only_these others (OfImageTree tree tree_means is) = absurd (one_kind file image tree means.is_file tree_means.is_file)

  legacy_concerns : HasOnlyConcerns file (Unsigned None ∷ trailing_concerns bytes_after)
  legacy_concerns = record { are_concerns = OfLegacyImage known_model is_read refl; only = only_these }

  -- The image is clean if and only if a lack of signatures is allowed, and these bytes are zero or allowed.
  legacy_clean : (allowed : Allowed) → IsTrue allowed.unsigned → (IsFalse allowed.trailing → AreZeros bytes_after) →
      IsClean allowed widest file
  legacy_clean allowed unsigned zeros = CleanLegacyImage known_model is_read unsigned zeros

  legacy_unsigned : (allowed : Allowed) → IsClean allowed widest file → IsTrue allowed.unsigned
  legacy_unsigned allowed (CleanLegacyImage other read unsigned zeros) = unsigned
  legacy_unsigned allowed (CleanImageTree tree tree_means clean reach zeros) =
      absurd (one_kind file image tree means.is_file tree_means.is_file)

  legacy_zeros : (allowed : Allowed) → IsClean allowed widest file → IsFalse allowed.trailing → AreZeros bytes_after
  legacy_zeros allowed (CleanLegacyImage other read unsigned zeros) refused =
      subst (λ n. AreZeros (drop (length file - n) file)) (same_unused other read) (zeros refused)
  legacy_zeros allowed (CleanImageTree tree tree_means clean reach zeros) refused =
      absurd (one_kind file image tree means.is_file tree_means.is_file)

pub legacy_concerns_are_known : OneLegacyMeaning → LegacyConcernsAreKnown
unfolding header cell
legacy_concerns_are_known one_legacy = record {
  after_data = legacy_concerns one_legacy kernel_file_with_rest kernel_image kernel_with_rest_means 7 refl;
  after_data_is_not_clean = λ clean.
      let zeros = legacy_zeros one_legacy kernel_file_with_rest kernel_image kernel_with_rest_means 7 refl _ clean refl in
      omega (arith, zeros.0);
  after_data_is_allowed = legacy_clean one_legacy kernel_file_with_rest kernel_image kernel_with_rest_means 7 refl _ refl
      (λ refused. absurd cc);
  in_data = legacy_concerns one_legacy (file_of_data 4 multi_data_with_rest) multi_image multi_with_rest_means 2 refl;
  in_data_is_not_clean = λ clean.
      let zeros = legacy_zeros one_legacy (file_of_data 4 multi_data_with_rest) multi_image multi_with_rest_means 2 refl _ clean refl in
      omega (arith, zeros.0);
  nothing = legacy_concerns one_legacy kernel_file kernel_image kernel_means 0 refl;
  nothing_is_clean = legacy_clean one_legacy kernel_file kernel_image kernel_means 0 refl _ refl (λ refused. tt);
  signature_is_asked_for = λ clean.
      true≢false (sym (legacy_unsigned one_legacy kernel_file kernel_image kernel_means 0 refl nothing_allowed clean));
}
