use Rattle.std.proofs.Common.{◌≡◌, ℕ, ◌+◌, ◌-◌, List, length, Result, Ok, Err, OnOk, IfOk, IfErr, sym, ap, ◌∙◌, subst}
use Rattle.std.proofs.Common.{arith}
use Rattle.bi_base.specs.Cells.{AreBytes}
use Rattle.bi_base.specs.Limits.{Limits}
use Rattle.bi_base.specs.declared.fault.Fault.{Fault}
use Rattle.bi_base.proofs.FirstFault.{one_fault, not_both}
use Rattle.bi_legacy.specs.Meaning.{LegacyImage}
use Rattle.bi_legacy.specs.File.{LegacyMeans}
use Rattle.bi_legacy.specs.Faults.{IsLegacyFault, IsOnlyLegacyFault, HasNoLegacyFault, Passes, fault_of, legacy_checks}
use Rattle.bi_legacy.specs.Reading.{LegacyModel, IsReadLegacy}
use Rattle.bi_legacy.proofs.MeansNoFault.{means_no_fault}
use Rattle.bi_legacy.proofs.NormalForms.{has_normal_form}
use Rattle.bi_legacy.proofs.NoFaultMeans.{no_fault_means}
use Rattle.bi_legacy.specs.Parts.{parts_end}
use Rattle.bi_legacy.specs.ReadImage.{read_image, read_end}
use Rattle.bi_legacy.proofs.OneMeaning.{one_legacy_meaning}
use Rattle.bi_legacy.proofs.PartEnds.{read_end_is}
use Rattle.bi_legacy.proofs.PartsInFile.{parts_at_offsets, parts_end_in_file}

-- If the result of reading a file agrees with the checks, its value is that of the file and its fault is the only one.

-- The value is that of the file.
pub parsed_of : (file : List ℕ) (limits : Limits) (r : Result LegacyModel Fault) → AreBytes file → OnOk r (HasNoLegacyFault limits file) →
    IfOk r (λ value. value.image ≡ read_image file) → IfOk r (λ value. value.unused ≡ length file - (64 + read_end file)) →
    IfOk r (IsReadLegacy limits file)
parsed_of file limits (Ok value) bytes none image unused =
    let read = no_fault_means file limits bytes none in
    let means : LegacyMeans limits file value.image =
    subst (λ (image : LegacyImage). LegacyMeans limits file image) (sym image) read in
    let ends : read_end file ≡ parts_end value.image.image_type value.image.parts =
    sym (read_end_is file limits none) ∙ ap (λ (i : LegacyImage). parts_end i.image_type i.parts) (sym image) in
    record {
      means = means;
      only = λ other other_means. one_legacy_meaning file other (read_image file) other_means.is_file read.is_file ∙ sym image;
      at_offsets = parts_at_offsets file value.image means.is_file;
      unused = omega (arith, unused, ends, parts_end_in_file file value.image means.is_file);
      no_fault = none;
      normal_form = has_normal_form file value.image limits means;
    }
parsed_of file limits (Err fault) bytes none image unused = tt

-- The fault is the only one.
pub only_fault_of : (file : List ℕ) (limits : Limits) (r : Result LegacyModel Fault) → IfErr r (IsLegacyFault limits file) →
    IfErr r (IsOnlyLegacyFault limits file)
only_fault_of file limits (Ok value) first = tt
only_fault_of file limits (Err fault) first = record {
  is_fault = first;
  only = λ other another. one_fault (Passes limits file) (fault_of limits) (legacy_checks file) other fault another first;
  means_nothing = λ image means.
      not_both (Passes limits file) (fault_of limits) (legacy_checks file) fault (means_no_fault file image limits means) first;
}
