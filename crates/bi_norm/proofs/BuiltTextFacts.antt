use Rattle.std.proofs.Common.{◌≡◌, ◌+◌, ◌<◌, ◌≤◌, ℕ, List, [], ◌∷◌, ◌++◌, length, codes, refl, sym, ap, subst, lit<, lit≤, arith}
use Rattle.std.specs.Borrow.{Bor}
use Rattle.std.specs.List.{sum}
use Rattle.std.proofs.lemmas.List.Sums.{sum_by-append, sum_by-cons}
use Rattle.bi_base.specs.Checks.{HasNoFault}
use Rattle.bi_base.specs.declared.fault.Cause.TheVariants.{BadPart}
use Rattle.bi_base.specs.declared.fault.Error.{Error}
use Rattle.bi_base.specs.declared.fault.Error.TheVariants.{Refused, OutOfMemory, ReadFailed, WriteFailed}
use Rattle.bi_base.specs.declared.fault.Fault.{Fault}
use Rattle.bi_base.specs.Limits.{widest}
use Rattle.bi_base.specs.Reading.{too_large}
use Rattle.bi_base.proofs.FirstFault.{not_both, one_fault}
use Rattle.bi_blob.proofs.CheckDecisions.{lacks_byte, is_new, is_property_name, is_child_name, pass_by_test}
use Rattle.bi_fit.specs.declared.form.Form.TheVariants.{Embedded}
use Rattle.bi_fit.specs.KnownBuilds.{known_text}
use Rattle.bi_fit.proofs.BuildFacts.{built_is_known}
use Rattle.bi_fit.proofs.BuiltConfigurations.{by_types_is_plan}
use Rattle.bi_hash.specs.declared.algo.Algo.TheVariants.{Sha256}
use Rattle.bi_legacy.specs.Emitting.{EmitPasses, emit_fault, emit_checks}
use Rattle.bi_legacy.specs.KnownFaults.{limited_to}
use Rattle.bi_legacy.specs.KnownImages.{multi_image}
use Rattle.bi_legacy.proofs.EmitFaultFacts.{emit_faults_are_known}
use Rattle.bi_norm.specs.Cutting.{IsCutError, IsCutFault, TooLong, TooShort}
use Rattle.bi_norm.specs.FitBuilding.{BuildPasses, early_checks, IsBuilt, plain_plan, spec_models}
use Rattle.bi_norm.specs.KnownBuildFaults.{head_like}
use Rattle.bi_norm.specs.KnownBuiltTexts.{kernel_and_ramdisk, BuiltTextIsKnown, PlanFieldsAreKnown, LegacyBuildErrorsAreKnown}
use Rattle.bi_norm.specs.KnownPieces.{CutErrorsAreKnown}
use Rattle.bi_norm.specs.LegacyBuilding.{IsBuildLegacyError}
use Rattle.bi_norm.proofs.BuildTests.{build_test, build_test_decides}
use Rattle.bi_norm.proofs.BuiltTexts.{text_is_built}
use Rattle.bi_norm.proofs.ConvertedImages.{converted_can_be_built}
use Rattle.bi_norm.proofs.ConvertFacts.{two_is_image}
use Rattle.bi_norm.specs.KnownConvertedFiles.{multi_of_two}

-- Small images and inputs are built and cut with known results and errors, and nothing else.

-- ---- flattened image trees

all_pass : (any : Bor (List ℕ)) →
    HasNoFault (BuildPasses widest Embedded (head_like any (codes "k")) plain_plan (kernel_and_ramdisk any))
    (early_checks plain_plan (kernel_and_ramdisk any))
unfolding build_test lacks_byte is_new is_child_name is_property_name
all_pass any =
    pass_by_test (BuildPasses widest Embedded (head_like any (codes "k")) plain_plan (kernel_and_ramdisk any)) (λ check. too_large 0)
    (build_test widest Embedded (head_like any (codes "k")) plain_plan (kernel_and_ramdisk any))
    (build_test_decides widest Embedded (head_like any (codes "k")) plain_plan (kernel_and_ramdisk any))
    (early_checks plain_plan (kernel_and_ramdisk any)) refl

is_built : (any : Bor (List ℕ)) (text : List ℕ) → text ≡ known_text →
    IsBuilt widest Embedded (head_like any (codes "k")) (kernel_and_ramdisk any) text
is_built any text same =
    text_is_built widest Embedded (head_like any (codes "k")) plain_plan (kernel_and_ramdisk any) (all_pass any)
    (converted_can_be_built multi_of_two two_is_image)
    (by_types_is_plan (Sha256 ∷ []) (spec_models plain_plan (kernel_and_ramdisk any)) (lit< tt)) (lit≤ tt) text
    (record { is_text = same; short = omega (arith, ap length same, built_is_known.is_length) })

pub built_text_is_known : BuiltTextIsKnown
built_text_is_known any text = ((λ is. is.is_text), is_built any text)

pub plan_fields_are_known : PlanFieldsAreKnown
plan_fields_are_known any =
    record {
      names = refl;
      lists = refl;
      default = refl;
      no_default = refl;
      algorithms = refl;
      texts = refl;
      descriptions = refl;
      configuration_descriptions = refl;
      compatibles = refl;
    }

-- ---- legacy images

past_limit_error : (error : Error) → IsBuildLegacyError (limited_to 86) multi_image error → error ≡ Refused (too_large 86)
past_limit_error (Refused fault) is =
    ap Refused (one_fault (EmitPasses (limited_to 86) multi_image) (emit_fault (limited_to 86)) (emit_checks multi_image) fault
    (too_large 86) is emit_faults_are_known.past_limit)
past_limit_error OutOfMemory is =
    absurd (not_both (EmitPasses (limited_to 86) multi_image) (emit_fault (limited_to 86)) (emit_checks multi_image) (too_large 86) is
    emit_faults_are_known.past_limit)
past_limit_error ReadFailed is = absurd is
past_limit_error WriteFailed is = absurd is

at_limit_error : (error : Error) → IsBuildLegacyError (limited_to 87) multi_image error → error ≡ OutOfMemory
at_limit_error (Refused fault) is =
    absurd (not_both (EmitPasses (limited_to 87) multi_image) (emit_fault (limited_to 87)) (emit_checks multi_image) fault
    emit_faults_are_known.at_limit is)
at_limit_error OutOfMemory is = refl
at_limit_error ReadFailed is = absurd is
at_limit_error WriteFailed is = absurd is

pub legacy_build_errors_are_known : LegacyBuildErrorsAreKnown
legacy_build_errors_are_known = record {
  past_limit = λ error. (
    past_limit_error error,
    λ same. subst (IsBuildLegacyError (limited_to 86) multi_image) (sym same) emit_faults_are_known.past_limit,
  );
  at_limit = λ error. (
    at_limit_error error,
    λ same. subst (IsBuildLegacyError (limited_to 87) multi_image) (sym same) emit_faults_are_known.at_limit,
  );
}

-- ---- pieces

-- A piece and those before it are no longer than all pieces.
front_of_sum : (before : List ℕ) (piece : ℕ) (later : List ℕ) → sum before + piece ≤ sum (before ++ piece ∷ later)
front_of_sum before piece later =
    let whole : sum (before ++ piece ∷ later) ≡ sum before + sum (piece ∷ later) = sum_by-append (λ (n : ℕ). n) before (piece ∷ later) in
    let first : sum (piece ∷ later) ≡ piece + sum later = sum_by-cons (λ (n : ℕ). n) piece later in
    omega (arith, whole, first)

-- The fault of an input that the pieces do not exceed: bytes are left.
bytes_are_left : (input lengths : List ℕ) (fault : Fault) → sum lengths ≤ length input → IsCutFault input lengths fault →
    (sum lengths < length input) × (fault ≡ record { cause = BadPart; offset = sum lengths })
bytes_are_left input lengths fault within is = elim is [
  | TooLong before piece later split starts past same ↦
      absurd (omega (arith, within, past, front_of_sum before piece later, ap sum split))
  | TooShort less same ↦ (less, same)
]

cut_error : (error : Error) → IsCutError (codes "helloabc") (5 ∷ 3 ∷ []) error → error ≡ OutOfMemory
cut_error (Refused fault) is =
    absurd (omega (arith, (bytes_are_left (codes "helloabc") (5 ∷ 3 ∷ []) fault (lit≤ tt) is).0))
cut_error OutOfMemory is = refl
cut_error ReadFailed is = absurd is
cut_error WriteFailed is = absurd is

left_error : (error : Error) → IsCutError (codes "helloabc") (5 ∷ []) error → error ≡ Refused (record { cause = BadPart; offset = 5 })
left_error (Refused fault) is = ap Refused (bytes_are_left (codes "helloabc") (5 ∷ []) fault (lit≤ tt) is).1
left_error OutOfMemory is = absurd (omega (arith, is))
left_error ReadFailed is = absurd is
left_error WriteFailed is = absurd is

pub cut_errors_are_known : CutErrorsAreKnown
cut_errors_are_known = record {
  cut = λ error. (cut_error error, λ same. subst (IsCutError (codes "helloabc") (5 ∷ 3 ∷ [])) (sym same) refl);
  left = λ error. (
    left_error error,
    λ same. subst (IsCutError (codes "helloabc") (5 ∷ [])) (sym same) (TooShort (lit≤ tt) refl),
  );
}
