use Rattle.std.proofs.Common.{◌≡◌, ◌≤◌, ◌<◌, ◌⊎◌, ℕ, List, [], ◌∷◌, length, codes, refl, sym, ap, subst, ◌∙◌, true≢false, inl, inr}
use Rattle.std.proofs.Common.{lit≤, lit<, le_refl, lt_irrefl, arith}
use Rattle.std.specs.Borrow.{Bor}
use Rattle.bi_base.specs.declared.fault.Error.{Error}
use Rattle.bi_base.specs.declared.fault.Error.TheVariants.{OutOfMemory, ReadFailed, Refused, WriteFailed}
use Rattle.bi_base.specs.declared.fault.Fault.{Fault}
use Rattle.bi_base.specs.Cells.{u32_at}
use Rattle.bi_base.specs.Limits.{Limits, widest}
use Rattle.bi_base.specs.Reading.{too_large}
use Rattle.bi_base.proofs.ListMembers.{Contains-first, Contains-others}
use Rattle.bi_hash.specs.declared.algo.Algo.TheVariants.{Crc32, Sha1, Sha256, Sha512}
use Rattle.bi_fit.specs.declared.form.Form.TheVariants.{Embedded}
use Rattle.bi_fit.specs.ImageTree.{ImageTree}
use Rattle.bi_fit.specs.KnownBuilds.{known_text}
use Rattle.bi_fit.specs.KnownFiles.{shared_file, shared_region, shared_tree}
use Rattle.bi_fit.proofs.BuildFacts.{built_is_known}
use Rattle.bi_fit.proofs.FileFacts.{shared_region_is_repeated}
use Rattle.bi_fit.proofs.Meanings.{one_fit_meaning}
use Rattle.bi_legacy.specs.KnownFaults.{limited_to}
use Rattle.bi_legacy.specs.KnownImages.{kernel_file, kernel_image}
use Rattle.bi_norm.specs.FitBuilding.{IsBuilt, plain_plan}
use Rattle.bi_norm.specs.KnownBuildFaults.{head_like}
use Rattle.bi_norm.specs.KnownBuiltTexts.{kernel_and_ramdisk}
use Rattle.bi_norm.specs.KnownComparisons.{file_without_magic, no_magic}
use Rattle.bi_norm.specs.Meaning.{Meaning, Means, OfFit, OfLegacy}
use Rattle.bi_norm.specs.Reading.{ForLegacyImage, ForTree, NeedsMemory}
use Rattle.bi_norm.proofs.BuiltTextFacts.{built_text_is_known}
use Rattle.bi_norm.proofs.ComparisonFacts.{kernel_means, no_magic_is_error}
use Rattle.bi_norm.proofs.KindLaws.{one_file_fault, one_kind}
use Rattle.bi_norm.proofs.NormalForms.{needs_memory}
use Rattle.bi_norm.proofs.TextBoundFacts.{shared_means}
use Rattle.bi_common.specs.PayloadBounds.{payloads_length}
use Rattle.bi_coverage.specs.Signatures.{all_needed_length}
use Rattle.bi_report.specs.declared.check.Allowed.{Allowed}
use Rattle.bi_report.specs.CheckedFiles.{HoldsTooMuch, IsCheckError}
use Rattle.bi_report.specs.Checking.{allowed_by_default, nothing_allowed}
use Rattle.bi_report.specs.CleanFiles.{HasStrongAlgorithm, IsBuiltClean, ProtectImages}
use Rattle.bi_report.specs.KnownChecks.{BuiltCheckIsKnown, CheckErrorsAreKnown, FailsChecking, PayloadBoundIsKnown, ProtectionIsKnown}
use Rattle.bi_report.specs.SignedTrees.{IsOverCheckBound}
use Rattle.bi_report.proofs.CleanLaws.BuiltIsClean.{strong_passes}
use Rattle.bi_report.proofs.CleanLaws.BuiltTextIsClean.{built_text_is_clean}

-- A small image tree can be built, and its text is clean. Some algorithms protect images, and some images have more payload than a limit.
-- Small files have known errors.

-- ---- what protects images

sha256_is_strong : HasStrongAlgorithm (Sha256 ∷ [])
sha256_is_strong = record {
  algo = Sha256;
  is_there = Contains-first Sha256 [];
  is_strong = Contains-first (codes "sha256") (codes "sha384" ∷ codes "sha512" ∷ []);
}

sha512_is_strong : HasStrongAlgorithm (Crc32 ∷ Sha512 ∷ [])
sha512_is_strong = record {
  algo = Sha512;
  is_there = Contains-others Crc32 (Sha512 ∷ []) Sha512 (Contains-first Sha512 []);
  is_strong = Contains-others (codes "sha256") (codes "sha384" ∷ codes "sha512" ∷ []) (codes "sha512")
      (Contains-others (codes "sha384") (codes "sha512" ∷ []) (codes "sha512") (Contains-first (codes "sha512") []));
}

strong_protects : (allowed : Allowed) → ProtectImages allowed (Sha256 ∷ [])
strong_protects allowed = record { unhashed = λ refused none. absurd cc; weak_hash = λ refused some. sha256_is_strong }

pub protection_is_known : ProtectionIsKnown
protection_is_known = record {
  strong = strong_protects nothing_allowed;
  strong_after_weak = record { unhashed = λ refused none. absurd cc; weak_hash = λ refused some. sha512_is_strong };
  weak = λ protect. true≢false
      (sym (strong_passes (Crc32 ∷ Sha1 ∷ []) (protect.weak_hash refl (λ none. absurd cc))));
  weak_is_allowed = record { unhashed = λ refused none. absurd cc; weak_hash = λ refused some. absurd (true≢false refused) };
  none = λ protect. protect.unhashed refl refl;
  none_is_allowed = record { unhashed = λ refused none. true≢false refused; weak_hash = λ refused some. absurd (some refl) };
}

-- ---- what is built

known_short : length known_text ≤ 0x7fffffff
known_short = subst (λ n. n ≤ 0x7fffffff) (sym built_is_known.is_length) (lit≤ tt)

module _ (any : Bor (List ℕ)) where
  is_built : IsBuilt widest Embedded (head_like any (codes "k")) (kernel_and_ramdisk any) known_text
  is_built = (built_text_is_known any known_text).1 refl

  checked : IsBuiltClean allowed_by_default widest (kernel_and_ramdisk any) (Sha256 ∷ []) known_text
  checked = built_text_is_clean allowed_by_default widest widest Embedded (head_like any (codes "k")) plain_plan (kernel_and_ramdisk any)
      known_text is_built (lit≤ tt) known_short (le_refl 0x7fffffff)

pub built_check_is_known : BuiltCheckIsKnown
built_check_is_known any = record {
  is_built = is_built any;
  is_clean = (checked any).is_clean.1 (refl, inr (strong_protects allowed_by_default));
  error = (checked any).error;
}

-- ---- the bound on payloads

payloads_are : payloads_length (shared_tree shared_region).payloads ≡ 3000
payloads_are = refl

-- There are no configurations, so no paths are needed.
paths_are : all_needed_length (shared_tree shared_region) ≡ 0
paths_are = refl

shared_is_over : HoldsTooMuch (limited_to 2999) (shared_file 0 1000)
shared_is_over = record {
  meaning = OfFit (shared_tree shared_region);
  means = shared_means 2999 (lit≤ tt);
  is_over = inl (subst (λ n. 2999 < n) (sym payloads_are) (lit< tt));
}

-- The file means nothing else.
shared_is_within : (meaning : Meaning) → Means (limited_to 3000) (shared_file 0 1000) meaning →
    ¬ (IsOverCheckBound (limited_to 3000) meaning)
shared_is_within (OfLegacy image) is (inl over) = over
shared_is_within (OfLegacy image) is (inr over) = over
shared_is_within (OfFit tree) is (inr over) =
    let same : tree ≡ shared_tree shared_region
    = one_fit_meaning (shared_file 0 1000) tree (shared_tree shared_region) is.is_file shared_region_is_repeated.means in
    let long : 3000 < 0
    = subst (λ n. 3000 < n) (ap (λ (found : ImageTree). all_needed_length found) same ∙ paths_are) over in
    omega (arith, long)
shared_is_within (OfFit tree) is (inl over) =
    let same : tree ≡ shared_tree shared_region
    = one_fit_meaning (shared_file 0 1000) tree (shared_tree shared_region) is.is_file shared_region_is_repeated.means in
    let long : 3000 < 3000
    = subst (λ n. 3000 < n) (ap (λ (found : ImageTree). payloads_length found.payloads) same ∙ payloads_are) over in
    lt_irrefl 3000 long

within_bound : ¬ (HoldsTooMuch (limited_to 3000) (shared_file 0 1000))
within_bound over = shared_is_within over.meaning over.means over.is_over

pub payload_bound_is_known : PayloadBoundIsKnown
payload_bound_is_known = record { is_over = shared_is_over; is_within = within_bound }

-- ---- errors

-- What holds for each error of checking a file.
each_error : (limits : Limits) (file : List ℕ) (IsOne : Error → Type 0) →
    ((fault : Fault) → IsCheckError limits file (Refused fault) → IsOne (Refused fault)) → (NeedsMemory limits file → IsOne OutOfMemory) →
    (error : Error) → IsCheckError limits file error → IsOne error
each_error limits file IsOne refused memory (Refused fault) is = refused fault is
each_error limits file IsOne refused memory OutOfMemory is = memory is
each_error limits file IsOne refused memory ReadFailed is = absurd is
each_error limits file IsOne refused memory WriteFailed is = absurd is

-- A file that means something, whose payloads are within the limit, has no other error than that memory runs out.
memory_alone : (limits : Limits) (file : List ℕ) (meaning : Meaning) → Means limits file meaning → ¬ (HoldsTooMuch limits file) →
    FailsChecking limits file (λ error. error ≡ OutOfMemory)
memory_alone limits file meaning means within format allowed error = (
  each_error limits file (λ error. error ≡ OutOfMemory)
      (λ fault is. elim is [ inl read ↦ absurd (read.1 meaning means) | inr over ↦ absurd (within over.0) ])
      (λ needs. refl) error,
  λ same. subst (IsCheckError limits file) (sym same) (needs_memory limits file meaning means),
)

-- No legacy image holds too much.
kernel_is_within : (meaning : Meaning) → Means widest kernel_file meaning → ¬ (IsOverCheckBound widest meaning)
kernel_is_within (OfLegacy image) means (inl over) = over
kernel_is_within (OfLegacy image) means (inr over) = over
kernel_is_within (OfFit tree) means over = one_kind kernel_file kernel_image tree kernel_means.is_file means.is_file

abbrev shared_error : Error → Type 0
shared_error = IsCheckError (limited_to 2999) (shared_file 0 1000)

shared_errors : FailsChecking (limited_to 2999) (shared_file 0 1000) (λ error. (error ≡ Refused (too_large 2999)) ⊎ (error ≡ OutOfMemory))
shared_errors format allowed error =
    let meaning = OfFit (shared_tree shared_region) in
    let means = shared_means 2999 (lit≤ tt) in (
      each_error (limited_to 2999) (shared_file 0 1000) (λ error. (error ≡ Refused (too_large 2999)) ⊎ (error ≡ OutOfMemory))
          (λ fault is. elim is [ inl read ↦ absurd (read.1 meaning means) | inr over ↦ inl (ap Refused over.1) ])
          (λ needs. inr refl) error,
      λ is. elim is [
        | inl same ↦ subst shared_error (sym same) (inr (shared_is_over, refl))
        | inr same ↦ subst shared_error (sym same) (needs_memory (limited_to 2999) (shared_file 0 1000) meaning means)
      ],
    )

-- A file without a magic number needs no memory, since its header is checked first.
no_magic_errors : FailsChecking widest file_without_magic (λ error. error ≡ Refused no_magic)
unfolding u32_at
no_magic_errors format allowed error = (
  each_error widest file_without_magic (λ error. error ≡ Refused no_magic)
      (λ fault is. elim is [
        | inl read ↦ ap Refused (one_file_fault widest file_without_magic fault no_magic read.0 no_magic_is_error.0)
        | inr over ↦ absurd (no_magic_is_error.1 over.0.meaning over.0.means)
      ])
      (λ needs. elim needs [
        | ForLegacyImage image means ↦ absurd (no_magic_is_error.1 (OfLegacy image) means)
        | ForTree other fine ↦ absurd (omega (arith, fine.header.1.1.0))
      ]) error,
  λ same. subst (IsCheckError widest file_without_magic) (sym same) (inl no_magic_is_error),
)

pub check_errors_are_known : CheckErrorsAreKnown
check_errors_are_known = record {
  no_magic = no_magic_errors;
  legacy = memory_alone widest kernel_file (OfLegacy kernel_image) kernel_means
      (λ over. kernel_is_within over.meaning over.means over.is_over);
  over = shared_errors;
  within = memory_alone (limited_to 3000) (shared_file 0 1000) (OfFit (shared_tree shared_region)) (shared_means 3000 (lit≤ tt))
      within_bound;
  is_same = λ format allowed limits error. refl;
}
