use Rattle.std.specs.Prelude.{◌≡◌, ◌↔◌, ◌⊎◌, ℕ, true, List, [], ◌∷◌, codes}
use Rattle.std.specs.Borrow.{Bor}
use Rattle.bi_base.specs.declared.fault.Error.{Error}
use Rattle.bi_base.specs.declared.fault.Error.TheVariants.{OutOfMemory, Refused}
use Rattle.bi_base.specs.Limits.{Limits, widest}
use Rattle.bi_base.specs.Reading.{too_large}
use Rattle.bi_hash.specs.declared.algo.Algo.TheVariants.{Crc32, Sha1, Sha256, Sha512}
use Rattle.bi_fit.specs.declared.form.Form.TheVariants.{Embedded}
use Rattle.bi_fit.specs.KnownBuilds.{known_text}
use Rattle.bi_fit.specs.KnownFiles.{shared_file}
use Rattle.bi_legacy.specs.KnownFaults.{limited_to}
use Rattle.bi_legacy.specs.KnownImages.{kernel_file}
use Rattle.bi_norm.specs.FitBuilding.{IsBuilt}
use Rattle.bi_norm.specs.KnownBuildFaults.{head_like}
use Rattle.bi_norm.specs.KnownBuiltTexts.{kernel_and_ramdisk}
use Rattle.bi_norm.specs.KnownComparisons.{file_without_magic, no_magic}
use Rattle.bi_common.specs.declared.format.Format.{Format}
use Rattle.bi_report.specs.declared.check.Allowed.{Allowed}
use Rattle.bi_report.specs.CheckedFiles.{HoldsTooMuch, IsCheckError, check_promise}
use Rattle.bi_report.specs.Checking.{allowed_by_default, nothing_allowed}
use Rattle.bi_report.specs.CleanFiles.{IsClean, ProtectImages}

-- Small files with what checking them finds: an image tree that is built, one whose payloads are
-- too long together, and files with each error, by which a reader can judge the definitions.

-- A text of 824 bytes is built of a kernel and a ramdisk. It is clean, and checking it has no error
-- but that memory runs out.
pub record IsBuiltText (any : Bor (List ℕ)) : Type 0 where
  pub is_built :
      IsBuilt widest Embedded (head_like any (codes "k")) (kernel_and_ramdisk any) known_text
  pub is_clean : IsClean allowed_by_default widest known_text
  pub error : (error : Error) → IsCheckError widest known_text error → error ≡ OutOfMemory

-- It is built so, wherever the slices of the arguments are.
abbrev pub BuiltCheckIsKnown : Type 0
BuiltCheckIsKnown = (any : Bor (List ℕ)) → IsBuiltText any

-- A strong algorithm protects images, alone or after a weak one. Weak algorithms alone, or none, do
-- so only if that is allowed.
pub record ProtectionIsKnown : Type 0 where
  pub strong : ProtectImages nothing_allowed (Sha256 ∷ [])
  pub strong_after_weak : ProtectImages nothing_allowed (Crc32 ∷ Sha512 ∷ [])
  pub weak : ¬ (ProtectImages (record nothing_allowed { unhashed = true }) (Crc32 ∷ Sha1 ∷ []))
  pub weak_is_allowed : ProtectImages (record nothing_allowed { weak_hash = true }) (Crc32 ∷ [])
  pub none : ¬ (ProtectImages (record nothing_allowed { weak_hash = true }) [])
  pub none_is_allowed : ProtectImages (record nothing_allowed { unhashed = true }) []

-- The payloads of a file of 1244 bytes whose images share a region of 1000 bytes have 3000 bytes
-- together.
pub record PayloadBoundIsKnown : Type 0 where
  pub is_over : HoldsTooMuch (limited_to 2999) (shared_file 0 1000)
  pub is_within : ¬ (HoldsTooMuch (limited_to 3000) (shared_file 0 1000))

-- Checking the file fails with these errors, and with no others, whatever the form and the kinds
-- that are allowed.
abbrev pub FailsChecking : Limits → List ℕ → (Error → Type 0) → Type 0
FailsChecking limits file IsOne =
    (format : Format) (allowed : Allowed) (error : Error)
    → (check_promise format allowed limits).has_error file error ↔ IsOne error

-- A file with a fault has this error alone, and any other may run out of memory. Checking that file
-- also has the error TooLarge under a limit that is lower than the length of its payloads. An error
-- is not changed.
pub record CheckErrorsAreKnown : Type 0 where
  pub no_magic : FailsChecking widest file_without_magic (λ error. error ≡ Refused no_magic)
  pub legacy : FailsChecking widest kernel_file (λ error. error ≡ OutOfMemory)
  pub over : FailsChecking (limited_to 2999) (shared_file 0 1000)
      (λ error. (error ≡ Refused (too_large 2999)) ⊎ (error ≡ OutOfMemory))
  pub within : FailsChecking (limited_to 3000) (shared_file 0 1000)
      (λ error. error ≡ OutOfMemory)
  pub is_same : (format : Format) (allowed : Allowed) (limits : Limits) (error : Error)
      → (check_promise format allowed limits).wraps error ≡ error
