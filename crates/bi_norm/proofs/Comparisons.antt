use Rattle.std.proofs.Common.{◌≡◌, ◌↔◌, ℕ, List, Bool, IsTrue, Result, Ok, Err, IfOk, IfErr, subst, sym, inl, inr, rules}
use Rattle.bi_base.specs.declared.fault.Error.{Error}
use Rattle.bi_base.specs.declared.fault.Error.TheVariants.{Refused, OutOfMemory, ReadFailed, WriteFailed}
use Rattle.bi_base.specs.Limits.{Limits}
use Rattle.bi_norm.specs.declared.image.BootImage.{BootImage}
use Rattle.bi_norm.specs.declared.image.BootImage.TheVariants.{Legacy, Fit}
use Rattle.bi_norm.specs.Comparing.{MeansOnly, AreCompared, IsCompareError}
use Rattle.bi_norm.specs.Reading.{IsBootImageReadError, meaning_of, IsReadBootImage}
use Rattle.bi_norm.proofs.NormalForms.{only_legacy, only_tree, needs_memory}

-- Files that were read are compared by what they mean, and an error of reading either file is one of comparing them.

-- A file that was read means what was read, and nothing else.
pub opened_means : (limits : Limits) (file : List ℕ) (image : BootImage) → IsReadBootImage limits file image →
    MeansOnly limits file (meaning_of image)
opened_means limits file (Legacy parsed) opened = record { means = opened.means; only = only_legacy limits file parsed opened }
opened_means limits file (Fit content) opened = record { means = opened.means; only = only_tree limits file content opened }

-- Whether two files that were read mean the same.
are_compared : (limits : Limits) (one other : List ℕ) (image other_image : BootImage) (same : Bool) → IsReadBootImage limits one image →
    IsReadBootImage limits other other_image → IsTrue same ↔ (meaning_of image ≡ meaning_of other_image) → AreCompared limits one other same
are_compared limits one other image other_image same opened other_opened is = search (rules, opened_means)

-- An error of reading the first file, and of reading the second one.
pub error_of_first : (limits : Limits) (one other : List ℕ) (error : Error) → IsBootImageReadError limits one error →
    IsCompareError limits one other error
error_of_first limits one other (Refused fault) is = inl is
error_of_first limits one other OutOfMemory is = is
error_of_first limits one other ReadFailed is = is
error_of_first limits one other WriteFailed is = is

pub error_of_second : (limits : Limits) (one other : List ℕ) (image : BootImage) (error : Error) → IsReadBootImage limits one image →
    IsBootImageReadError limits other error → IsCompareError limits one other error
error_of_second limits one other image (Refused fault) opened is =
    inr (record { meaning = meaning_of image; means = (opened_means limits one image opened).means; has_error = is })
error_of_second limits one other image OutOfMemory opened is = needs_memory limits one (meaning_of image)
    (opened_means limits one image opened).means
error_of_second limits one other image ReadFailed opened is = is
error_of_second limits one other image WriteFailed opened is = is

-- The same of the result of comparing two files that were read.
pub result_compared : (limits : Limits) (one other : List ℕ) (image other_image : BootImage) (result : Result Bool Error) →
    IsReadBootImage limits one image → IsReadBootImage limits other other_image →
    IfOk result (λ same. IsTrue same ↔ (meaning_of image ≡ meaning_of other_image)) → IfOk result (AreCompared limits one other)
result_compared limits one other image other_image
    (Ok same) opened other_opened is = are_compared limits one other image other_image same opened other_opened is
result_compared limits one other image other_image (Err error) opened other_opened is = tt

pub result_failed : (limits : Limits) (one other : List ℕ) (image : BootImage) (result : Result Bool Error) →
    IsReadBootImage limits one image →
    IfErr result (λ error. error ≡ OutOfMemory) → IfErr result (IsCompareError limits one other)
result_failed limits one other image (Ok same) opened is = tt
result_failed limits one other image (Err error) opened is =
    subst (IsCompareError limits one other) (sym is)
    (needs_memory limits one (meaning_of image) (opened_means limits one image opened).means)
