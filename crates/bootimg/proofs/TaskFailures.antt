use Rattle.std.proofs.Common.{◌≡◌, ◌<◌, ◌≤◌, ◌∙◌, ◌++◌, ◌∷◌, ℕ, List, Result, Ok, Err, IfErr, ap, arith, length, length-append, map}
use Rattle.std.proofs.Common.{subst, sym}
use Rattle.std.proofs.lemmas.List.{length-map}
use Rattle.bi_base.specs.Commands.{CommandFailed, WasRefused, SinkFailed}
use Rattle.bi_base.specs.declared.fault.Error.{Error}
use Rattle.bi_base.specs.Limits.{Limits}
use Rattle.bi_common.specs.Offsets.{input_from}
use Rattle.bi_commands.specs.declared.extract.ExtractError.{ExtractError}
use Rattle.bi_commands.specs.declared.extract.ExtractError.TheVariants.{Failed}
use Rattle.bi_norm.specs.Meaning.{Meaning}
use Rattle.bi_values.specs.Getting.{IsFirstReason, IsGetError}
use Rattle.bi_values.specs.ValueNames.{ValueNameModel, value_name_model, value_name_models}
use Rattle.bi_values.specs.ValueResults.{ValueBytes, ValueResult, value_result, value_results}
use Rattle.bi_values.specs.declared.get_error.GetError.{GetError}
use Rattle.bi_values.specs.declared.get_error.GetError.TheVariants as get
use Rattle.bi_values.specs.declared.value_form.ValueForm.{ValueForm}
use Rattle.bi_values.specs.declared.value_name.ValueName.{ValueName}
use Rattle.bootimg.specs.declared.command_line.values.ValueWords.{ValueWords}
use Rattle.bootimg.specs.declared.failure.Failure.{Failure}
use Rattle.bootimg.specs.declared.failure.Failure.TheVariants.{Call}
use Rattle.bootimg.specs.Failures.{IsFailureOfGetting, IsIndexOfValue, failure_of}
use Rattle.bootimg.specs.Offsets.{HasImageAt}
use Rattle.bootimg.specs.Tasks.{IsCallFailure, IsExtractFailure, IsGetFailure}

-- A task fails as the command that it runs, and the plan for one image as its task.

-- Where a command failed with an error of calls, the task failed with this error.
pub call_failed : {S : Type 0} (fails : S → List ℕ → S → Error → Type 0) (IsText : List ℕ → Type 0)
    (HasError : Error → Type 0) (old new : S) (error : Error) (failure : Failure) → failure ≡ Call error
    → CommandFailed fails (λ cause. cause) IsText HasError old new error
    → CommandFailed fails (λ cause. Call cause) IsText (IsCallFailure HasError) old new failure
call_failed fails IsText HasError old new error failure same (WasRefused is kept) =
    WasRefused (record { error = error; has_error = is; is = same }) kept
call_failed fails IsText HasError old new error failure same (SinkFailed text cause is stops wrapped) =
    SinkFailed text cause is stops (same ∙ ap (λ e. Call e) wrapped)

-- Where extracting failed, the task failed with this error.
pub extract_failed : {S : Type 0} (fails : S → List ℕ → S → Error → Type 0) (IsText : List ℕ → Type 0)
    (HasError : ExtractError → Type 0) (old new : S) (error : ExtractError) (failure : Failure) → failure ≡ failure_of error
    → CommandFailed fails (λ cause. Failed cause) IsText HasError old new error
    → CommandFailed fails (λ cause. Call cause) IsText (IsExtractFailure HasError) old new failure
extract_failed fails IsText HasError old new error failure same (WasRefused is kept) =
    WasRefused (record { error = error; has_error = is; is = same }) kept
extract_failed fails IsText HasError old new error failure same (SinkFailed text cause is stops wrapped) =
    SinkFailed text cause is stops (same ∙ ap failure_of wrapped)

-- Where getting values failed, the task failed with this error, and the words for the value.
pub get_failed : {S : Type 0} (fails : S → List ℕ → S → Error → Type 0) (IsText : List ℕ → Type 0)
    (HasError : GetError → Type 0) (words : List ValueWords) (old new : S) (error : GetError) (failure : Failure)
    → IsFailureOfGetting words error failure
    → CommandFailed fails (λ cause. get.Failed cause) IsText HasError old new error
    → CommandFailed fails (λ cause. Call cause) IsText (IsGetFailure HasError words) old new failure
get_failed fails IsText HasError words old new error failure same (WasRefused is kept) =
    WasRefused (record { error = error; has_error = is; is = same }) kept
get_failed fails IsText HasError words old new error failure same (SinkFailed text cause is stops wrapped) =
    SinkFailed text cause is stops (subst (λ e. IsFailureOfGetting words e failure) wrapped same)

index_is_below : (results : List ValueResult) (pieces : List (List ℕ)) (reason : ValueResult) (later : List ValueResult) (index : ℕ)
    → results ≡ map ValueBytes pieces ++ reason ∷ later → index ≡ length pieces → index < length results
index_is_below results pieces reason later index are is =
    let all = ap length are ∙ length-append (map ValueBytes pieces) (reason ∷ later) in
    let some = length-map pieces ValueBytes in
    omega (arith, all, some, is)

-- If the error has the index of a value, it is that of a result.
index_of_reason : (results : List ValueResult) (error : GetError) → IsFirstReason results error → IsIndexOfValue (length results) error
index_of_reason results (get.Failed error) is = tt
index_of_reason results get.WrongKind is = tt
index_of_reason results (get.NoProperty index) is = index_is_below results is.pieces is.reason is.later index is.are_results is.is_reason.1
index_of_reason results (get.NoText index) is = index_is_below results is.pieces is.reason is.later index is.are_results is.is_reason.1
index_of_reason results (get.NoNumber index) is = index_is_below results is.pieces is.reason is.later index is.are_results is.is_reason.1

in_names : (form : ValueForm) (names : List ValueNameModel) (meaning : Meaning) (error : GetError)
    → IsFirstReason (value_results form meaning names) error → IsIndexOfValue (length names) error
in_names form names meaning error is =
    subst (λ number. IsIndexOfValue number error) (length-map names (value_result form meaning))
    (index_of_reason (value_results form meaning names) error is)

index_of_value : (form : ValueForm) (names : List ValueNameModel) (limits : Limits) (input : List ℕ) (error : GetError)
    → IsGetError form names limits input error → IsIndexOfValue (length names) error
index_of_value form names limits input (get.Failed error) is = tt
index_of_value form names limits input get.WrongKind is = tt
index_of_value form names limits input (get.NoProperty index) is = in_names form names is.meaning (get.NoProperty index) is.is_first
index_of_value form names limits input (get.NoText index) is = in_names form names is.meaning (get.NoText index) is.is_first
index_of_value form names limits input (get.NoNumber index) is = in_names form names is.meaning (get.NoNumber index) is.is_first

-- So it is that of a name of a plan, also where a sink failed.
pub index_of_failure : {S : Type 0} (fails : S → List ℕ → S → Error → Type 0) (IsText : List ℕ → Type 0) (form : ValueForm)
    (names : List ValueName) (limits : Limits) (input : List ℕ) (old new : S) (error : GetError)
    → CommandFailed fails (λ cause. get.Failed cause) IsText (IsGetError form (value_name_models names) limits input) old new error
    → IsIndexOfValue (length names) error
index_of_failure fails IsText form names limits input old new error (WasRefused is kept) =
    subst (λ number. IsIndexOfValue number error) (length-map names value_name_model)
    (index_of_value form (value_name_models names) limits input error is)
index_of_failure fails IsText form names limits input old new error (SinkFailed text cause is stops wrapped) =
    subst (IsIndexOfValue (length names)) (sym wrapped) tt

-- Where the task failed on an image at an offset of an input within the limit, the plan failed.
failed_at : {S E : Type 0} (fails : S → List ℕ → S → Error → Type 0) (wraps : Error → E) (IsText : List ℕ → List ℕ → Type 0)
    (HasError : List ℕ → E → Type 0) (limits : Limits) (offset : ℕ) (input image : List ℕ) (old new : S) (error : E)
    → length input ≤ limits.file → image ≡ input_from offset input → CommandFailed fails wraps (IsText image) (HasError image) old new error
    → CommandFailed fails wraps (λ text. HasImageAt limits offset (λ image. IsText image text) input)
    (λ error. HasImageAt limits offset (λ image. HasError image error) input) old new error
failed_at fails wraps IsText HasError limits offset input image old new error short same (WasRefused is kept) =
    WasRefused (record { within = short; holds = subst (λ (image : List ℕ). HasError image error) same is }) kept
failed_at fails wraps IsText HasError limits offset input image old new error short same (SinkFailed text cause is failed wrapped) =
    SinkFailed text cause (record { within = short; holds = subst (λ (image : List ℕ). IsText image text) same is }) failed wrapped

pub any_failed_at : {S V E : Type 0} (fails : S → List ℕ → S → Error → Type 0) (wraps : Error → E) (IsText : List ℕ → List ℕ → Type 0)
    (HasError : List ℕ → E → Type 0) (limits : Limits) (offset : ℕ) (input image : List ℕ) (old new : S) (result : Result V E)
    → length input ≤ limits.file → image ≡ input_from offset input
    → IfErr result (CommandFailed fails wraps (IsText image) (HasError image) old new)
    → IfErr result (CommandFailed fails wraps (λ text. HasImageAt limits offset (λ image. IsText image text) input)
    (λ error. HasImageAt limits offset (λ image. HasError image error) input) old new)
any_failed_at fails wraps IsText HasError limits offset input image old new (Ok value) short same failed = tt
any_failed_at fails wraps IsText HasError limits offset input image old new (Err error) short same failed =
    failed_at fails wraps IsText HasError limits offset input image old new error short same failed
