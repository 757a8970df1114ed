use Rattle.std.proofs.Common.{◌≡◌, ℕ, List, Result, Ok, Err, OnOk, IfErr, refl, subst, sym, rules}
use Rattle.bi_base.specs.declared.fault.Error.{Error}
use Rattle.bi_base.specs.declared.fault.Error.TheVariants.{OutOfMemory}
use Rattle.bi_base.specs.Commands.{Appended, AppendFailed, WasRefused, SinkFailed}
use Rattle.bi_base.specs.Sinks.{Wrote}

-- A call that appends a text of a kind appends a text of any kind that this implies, and fails accordingly.

-- A text was appended, and what it is implies more.
pub appended_as : {S : Type 0} (appends : S → List ℕ → S → Type 0) (IsText IsOther : List ℕ → Type 0) (old new : S) →
    ((text : List ℕ) → IsText text → IsOther text) → Appended appends IsText old new → Appended appends IsOther old new
appended_as appends IsText IsOther old new implies appended = search rules

-- Appending a text failed, and what the text and the errors are implies more.
pub failed_as : {S : Type 0} (fails : S → List ℕ → S → Error → Type 0) (IsText IsOther : List ℕ → Type 0)
    (HasError HasOther : Error → Type 0) (old new : S) (error : Error) → ((text : List ℕ) → IsText text → IsOther text) →
    (HasError error → HasOther error) → AppendFailed fails IsText HasError old new error → AppendFailed fails IsOther HasOther old new error
failed_as fails IsText IsOther HasError HasOther old new error text_implies error_implies
    (WasRefused is same) = WasRefused (error_implies is) same
failed_as fails IsText IsOther HasError HasOther old new error text_implies error_implies
    (SinkFailed text cause is failed same) = SinkFailed text cause (text_implies text is) failed same

-- The same of a call's result.
pub result_appended_as : {S V : Type 0} (appends : S → List ℕ → S → Type 0) (IsText IsOther : List ℕ → Type 0) (old new : S)
    (result : Result V Error) → ((text : List ℕ) → IsText text → IsOther text) → OnOk result (Appended appends IsText old new) →
    OnOk result (Appended appends IsOther old new)
result_appended_as appends IsText IsOther old new (Ok value) implies appended = appended_as appends IsText IsOther old new implies appended
result_appended_as appends IsText IsOther old new (Err error) implies appended = tt

pub result_failed_as : {S V : Type 0} (fails : S → List ℕ → S → Error → Type 0) (IsText IsOther : List ℕ → Type 0)
    (HasError HasOther : Error → Type 0) (old new : S) (result : Result V Error) → ((text : List ℕ) → IsText text → IsOther text) →
    ((error : Error) → HasError error → HasOther error) → IfErr result (AppendFailed fails IsText HasError old new) →
    IfErr result (AppendFailed fails IsOther HasOther old new)
result_failed_as fails IsText IsOther HasError HasOther old new (Ok value) text_implies error_implies failed = tt
result_failed_as fails IsText IsOther HasError HasOther old new (Err error) text_implies error_implies failed =
    failed_as fails IsText IsOther HasError HasOther old new error text_implies (error_implies error) failed

-- The error of a call with a sink that fails only where memory runs out.
pub error_in_memory : {S : Type 0} (fails : S → List ℕ → S → Error → Type 0) (IsText : List ℕ → Type 0) (HasError : Error → Type 0)
    (old new : S) (error : Error) → ((text : List ℕ) → fails old text new error → error ≡ OutOfMemory) →
    ((text : List ℕ) → IsText text → HasError OutOfMemory) → AppendFailed fails IsText HasError old new error → HasError error
error_in_memory fails IsText HasError old new error full needs (WasRefused is same) = is
error_in_memory fails IsText HasError old new error full needs (SinkFailed text cause is failed same) =
    subst HasError (sym (full text (subst (fails old text new) (sym same) failed))) (needs text is)

-- What a call that appends a text to a sink did, if it succeeded,
pub wrote_text : {S V : Type 0} (appends : S → List ℕ → S → Type 0) (fails : S → List ℕ → S → Error → Type 0) (old : S) (text : List ℕ)
    (result : Result V Error) (new : S) → Wrote appends fails old text result new → OnOk result (appends old text new)
wrote_text appends fails old text (Ok value) new wrote = wrote
wrote_text appends fails old text (Err error) new wrote = tt

-- and if it failed.
pub wrote_no_text : {S V : Type 0} (appends : S → List ℕ → S → Type 0) (fails : S → List ℕ → S → Error → Type 0) (HasError : Error → Type 0)
    (old : S) (text : List ℕ) (result : Result V Error) (new : S) → Wrote appends fails old text result new →
    IfErr result (AppendFailed fails (λ other. other ≡ text) HasError old new)
wrote_no_text appends fails HasError old text (Ok value) new wrote = tt
wrote_no_text appends fails HasError old text (Err error) new wrote = SinkFailed text error refl wrote refl

-- What a call that writes a text of a kind did, if it succeeded,
pub wrote_of_kind : {S V : Type 0} (appends : S → List ℕ → S → Type 0) (fails : S → List ℕ → S → Error → Type 0) (IsText : List ℕ → Type 0)
    (old : S) (text : List ℕ) (result : Result V Error) (new : S) → IsText text → Wrote appends fails old text result new →
    OnOk result (Appended appends IsText old new)
wrote_of_kind appends fails IsText old text (Ok value) new is wrote = record { text = text; is_text = is; appended = wrote }
wrote_of_kind appends fails IsText old text (Err error) new is wrote = tt

-- and if it failed.
pub wrote_none_of_kind : {S V : Type 0} (appends : S → List ℕ → S → Type 0) (fails : S → List ℕ → S → Error → Type 0)
    (IsText : List ℕ → Type 0) (HasError : Error → Type 0) (old : S) (text : List ℕ) (result : Result V Error) (new : S) →
    IsText text → Wrote appends fails old text result new → IfErr result (AppendFailed fails IsText HasError old new)
wrote_none_of_kind appends fails IsText HasError old text (Ok value) new is wrote = tt
wrote_none_of_kind appends fails IsText HasError old text (Err error) new is wrote = SinkFailed text error is wrote refl
