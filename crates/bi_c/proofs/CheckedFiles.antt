use Rattle.std.proofs.Common.{◌≡◌, List, ℕ, subst}
use Rattle.bi_base.specs.Limits.{Limits}
use Rattle.bi_common.specs.declared.format.Format.{Format}
use Rattle.bi_report.specs.declared.check.Policy.{Policy}
use Rattle.bi_report.specs.CheckedFiles.{IsCheckError}
use Rattle.bi_c.specs.declared.failure.Failure.{Failure}
use Rattle.bi_c.specs.Answers.{IsFailure, IsFailureBy}
use Rattle.bi_c.specs.Arguments.{bounds, policy_of}
use Rattle.bi_c.specs.Calls.{KindsCheck, HasKinds, IsCheckText, IsConcernsText}
use Rattle.bi_c.proofs.CallAnswers.{failed_by}

-- A call from C with valid numbers returns the concerns about a file under the limits, except those of the kinds of these numbers, or
-- fails as checking it does.

pub checked_as : (format : Format) (limit depth kinds : ℕ) (limits : Limits) (policy : Policy) (file : List ℕ)
    → HasKinds limit depth kinds → limits ≡ bounds limit depth → policy ≡ policy_of kinds → (text : List ℕ) (value : ℕ)
    → IsConcernsText (record { policy = policy; format = format }) limits file text value
    → IsCheckText format limit depth kinds file text value
checked_as format limit depth kinds limits policy file valid same_limits same_policy text value is = record {
  arguments = valid;
  is = subst (λ (p : Policy). IsConcernsText (record { policy = p; format = format }) (bounds limit depth) file text value) same_policy
      (subst (λ (l : Limits). IsConcernsText (record { policy = policy; format = format }) l file text value) same_limits is);
}

pub call_not_checked : (limit depth kinds : ℕ) (limits : Limits) (file : List ℕ) → HasKinds limit depth kinds → limits ≡ bounds limit depth
    → (failure : Failure) → IsFailureBy (IsCheckError limits file) failure
    → IsFailure (KindsCheck limit depth kinds) (IsCheckError (bounds limit depth) file) failure
call_not_checked limit depth kinds limits file valid same_limits failure is =
    failed_by (KindsCheck limit depth kinds) (IsCheckError (bounds limit depth) file) is.cause failure valid is.is_failure (λ no. no)
    (λ no. no) (subst (λ (l : Limits). IsCheckError l file is.cause) same_limits is.is_error)
