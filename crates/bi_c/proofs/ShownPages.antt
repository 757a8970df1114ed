use Rattle.std.proofs.Common.{◌≡◌, Bool, List, ℕ, refl, subst}
use Rattle.bi_base.specs.declared.fault.Error.{Error}
use Rattle.bi_base.specs.Limits.{Limits}
use Rattle.bi_report.specs.CheckedFiles.{IsCheckError}
use Rattle.bi_show.specs.ShownFiles.{IsPage}
use Rattle.bi_c.specs.Answers.{failure_of_error}
use Rattle.bi_c.specs.Arguments.{LayoutCheck, bounds, HasLayout, is_yes}
use Rattle.bi_c.specs.Calls.{IsPageFailure, IsPageText}
use Rattle.bi_c.proofs.CallAnswers.{failed_by}

-- A call from C with valid numbers returns the page of a file under the limits of these numbers, or fails as showing the file fails.

pub shown_as : (limit depth number : ℕ) (limits : Limits) (layout : Bool) (file text : List ℕ) → HasLayout limit depth number →
    limits ≡ bounds limit depth → layout ≡ is_yes number → IsPage layout limits file text → IsPageText limit depth number file text 0
shown_as limit depth number limits layout file text valid same_limits same_layout is = record {
  arguments = valid;
  is = subst (λ (b : Bool). IsPage b (bounds limit depth) file text) same_layout
      (subst (λ (l : Limits). IsPage layout l file text) same_limits is);
  no_value = refl;
}

pub not_shown : (limit depth number : ℕ) (limits : Limits) (file : List ℕ) → HasLayout limit depth number → limits ≡ bounds limit depth
    → (error : Error) → IsCheckError limits file error → IsPageFailure limit depth number file (failure_of_error error)
not_shown limit depth number limits file valid same_limits error is =
    failed_by (LayoutCheck limit depth number) (IsCheckError (bounds limit depth) file) error (failure_of_error error) valid refl (λ no. no)
    (λ no. no) (subst (λ (l : Limits). IsCheckError l file error) same_limits is)
