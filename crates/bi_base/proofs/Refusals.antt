use Rattle.std.proofs.Common.{◌≡◌, Result, Ok, Err, sym, subst}
use Rattle.std.specs.Result.{IfErr, IsErrAnd}
use Rattle.bi_base.specs.declared.fault.Error.{Error}
use Rattle.bi_base.specs.declared.fault.Error.TheVariants as error
use Rattle.bi_base.specs.declared.fault.Fault.{Fault}
use Rattle.bi_base.specs.Errors.{IsFaultOrNoMemory}

-- What holds of a fault or of an error holds of the result that passes it on.

-- A fault is passed on as a refusal.
pub refused_by : {A : Type 0} (r : Result A Error) (fault : Fault) (P : Fault → Type 0) → IsErrAnd r (λ e. e ≡ error.Refused fault) →
    P fault → IfErr r (IsFaultOrNoMemory P)
refused_by (Ok a) fault P is holds = absurd is
refused_by (Err e) fault P is holds = subst (IsFaultOrNoMemory P) (sym is) holds

-- An error is passed on.
pub refusal_passed_on : {A : Type 0} (r : Result A Error) (e : Error) (P Q R : Fault → Type 0) → IsErrAnd r (λ x. x ≡ e) →
    IsFaultOrNoMemory P e →
    IsFaultOrNoMemory Q e → ((fault : Fault) → P fault → Q fault → R fault) → IfErr r (IsFaultOrNoMemory R)
refusal_passed_on (Ok a) e P Q R is one other both = absurd is
refusal_passed_on (Err x) e P Q R is one other both = subst (IsFaultOrNoMemory R) (sym is) (by_error e one other) where
  by_error : (e : Error) → IsFaultOrNoMemory P e → IsFaultOrNoMemory Q e → IsFaultOrNoMemory R e
  by_error (error.Refused fault) one other = both fault one other
  by_error error.OutOfMemory one other = tt
  by_error error.ReadFailed one other = absurd one
  by_error error.WriteFailed one other = absurd one

-- A fault is passed on as it is.
pub fault_passed_on : {A : Type 0} (r : Result A Fault) (fault : Fault) (P : Fault → Type 0) → IsErrAnd r (λ e. e ≡ fault) → P fault →
    IfErr r P
fault_passed_on (Ok a) fault P is holds = absurd is
fault_passed_on (Err e) fault P is holds = subst P (sym is) holds

-- A refusal by a fault for which something holds.
pub refused_with : {A : Type 0} (r : Result A Fault) (fault : Fault) (P : Fault → Type 0) → r ≡ Err fault → P fault → IfErr r P
refused_with r fault P is holds = subst (λ x. IfErr x P) (sym is) holds

-- An error for which something holds is passed on as it is.
pub error_passed_on : {A : Type 0} (r : Result A Error) (e : Error) (P : Error → Type 0) → IsErrAnd r (λ x. x ≡ e) → P e → IfErr r P
error_passed_on (Ok a) e P is holds = absurd is
error_passed_on (Err x) e P is holds = subst P (sym is) holds
