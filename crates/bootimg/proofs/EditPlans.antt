use Rattle.std.proofs.Common.{◌≡◌, ◌<◌, ◌+◌, ◌++◌, ℕ, zero, suc, Bor, List, [], ◌∷◌, Option, None, Some, Result, Ok, Err, IfErr, IfOk}
use Rattle.std.proofs.Common.{codes, get_or, length, take}
use Rattle.std.proofs.Common.{ap, inl, inr, subst, sym, arith}
use Rattle.std.proofs.lemmas.List.{append_assoc}
use Rattle.std.specs.List.{AllZip}
use Rattle.std.specs.Result.{IsErrAnd}
use Rattle.bi_base.specs.declared.fault.Error.{Error}
use Rattle.bi_base.specs.declared.fault.Error.TheVariants.{OutOfMemory}
use Rattle.bi_edit.specs.declared.edit.Edit.{Edit}
use Rattle.bi_edit.specs.EditWords.{IsRemovalWord}
use Rattle.clap.specs.declared.parser.matches.ArgMatches.{ArgMatches}
use Rattle.bootimg.specs.CommandLine.{AsksForEdits, HasBadEdits, IsBadValue, IsEditPlan, IsEditPlanFailure, IsFailureOutcome, IsNewTime}
use Rattle.bootimg.specs.CommandLine.{NoneIs}
use Rattle.bootimg.specs.CommandLine.{given_offset, option_of}
use Rattle.bootimg.specs.CommandLine.{payload_arguments, removal_arguments, set_arguments, texts_of}
use Rattle.bootimg.specs.EditOptions.{ArePayloadWords, AreSetWords}
use Rattle.bootimg.specs.Numbers.{IsNumber}
use Rattle.bootimg.specs.declared.command_line.NoRequest.{NoRequest}
use Rattle.bootimg.specs.declared.command_line.edits.EditPlan.{EditPlan}
use Rattle.bootimg.specs.declared.command_line.NoRequest.TheVariants as outcome
use Rattle.bootimg.specs.declared.failure.Failure.{Failure}
use Rattle.bootimg.specs.declared.failure.Failure.TheVariants.{BadValue, Call}
use Rattle.bootimg.proofs.CommandLines.{texts_push, zip_push}

-- Words are parsed one by one, and a word that is for nothing is a bad value.

module _ {T : Type 0} (Is : List ℕ → T → Type 0) where
  -- The words so far, and one more.
  pub words_next : (words : List (Bor (List ℕ))) (index : ℕ) (d : Bor (List ℕ)) (values next : List T) (value : T) →
      index < length words → AllZip Is (texts_of (take index words)) values → next ≡ values ++ value ∷ [] →
      Is (get_or words index d).now value → AllZip Is (texts_of (take (index + 1) words)) next
  words_next words index d values next value within are is one =
      rw (texts_push words index d within, is) (zip_push Is (texts_of (take index words)) values (get_or words index d).now value are one)

  -- A word for nothing is in no list of words.
  pub none_of_words : (words : List (Bor (List ℕ))) (index : ℕ) (d : Bor (List ℕ)) → index < length words →
      NoneIs (Is (get_or words index d).now) → NoneIs (AllZip Is (texts_of words))
  none_of_words [] index d within none values are = absurd (omega (arith, within))
  none_of_words (word ∷ words) index d within none [] are = absurd are
  none_of_words (word ∷ words) zero d within none (value ∷ values) are = none value are.0
  none_of_words (word ∷ words) (suc index) d within none (value ∷ values) are =
      none_of_words words index d (omega (arith, within)) none values are.1

-- A call fails only if memory runs out.
pub memory_failure : {T : Type 0} (Is : Failure → Type 0) (result : Result T NoRequest) (error : Error) →
    IsErrAnd result (λ given. given ≡ outcome.Failure (Call error)) → error ≡ OutOfMemory → IfErr result (IsFailureOutcome Is)
memory_failure Is (Ok value) error is memory = tt
memory_failure Is (Err given) error is memory = subst (λ o. IsFailureOutcome Is o) (sym is) (inr (ap Call memory))

-- A word that is not a number is not a new time.
pub no_new_time : (text : Option (List ℕ)) (argument : List ℕ) → text ≡ Some argument → NoneIs (IsNumber argument) → NoneIs (IsNewTime text)
no_new_time text argument is none = λ time given. by time (subst (λ t. IsNewTime t time) is given) where
  by : (time : Option ℕ) → IsNewTime (Some argument) time → ⊥
  by None given = given
  by (Some number) given = none number given

-- ---- plans

-- The edits of a plan, in their order.
pub edits_in_order : (none one two all removed set changing : List Edit) → none ≡ [] → one ≡ none ++ removed → two ≡ one ++ set →
    all ≡ two ++ changing → all ≡ removed ++ (set ++ changing)
edits_in_order none one two all removed set changing e0 e1 e2 e3 = rw (e3, e2, e1, e0) (append_assoc removed set changing)

-- A bad value of one option is a bad value of `update`.
module _ (options : ArgMatches) (failure : Failure) where
  pub bad_new_time : IsBadValue (IsNewTime (option_of options (codes "time"))) failure → (failure ≡ BadValue) × HasBadEdits options
  bad_new_time bad = (bad.0, inl (λ plan is. bad.1 is.changes.time is.are_changes.time))

  pub bad_removals : (words : List (List ℕ)) → words ≡ removal_arguments options → IsBadValue (AllZip IsRemovalWord words) failure →
      (failure ≡ BadValue) × HasBadEdits options
  bad_removals words same bad = (
    bad.0,
    inl (λ plan is. bad.1 is.edits.removed
        (subst (λ w. AllZip IsRemovalWord w is.edits.removed) (sym same) is.edits.are_removals)),
  )

  pub bad_settings : (words : List (List ℕ)) → words ≡ set_arguments options → IsBadValue (AreSetWords words) failure →
      (failure ≡ BadValue) × HasBadEdits options
  bad_settings words same bad =
      (bad.0, inl (λ plan is. bad.1 is.edits.set (subst (λ w. AreSetWords w is.edits.set) (sym same) is.edits.are_settings)))

  pub bad_payloads : (words : List (List ℕ)) → words ≡ payload_arguments options → IsBadValue (ArePayloadWords words) failure →
      (failure ≡ BadValue) × HasBadEdits options
  bad_payloads words same bad =
      (bad.0, inl (λ plan is. bad.1 plan.payloads.items (subst (λ w. ArePayloadWords w plan.payloads.items) (sym same) is.payloads)))

  pub bad_offset : IsBadValue (IsNumber (given_offset options)) failure → (failure ≡ BadValue) × HasBadEdits options
  bad_offset bad = (bad.0, inl (λ plan is. bad.1 plan.offset is.offset))

-- What is requested is a plan, or a bad value.
pub asked_plan : (options : ArgMatches) (result : Result EditPlan NoRequest) → AsksForEdits options → IfOk result (IsEditPlan options) →
    IfOk result (λ plan. AsksForEdits options × IsEditPlan options plan)
asked_plan options (Ok plan) asks is = (asks, is)
asked_plan options (Err failed) asks is = tt

pub asked_failure : (options : ArgMatches) (result : Result EditPlan NoRequest) → AsksForEdits options →
    IfErr result (IsFailureOutcome (λ failure. (failure ≡ BadValue) × HasBadEdits options)) →
    IfErr result (IsFailureOutcome (IsEditPlanFailure options))
asked_failure options (Ok plan) asks is = tt
asked_failure options (Err (outcome.Text text)) asks is = absurd is
asked_failure options (Err (outcome.Failure failure)) asks (inl bad) = inl (subst (IsEditPlanFailure options) (sym bad.0) (asks, bad.1))
asked_failure options (Err (outcome.Failure failure)) asks (inr memory) = inr memory
