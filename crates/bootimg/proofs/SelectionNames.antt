use Rattle.std.proofs.Common.{◌≡◌, ◌∙◌, ℕ, List, sym, subst}
use Rattle.bi_base.specs.Commands.{CommandFailed, WasRefused, SinkFailed}
use Rattle.bi_base.specs.declared.fault.Error.{Error}
use Rattle.bi_base.specs.Limits.{Limits}
use Rattle.bi_norm.specs.Meaning.{Meaning}
use Rattle.bi_commands.specs.declared.extract.Select.{Select}
use Rattle.bi_commands.specs.declared.extract.ExtractError.{ExtractError}
use Rattle.bi_commands.specs.declared.extract.ExtractError.TheVariants as error
use Rattle.bi_commands.specs.Extracting.{choice_of, IsChosen, IsExtractError, IsReason}

-- What a selection chooses depends on the bytes of its name alone.

-- Selections that choose the same of each meaning choose the same of each file.
pub same_chosen : (one other : Select) → ((meaning : Meaning) → choice_of one meaning ≡ choice_of other meaning) →
    (limits : Limits) (file bytes : List ℕ) → IsChosen one limits file bytes → IsChosen other limits file bytes
same_chosen one other same limits file bytes is =
    record { meaning = is.meaning; means = is.means; holds = sym (same is.meaning) ∙ is.holds }

pub same_error : (one other : Select) → ((meaning : Meaning) → choice_of one meaning ≡ choice_of other meaning) →
    (limits : Limits) (file : List ℕ) (failed : ExtractError) → IsExtractError one limits file failed →
    IsExtractError other limits file failed
same_error one other same limits file (error.Failed failed) is = is
same_error one other same limits file error.WrongKind is = record {
  meaning = is.meaning;
  means = is.means;
  holds = sym (same is.meaning) ∙ is.holds;
}
same_error one other same limits file error.NoPart is = record {
  meaning = is.meaning;
  means = is.means;
  holds = sym (same is.meaning) ∙ is.holds;
}
same_error one other same limits file error.NoImage is = record {
  meaning = is.meaning;
  means = is.means;
  holds = sym (same is.meaning) ∙ is.holds;
}
same_error one other same limits file (error.Config reason) is =
    record { meaning = is.meaning; means = is.means; holds = subst (IsReason (error.Config reason)) (same is.meaning) is.holds }
same_error one other same limits file error.NoIndex is = record {
  meaning = is.meaning;
  means = is.means;
  holds = sym (same is.meaning) ∙ is.holds;
}
same_error one other same limits file error.NoPayload is = record {
  meaning = is.meaning;
  means = is.means;
  holds = sym (same is.meaning) ∙ is.holds;
}

-- So does a call that failed.
pub same_failure : {S : Type 0} (fails : S → List ℕ → S → Error → Type 0) (one other : Select) →
    ((meaning : Meaning) → choice_of one meaning ≡ choice_of other meaning)
    → (limits : Limits) (file : List ℕ) (old new : S) (failed : ExtractError)
    → CommandFailed fails (λ cause. error.Failed cause) (IsChosen one limits file) (IsExtractError one limits file) old new failed
    → CommandFailed fails (λ cause. error.Failed cause) (IsChosen other limits file) (IsExtractError other limits file) old new failed
same_failure fails one other same limits file old new failed (WasRefused is kept) = WasRefused
    (same_error one other same limits file failed is) kept
same_failure fails one other same limits file old new failed (SinkFailed text cause is stops wrapped) =
    SinkFailed text cause (same_chosen one other same limits file text is) stops wrapped
