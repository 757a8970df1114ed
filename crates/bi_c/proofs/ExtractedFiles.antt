use Rattle.std.proofs.Common.{◌≡◌, ℕ, List, Option, None, Result, Ok, Err, IfOk, refl, sym, subst}
use Rattle.bi_base.specs.declared.fault.Error.TheVariants as error
use Rattle.bi_base.specs.Limits.{Limits}
use Rattle.bi_fit.specs.declared.configurations.ConfigError.TheVariants as list
use Rattle.bi_fit.specs.Content.{FitModel}
use Rattle.bi_fit.specs.Reading.{IsReadFit}
use Rattle.bi_norm.specs.Meaning.{Meaning, Means}
use Rattle.bi_commands.specs.declared.extract.ExtractError.{ExtractError}
use Rattle.bi_commands.specs.declared.extract.ExtractError.TheVariants.{Failed, WrongKind, NoPart, NoImage, Config, NoIndex, NoPayload}
use Rattle.bi_commands.specs.declared.extract.Select.{Select}
use Rattle.bi_commands.specs.declared.extract.Select.TheVariants.{Part, Image, Config, Default}
use Rattle.bi_commands.specs.Extracting.{Choice, OfOtherKind, NoSuchPart, NoSuchImage, NoSuchConfiguration, NoSuchKey, HasBadList}
use Rattle.bi_commands.specs.Extracting.{HasMissingImage, NoSuchEntry, HasNoPayload, MeansSuch, choice_of, IsExtractError}
use Rattle.bi_c.specs.declared.answer.Answer.{Answer}
use Rattle.bi_c.specs.declared.failure.Failure.{Failure}
use Rattle.bi_c.specs.declared.failure.Failure.TheVariants.{WrongArgument, Refused, OutOfMemory, NotFound}
use Rattle.bi_c.specs.declared.region.Region.{Region}
use Rattle.bi_c.specs.Answers.{Answers, Returned, Failed as HasFailed}
use Rattle.bi_c.specs.Extracting.{IsChosenAt, IsFound, IsOffset, IsPayloadOffset, IsReasonNumber, IsSelectFailure, IsExtracted}
use Rattle.bi_c.specs.Extracting.{IsExtractCallFailure}
use Rattle.bi_c.specs.Extracting.{failure_of_extract_error}
use Rattle.bi_c.specs.declared.argument.Argument.{Argument}

-- What a call from C extracts from what was read of a file is in the file, and the call fails as extracting from the file does.

-- What is found of the meaning of a file is found in the file.
pub found_in_file : (select : Select) (limits : Limits) (file : List ℕ) (meaning : Meaning) (result : Result Region ExtractError) →
    Means limits file meaning
    → IfOk result (λ region. IsChosenAt file (choice_of select meaning) region.size region.offset)
    → IfOk result (λ region. IsOffset limits select file region.offset) →
    IfOk result (λ region. IsFound limits select file region.size region.offset)
found_in_file select limits file meaning (Ok region) means is at = record {
  is_chosen = record { meaning = meaning; means = means; holds = is };
  is_offset = at;
}
found_in_file select limits file meaning (Err error) means is at = tt

-- A flattened image tree that was read has no part, so what is selected of it is at the offset of a payload.
pub payload_offset_in_file : (select : Select) (limits : Limits) (file : List ℕ) (content : FitModel)
    (result : Result Region ExtractError) → IsReadFit limits file content
    → IfOk result (λ region. IsPayloadOffset select content region.offset)
    → IfOk result (λ region. IsOffset limits select file region.offset)
payload_offset_in_file (Part index) limits file content (Ok region) read is = absurd is
payload_offset_in_file (Image name) limits file content (Ok region) read is = (content, read, is)
payload_offset_in_file (Config name key index) limits file content (Ok region) read is = (content, read, is)
payload_offset_in_file (Default key index) limits file content (Ok region) read is = (content, read, is)
payload_offset_in_file select limits file content (Err error) read is = tt

-- The numbers of the reason for which nothing is found.
numbered : (select : Select) (limits : Limits) (file : List ℕ) (choice : Choice) (reason index : ℕ) →
    MeansSuch limits file (λ meaning. choice_of select meaning ≡ choice) → IsReasonNumber reason index choice
    → MeansSuch limits file (λ meaning. IsReasonNumber reason index (choice_of select meaning))
numbered select limits file choice reason index is numbers = record {
  meaning = is.meaning;
  means = is.means;
  holds = subst (IsReasonNumber reason index) (sym is.holds) numbers;
}

-- The failure for an error of extracting.
pub select_failure : (select : Select) (limits : Limits) (file : List ℕ) (cause : ExtractError) (failure : Failure) →
    failure ≡ failure_of_extract_error cause → IsExtractError select limits file cause → IsSelectFailure limits select file failure
select_failure select limits file cause failure same is = subst (IsSelectFailure limits select file) (sym same) (by cause is)
  where
    by : (cause : ExtractError) → IsExtractError select limits file cause →
        IsSelectFailure limits select file (failure_of_extract_error cause)
    by (Failed (error.Refused fault)) is = (refl, is)
    by (Failed error.OutOfMemory) is = is
    by (Failed error.ReadFailed) is = absurd is
    by (Failed error.WriteFailed) is = absurd is
    by WrongKind is = numbered select limits file OfOtherKind 1 0 is (refl, refl)
    by NoPart is = numbered select limits file NoSuchPart 2 0 is (refl, refl)
    by NoImage is = numbered select limits file NoSuchImage 3 0 is (refl, refl)
    by (Config list.NoConfig) is = numbered select limits file NoSuchConfiguration 4 0 is (refl, refl)
    by (Config list.NoKey) is = numbered select limits file NoSuchKey 5 0 is (refl, refl)
    by (Config list.BadList) is = numbered select limits file HasBadList 6 0 is (refl, refl)
    by (Config (list.Missing index)) is = numbered select limits file (HasMissingImage index) 7 index is (refl, refl)
    by (Config list.OutOfMemory) is = absurd is.holds
    by NoIndex is = numbered select limits file NoSuchEntry 8 0 is (refl, refl)
    by NoPayload is = numbered select limits file HasNoPayload 9 0 is (refl, refl)

-- The answer of a call with valid arguments.
pub extract_answers : (Check : Option (Argument × ℕ) → Type 0) (limits other_limits : Limits) (select other : Select) (file : List ℕ)
    (answer : Answer)
    (status : ℕ) →
    Check None → limits ≡ other_limits → select ≡ other
    → Answers (IsFound limits select file) (IsSelectFailure limits select file) answer status
    → Answers (IsExtracted (Check None) other_limits other file) (IsExtractCallFailure Check other_limits other file) answer status
extract_answers Check limits other_limits select other file answer status valid same_limits same_select is =
    by (subst (λ (s : Select). Answers (IsFound other_limits s file) (IsSelectFailure other_limits s file) answer status) same_select
    (subst (λ (l : Limits). Answers (IsFound l select file) (IsSelectFailure l select file) answer status) same_limits is))
  where
    failed : (failure : Failure) → IsSelectFailure other_limits other file failure →
        IsExtractCallFailure Check other_limits other file failure
    failed (WrongArgument found index) is = absurd is
    failed (Refused number fault) is = (valid, is)
    failed OutOfMemory is = (valid, is)
    failed (NotFound reason index) is = (valid, is)

    by : Answers (IsFound other_limits other file) (IsSelectFailure other_limits other file) answer status →
        Answers (IsExtracted (Check None) other_limits other file) (IsExtractCallFailure Check other_limits other file) answer status
    by (Returned size value is told is_status) = Returned size value (record { valid = valid; is_found = is }) told is_status
    by (HasFailed failure is told is_status) = HasFailed failure (failed failure is) told is_status
