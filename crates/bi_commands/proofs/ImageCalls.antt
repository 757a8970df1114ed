use Rattle.std.proofs.Common.{◌≡◌, ◌⊎◌, ℕ, List, Result, Ok, Err, Bor, IfOk, IfErr, inl, inr, subst, sym}
use Rattle.bi_base.specs.declared.fault.Error.TheVariants.{OutOfMemory}
use Rattle.bi_base.specs.Limits.{Limits}
use Rattle.bi_norm.specs.Meaning.{Meaning, Means}
use Rattle.bi_norm.specs.Reading.{NeedsMemory}
use Rattle.bi_commands.specs.declared.extract.Select.{Select}
use Rattle.bi_commands.specs.declared.extract.ExtractError.{ExtractError}
use Rattle.bi_commands.specs.declared.extract.ExtractError.TheVariants.{Failed, WrongKind, NoPart, NoImage, Config, NoIndex, NoPayload}
use Rattle.bi_commands.specs.Extracting.{Chosen, IsReason, choice_of, IsChosen, IsExtractError}

-- What is chosen or refused of what a file means is chosen or refused of the file.

-- What is chosen of the meaning of a file is chosen of the file.
pub chosen_of_file : (select : Select) (limits : Limits) (file : List ℕ) (meaning : Meaning) (result : Result (Bor (List ℕ)) ExtractError) →
    Means limits file meaning
    → IfOk result (λ bytes. choice_of select meaning ≡ Chosen bytes.now) → IfOk result (λ bytes. IsChosen select limits file bytes.now)
chosen_of_file select limits file meaning (Ok bytes) means is = record { meaning = meaning; means = means; holds = is }
chosen_of_file select limits file meaning (Err error) means is = tt

-- The reason for which nothing is chosen of the meaning of a file is an error of extracting from the file.
reason_of_file : (select : Select) (limits : Limits) (file : List ℕ) (meaning : Meaning) (error : ExtractError) →
    Means limits file meaning → IsReason error (choice_of select meaning) → IsExtractError select limits file error
reason_of_file select limits file meaning (Failed failed) means is = absurd is
reason_of_file select limits file meaning WrongKind means is = record { meaning = meaning; means = means; holds = is }
reason_of_file select limits file meaning NoPart means is = record { meaning = meaning; means = means; holds = is }
reason_of_file select limits file meaning NoImage means is = record { meaning = meaning; means = means; holds = is }
reason_of_file select limits file meaning (Config reason) means is = record { meaning = meaning; means = means; holds = is }
reason_of_file select limits file meaning NoIndex means is = record { meaning = meaning; means = means; holds = is }
reason_of_file select limits file meaning NoPayload means is = record { meaning = meaning; means = means; holds = is }

-- The same of a call's result.
pub refused_of_file : {V : Type 0} (select : Select) (limits : Limits) (file : List ℕ) (meaning : Meaning)
    (result : Result V ExtractError) → Means limits file meaning
    → IfErr result (λ error. IsReason error (choice_of select meaning)) → IfErr result (IsExtractError select limits file)
refused_of_file select limits file meaning (Ok value) means is = tt
refused_of_file select limits file meaning (Err error) means is = reason_of_file select limits file meaning error means is

-- The same where memory may run out.
pub failed_of_file : {V : Type 0} (select : Select) (limits : Limits) (file : List ℕ) (meaning : Meaning) (result : Result V ExtractError) →
    Means limits file meaning → NeedsMemory limits file
    → IfErr result (λ error. IsReason error (choice_of select meaning) ⊎ (error ≡ Failed OutOfMemory)) →
    IfErr result (IsExtractError select limits file)
failed_of_file select limits file meaning (Ok value) means needs is = tt
failed_of_file select limits file meaning (Err error) means needs (inl is) = reason_of_file select limits file meaning error means is
failed_of_file select limits file meaning (Err error) means needs (inr is) = subst (IsExtractError select limits file) (sym is) needs
