use Rattle.std.proofs.Common.{◌≡◌, ℕ, Bool, List, Ok, Err, inl, inr, refl}
use Rattle.std.specs.Global.{Vec}
use Rattle.bi_describe.specs.declared.ignored.Ignored.{Ignored}
use Rattle.std.specs.Fmt.{digits}
use Rattle.bi_base.specs.Traces.{WriteTrace}
use Rattle.clap.specs.declared.error.kind.ErrorKind.{ErrorKind}
use Rattle.bootimg.specs.KnownRuns.{FailureLinesAreKnown, ExtractLinesAreKnown, CompareLinesAreKnown, NotesAreKnown, StatusesAreKnown}
use Rattle.bootimg.specs.KnownRuns.{ValueLinesAreKnown}
use Rattle.bootimg.specs.Runs.{Run, IsAskedFor, IsEnd, EndsWell, EndsWithFailure, IsMistake, IsTextRun, IsWritten, IsNotWritten, IsUsage}
use Rattle.bootimg.specs.Tasks.{status_of}
use Rattle.bootimg.specs.declared.jobs.SourceFailure.{SourceFailure}
use Rattle.bootimg.specs.declared.tasks.Done.{Done}

-- Statuses are known, and failures and notes have known lines.

-- After a failure the status is 2.
status_after_failure : (hints : Bool) (errors new_errors : WriteTrace) (status : ℕ) (failed : SourceFailure)
    → IsEnd hints errors new_errors status (Err failed)
    → status ≡ 2
status_after_failure hints errors new_errors status failed (EndsWell done is notes same) = absurd cc
status_after_failure hints errors new_errors status failed (EndsWithFailure other is reports same) = same

-- After an answer the status is that of the answer.
status_after_answer : (hints : Bool) (errors new_errors : WriteTrace) (status : ℕ) (done : Done) → IsEnd hints errors new_errors status
    (Ok done)
    → status ≡ status_of done.good
status_after_answer hints errors new_errors status done (EndsWell other is notes same) = cc
status_after_answer hints errors new_errors status done (EndsWithFailure other is reports same) = absurd cc

-- A text that is a mistake is not asked for.
not_asked_for : (kind : ErrorKind) → IsMistake kind → IsAskedFor kind → ⊥
not_asked_for kind mistake (inl is) = mistake.0 is
not_asked_for kind mistake (inr is) = mistake.1 is

status_after_mistake : (hints : Bool) (kind : ErrorKind) (text : List ℕ) (run : Run) → IsMistake kind → IsTextRun hints kind text run
    → run.status ≡ 2
status_after_mistake hints kind text run mistake (IsWritten asked wrote errors input steps status) = absurd
    (not_asked_for kind mistake asked)
status_after_mistake hints kind text run mistake (IsNotWritten asked error stopped reports input steps status) = status
status_after_mistake hints kind text run mistake (IsUsage is logs output input steps status) = status

pub statuses_are_known : StatusesAreKnown
statuses_are_known = record {
  good = refl;
  not_good = refl;
  done = status_after_answer;
  failed = status_after_failure;
  rejected = λ source failure hint run is. is.status;
  mistaken = status_after_mistake;
}

pub failure_lines_are_known : FailureLinesAreKnown
unfolding digits
failure_lines_are_known = record {
  refused = refl;
  refused_at_offset = refl;
  out_of_memory = refl;
  read_failed = refl;
  write_failed = refl;
  no_selection = refl;
  no_change = refl;
  bad_value = refl;
  bad_image = refl;
  bad_configuration = refl;
  nothing_to_remove = refl;
  cannot_open = refl;
  output_is_terminal = refl;
  not_written = refl;
  shown_name = refl;
  standard_input = refl;
}

pub extract_lines_are_known : ExtractLinesAreKnown
unfolding digits
extract_lines_are_known = record {
  failed = refl;
  wrong_kind = refl;
  no_part = refl;
  no_image = refl;
  no_configuration = refl;
  no_key = refl;
  bad_list = refl;
  missing = refl;
  out_of_memory = refl;
  no_index = refl;
  no_payload = refl;
}

pub value_lines_are_known : ValueLinesAreKnown
value_lines_are_known = record { no_property = refl; no_text = refl; no_number = refl; of_input = refl }

pub compare_lines_are_known : (ignored : Vec Ignored) → CompareLinesAreKnown ignored
unfolding digits
compare_lines_are_known ignored = record { one = refl; other = refl; out_of_memory = refl }

pub notes_are_known : NotesAreKnown
unfolding digits
notes_are_known = record { one = refl; many = refl; inside = refl; alignment = refl; positions = refl }
