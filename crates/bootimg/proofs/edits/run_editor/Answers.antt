use Rattle.std.proofs.Common.{rules}
use Rattle.std.proofs.lemmas.Result.{err_from_is_err_and}
use Rattle.bi_base.specs.Commands.{SinkFailed}
use Rattle.bi_edit.specs.declared.edit_error.EditError.TheVariants.{Failed}
use Rattle.bi_edit.specs.EditedFiles.{IsEdited, IsEditFileError, IsEditOutput}
use Rattle.bootimg.proofs.EditRuns.{editor_failed, finish_stopped, finish_wrote}
use Rattle.bootimg.proofs.edits.run_editor.Goals as goal

pub returns-in_err-notes-clause-failed : goal.returns-in_err-notes-clause-failed
returns-in_err-notes-clause-failed g c =
    let p = err_from_is_err_and c.from_residual.result c.from_residual.ensures.1 in
    let editor = c.args.editor in
    let file = c.args.file.now in
    rw (p.1, p.2)
    (editor_failed g.T.TracedWrite.trace (λ cause. Failed cause) (IsEdited editor.edits.now editor.choice c.args.limits file)
    (IsEditFileError editor.edits.now editor.choice c.args.limits file) _ _ c.new-sink.result c.run.new.sink c.in_err-notes.field-0.0
    c.new-sink.ensures.none_held (search rules) (search rules) c.in_err-notes.ensures.failed)

pub returns-in_err-finish-clause-failed : goal.returns-in_err-finish-clause-failed
returns-in_err-finish-clause-failed g c =
    let p = err_from_is_err_and c.from_residual-in_err-finish.result c.from_residual-in_err-finish.ensures.1 in
    let editor = c.args.editor in
    let appended = c.in_ok-notes.ensures.appended in
    let cause = c.in_err-finish.field-0.0 in
    rw p.1
    (SinkFailed appended.text cause appended.is_text.is
    (finish_stopped g.T.TracedWrite.trace
    (IsEditOutput editor.edits.now editor.choice c.args.limits c.in_ok-notes.notes c.args.file.now) _ _ c.new-sink.result c.run.new.sink _
    cause c.new-sink.ensures.none_held (search rules) (search rules) appended c.in_err-finish.ensures.finished) p.2)

pub returns-clause-written : goal.returns-clause-written
returns-clause-written g c =
    let editor = c.args.editor in
    let appended = c.in_ok-notes.ensures.appended in (
      appended.text,
      appended.is_text,
      finish_wrote g.T.TracedWrite.trace
          (IsEditOutput editor.edits.now editor.choice c.args.limits c.in_ok-notes.notes c.args.file.now) _ _ c.new-sink.result
          c.run.new.sink _ c.new-sink.ensures.none_held (search rules) (search rules) appended c.in_ok-finish.ensures.finished,
    )
