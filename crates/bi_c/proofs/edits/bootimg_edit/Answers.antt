use Rattle.std.proofs.Common.{refl, subst, sym}
use Rattle.bi_c.specs.Answers.{FilledNothing}
use Rattle.bi_c.specs.EditCalls.{IsEditedFile}
use Rattle.bi_c.proofs.CallAnswers.{buffer_is_filled}
use Rattle.bi_c.proofs.edits.bootimg_edit.Goals as goal

pub returns-in-Ok : goal.returns-in-Ok
returns-in-Ok c =
    buffer_is_filled _ _ c.deref.result.now _ _ c.in-Ok.made.notes.kept.signatures _ _ (record {
      notes = c.in-Ok.made.notes;
      is = subst (λ text. IsEditedFile c.args.limit c.args.depth c.args.form c.args.input.now c.args.edits.now c.args.file.now text
          c.in-Ok.made.notes) (sym c.deref.ensures.value) c.in-Ok.ensures.made;
      is_number = refl;
    }) c.fill.ensures.answer c.fill.ensures.filled

pub returns-in-Err : goal.returns-in-Err
returns-in-Err c = FilledNothing c.in-Err.failure c.in-Err.ensures.failed refl c.fail.ensures.answer c.fail.ensures.status
