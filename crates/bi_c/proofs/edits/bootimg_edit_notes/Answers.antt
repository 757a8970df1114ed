use Rattle.std.proofs.Common.{refl}
use Rattle.bi_c.specs.Answers.{WasNotSet}
use Rattle.bi_c.proofs.edits.bootimg_edit_notes.Goals as goal

pub returns-in-Err : goal.returns-in-Err
returns-in-Err c = WasNotSet c.in-Err.failure c.in-Err.ensures.failed refl c.fail.ensures.answer c.fail.ensures.status
