use Rattle.bi_legacy.proofs.NoEmitFault.{no_emit_fault}
use Rattle.bi_legacy.proofs.laws.meaning_can_be_written.Goals as goal

pub returns : goal.returns
returns c = λ file image limits means. no_emit_fault file image limits means.is_file means.short
