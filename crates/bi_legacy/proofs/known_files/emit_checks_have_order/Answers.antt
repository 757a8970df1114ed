use Rattle.bi_legacy.proofs.EmitFaultFacts.{emit_checks_have_order}
use Rattle.bi_legacy.proofs.known_files.emit_checks_have_order.Goals as goal

pub returns : goal.returns
returns c = emit_checks_have_order
