use Rattle.bi_legacy.proofs.FaultLaws.{no_meaning_with_fault}
use Rattle.bi_legacy.proofs.laws.no_meaning_with_fault.Goals as goal

pub returns : goal.returns
returns c = λ file limits fault is image means. no_meaning_with_fault file image limits fault is means
