use Rattle.bi_legacy.proofs.FaultLaws.{one_legacy_fault}
use Rattle.bi_legacy.proofs.laws.one_fault.Goals as goal

pub returns : goal.returns
returns c = one_legacy_fault
