use Rattle.std.proofs.Common.{subst, arith}
use Rattle.bootimg.specs.ReadParts.{IsLent}
use Rattle.bootimg.proofs.BuildRuns.{lent_next}
use Rattle.bootimg.proofs.builds.lend_parts.Goals as goal

pub loop-part-preserved : goal.loop-part-preserved
loop-part-preserved c =
    lent_next c.args.read.now c.loop-part.part-index c.part-item.result c.loop-part.parts.items c.push.new.self.items c.lend.result
    (omega arith) c.loop-part.invariant c.in_ok-push.ensures.items
    (subst (λ read. IsLent read c.lend.result) c.part-item.is c.lend.ensures)
