use Rattle.std.proofs.Common.{Bor, List, ℕ, [], arith}
use Rattle.bootimg.proofs.CommandLines.{sources_next}
use Rattle.bootimg.proofs.command_line.images.named_sources.Goals as goal

pub loop-argument-preserved : goal.loop-argument-preserved
loop-argument-preserved c =
    let d : Bor (List ℕ) = record { ref_ptr = (0, 0); now = [] } in
    sources_next c.args.arguments.now c.loop-argument.argument-index d c.loop-argument.sources.items c.push.new.self.items
    c.named_source.result
    (omega (arith, c.loop-argument-test.true)) c.loop-argument.invariant c.in_ok-push.ensures.items c.named_source.ensures
