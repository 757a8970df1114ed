use Rattle.std.proofs.Common.{length, ap, rules}
use Rattle.bootimg.proofs.BuildRuns.{reads_some}
use Rattle.bootimg.proofs.builds.reads_input.Goals as goal

pub returns-else-is_empty : goal.returns-else-is_empty
returns-else-is_empty c =
    reads_some c.args.sources.now c.some_is_input.result (λ none. absurd (let e = ap length none in search rules)) c.some_is_input.ensures
