use Rattle.std.proofs.Common.{length, ap, rules}
use Rattle.bi_commands.proofs.LegacyOutputs.{cut_is_split_error}
use Rattle.bi_commands.proofs.build_legacy.contents_of.Goals as goal

pub returns-clause-failed : goal.returns-clause-failed
returns-clause-failed c =
    cut_is_split_error c.args.input.now c.args.parts.now c.fill.result
    (λ none. absurd (let e = ap length none in search rules)) c.fill.ensures.failed
