use Rattle.std.proofs.Common.{ap, map, subst}
use Rattle.bi_common.specs.LineTokens.{line_tokens, tokens_of_lines}
use Rattle.bi_report.specs.Details.{details_line}
use Rattle.bi_report.specs.Reports.{hash_line}
use Rattle.bi_report.proofs.LaterPuts.{all_are_put, next_are_put}
use Rattle.bi_report.proofs.verify.texts.put_hash_lines.Goals as goal

pub loop-hash-preserved : goal.loop-hash-preserved
loop-hash-preserved g c =
    next_are_put g.L.LinePen.puts g.met.L.LinePen.puts_in_turn _ _ _ _ _ _ _ c.loop-hash.invariant
    (ap (λ hashes. tokens_of_lines (map hash_line hashes)) c.in-Some.ensures.steps)
    (subst (λ details. g.L.LinePen.puts c.loop-hash.pen (line_tokens (details_line details)) c.put_details_line.new.pen)
    c.details_of_hash.ensures
    c.put_details_line.ensures)

pub returns : goal.returns
returns g c =
    all_are_put g.L.LinePen.puts g.met.L.LinePen.puts_nothing _ _ _ _ c.loop-hash.invariant
    (ap (λ hashes. tokens_of_lines (map hash_line hashes)) c.in-None.ensures.steps.0)
