use Rattle.std.proofs.Common.{◌||◌, ap, map, subst, sym, ◌∙◌}
use Rattle.std.proofs.Math.Bool.{or-true}
use Rattle.bi_common.specs.LineTokens.{line_tokens, tokens_of_lines}
use Rattle.bi_report.specs.CheckedImages.{has_any, kept_left}
use Rattle.bi_report.specs.Checking.{concern_line}
use Rattle.bi_report.specs.Details.{details_line}
use Rattle.bi_report.specs.FoundConcerns.{concerns_in}
use Rattle.bi_report.proofs.LaterPuts.{next_are_put}
use Rattle.bi_report.proofs.check.text.put_lines.Goals as goal

pub loop-concern-preserved : goal.loop-concern-preserved
loop-concern-preserved g c =
    let before = c.loop-concern in
    let steps = c.in-Some.ensures.steps in
    record {
      lines = next_are_put g.L.LinePen.puts g.met.L.LinePen.puts_in_turn _ _ _ _ _ _ _ before.invariant.lines
          (ap (λ found. tokens_of_lines (map concern_line (concerns_in found))) steps)
          (subst (λ details. g.L.LinePen.puts before.pen (line_tokens (details_line details)) c.put_details_line.new.pen)
          c.details.ensures c.put_details_line.ensures);
      any = or-true (has_any (kept_left c.next.new.self)) ∙ ap (λ found. has_any found || before.any) (sym steps) ∙ before.invariant.any;
    }
