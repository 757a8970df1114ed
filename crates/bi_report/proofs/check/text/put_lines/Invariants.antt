use Rattle.std.proofs.Common.{◌≡◌, ◌||◌, map}
use Rattle.bi_common.specs.LineTokens.{tokens_of_lines}
use Rattle.bi_report.specs.CheckedImages.{has_any, kept_left}
use Rattle.bi_report.specs.Checking.{concern_line}
use Rattle.bi_report.specs.FoundConcerns.{concerns_in}
use Rattle.bi_report.proofs.check.text.put_lines.Given as goal

-- Once the lines of the concerns that are left are put, all are.
abbrev pub invariant-loop-concern : goal.invariant-loop-concern
invariant-loop-concern g l = record {
  lines : (end : g.row.L.Denot)
      → g.L.LinePen.puts l.pen (tokens_of_lines (map concern_line (concerns_in (kept_left l.concern-iterator)))) end
      → g.L.LinePen.puts l.initial.pen (tokens_of_lines (map concern_line (concerns_in (kept_left l.fn.concerns)))) end;
  any : has_any (kept_left l.concern-iterator) || l.any ≡ has_any (kept_left l.fn.concerns);
}
