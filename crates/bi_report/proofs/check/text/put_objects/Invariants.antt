use Rattle.std.proofs.Common.{◌≡◌, ◌||◌, map}
use Rattle.bi_common.specs.JsonTokens.{value_tokens}
use Rattle.bi_report.specs.CheckedImages.{has_any, kept_left}
use Rattle.bi_report.specs.Checking.{concern_object}
use Rattle.bi_report.specs.FoundConcerns.{concerns_in}
use Rattle.bi_report.proofs.check.text.put_objects.Given as goal

-- Once the objects of the concerns that are left are put, all are.
abbrev pub invariant-loop-concern : goal.invariant-loop-concern
invariant-loop-concern g l = record {
  objects : (end : g.row.J.Denot)
      → g.J.JsonPen.puts l.json (value_tokens (map concern_object (concerns_in (kept_left l.concern-iterator)))) end
      → g.J.JsonPen.puts l.initial.json (value_tokens (map concern_object (concerns_in (kept_left l.fn.concerns)))) end;
  any : has_any (kept_left l.concern-iterator) || l.any ≡ has_any (kept_left l.fn.concerns);
}
