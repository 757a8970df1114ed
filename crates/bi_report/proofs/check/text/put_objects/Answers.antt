use Rattle.std.proofs.Common.{◌||◌, ap, map, subst, sym, ◌∙◌}
use Rattle.std.proofs.Math.Bool.{or-true}
use Rattle.bi_common.specs.JsonTokens.{json_tokens, value_tokens}
use Rattle.bi_report.specs.CheckedImages.{has_any, kept_left}
use Rattle.bi_report.specs.Checking.{concern_object}
use Rattle.bi_report.specs.Details.{details_object}
use Rattle.bi_report.specs.FoundConcerns.{concerns_in}
use Rattle.bi_report.proofs.LaterPuts.{next_are_put}
use Rattle.bi_report.proofs.check.text.put_objects.Goals as goal

pub loop-concern-preserved : goal.loop-concern-preserved
loop-concern-preserved g c =
    let before = c.loop-concern in
    let steps = c.in-Some.ensures.steps in
    record {
      objects = next_are_put g.J.JsonPen.puts g.met.J.JsonPen.puts_in_turn _ _ _ _ _ _ _ before.invariant.objects
          (ap (λ found. value_tokens (map concern_object (concerns_in found))) steps)
          (subst (λ details. g.J.JsonPen.puts before.json (json_tokens (details_object details)) c.put_details_object.new.json)
          c.details.ensures c.put_details_object.ensures);
      any = or-true (has_any (kept_left c.next.new.self)) ∙ ap (λ found. has_any found || before.any) (sym steps) ∙ before.invariant.any;
    }
