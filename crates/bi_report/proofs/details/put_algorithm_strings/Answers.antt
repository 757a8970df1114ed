use Rattle.std.proofs.Common.{ap, ◌∙◌}
use Rattle.bi_fit.specs.JudgementCalls.{checked_hash_of}
use Rattle.bi_report.specs.ConcernValues.{used_left}
use Rattle.bi_common.specs.JsonTokens.{value_tokens}
use Rattle.bi_report.specs.MadeDetails.{algorithm_strings}
use Rattle.bi_report.proofs.LaterPuts.{all_are_put, next_are_put}
use Rattle.bi_report.proofs.PrintedDetails.{strings_first}
use Rattle.bi_report.proofs.details.put_algorithm_strings.Goals as goal

pub loop-hash-preserved : goal.loop-hash-preserved
loop-hash-preserved g c =
    next_are_put g.J.JsonPen.puts g.met.J.JsonPen.puts_in_turn _ _ _ _ _ _ _ c.loop-hash.invariant
    (ap (λ hashes. value_tokens (algorithm_strings hashes)) c.in-Some.ensures.steps
    ∙ strings_first (checked_hash_of c.in-Some.hash) (used_left c.next.new.self))
    c.put_good_algorithm_string.ensures

pub returns : goal.returns
returns g c =
    all_are_put g.J.JsonPen.puts g.met.J.JsonPen.puts_nothing _ _ _ _ c.loop-hash.invariant
    (ap (λ hashes. value_tokens (algorithm_strings hashes)) c.in-None.ensures.steps.0)
