use Rattle.std.proofs.Common.{ap, flat_map, ◌∙◌}
use Rattle.bi_fit.specs.JudgementCalls.{checked_hash_of}
use Rattle.bi_report.specs.ConcernValues.{used_left}
use Rattle.bi_common.specs.LineTokens.{one_field}
use Rattle.bi_report.specs.MadeDetails.{algorithm_words}
use Rattle.bi_report.proofs.LaterPuts.{all_are_put, next_are_put}
use Rattle.bi_report.proofs.PrintedDetails.{words_first}
use Rattle.bi_report.proofs.details.put_algorithms.Goals as goal

pub loop-hash-preserved : goal.loop-hash-preserved
loop-hash-preserved g c =
    next_are_put g.L.LinePen.puts g.met.L.LinePen.puts_in_turn _ _ _ _ _ _ _ c.loop-hash.invariant
    (ap (λ hashes. flat_map one_field (algorithm_words hashes)) c.in-Some.ensures.steps
    ∙ words_first (checked_hash_of c.in-Some.hash) (used_left c.next.new.self))
    c.put_good_algorithm.ensures

pub returns : goal.returns
returns g c =
    all_are_put g.L.LinePen.puts g.met.L.LinePen.puts_nothing _ _ _ _ c.loop-hash.invariant
    (ap (λ hashes. flat_map one_field (algorithm_words hashes)) c.in-None.ensures.steps.0)
