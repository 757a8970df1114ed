use Rattle.std.proofs.Common.{flat_map, length, map}
use Rattle.bi_fit.specs.Judgement.{listed_names}
use Rattle.bi_common.specs.Lines.{Name}
use Rattle.bi_common.specs.LineTokens.{one_field}
use Rattle.bi_report.proofs.PutInTurn.{IsPutBefore}
use Rattle.bi_report.proofs.list.configurations.put_names.Given as goal

-- The names that are left follow those that were put.
abbrev pub invariant-loop-name : goal.invariant-loop-name
invariant-loop-name g l =
    IsPutBefore g.L.LinePen.puts l.initial.pen l.pen (flat_map one_field (map Name (listed_names l.rest)))
    (flat_map one_field (map Name (listed_names l.value)))

abbrev pub decreases-loop-name : goal.decreases-loop-name
decreases-loop-name g l = length l.rest
