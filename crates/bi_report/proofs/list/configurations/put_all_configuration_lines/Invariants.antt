use Rattle.std.proofs.Common.{flat_map, map}
use Rattle.bi_fit.specs.Siblings.{siblings_left}
use Rattle.bi_common.specs.LineTokens.{tokens_of_lines}
use Rattle.bi_report.specs.FitListing.{configuration_lines}
use Rattle.bi_report.specs.ReadListing.{read_configuration, read_configurations}
use Rattle.bi_report.proofs.PutInTurn.{IsPutBefore}
use Rattle.bi_report.proofs.list.configurations.put_all_configuration_lines.Given as goal

-- The configurations that are left follow those that were put.
abbrev pub invariant-loop-node : goal.invariant-loop-node
invariant-loop-node g l =
    IsPutBefore g.L.LinePen.puts l.initial.pen l.pen
    (tokens_of_lines (flat_map configuration_lines (map (read_configuration l.fn.fit.images) (siblings_left l.node-iterator))))
    (tokens_of_lines (flat_map configuration_lines (read_configurations l.fn.fit)))
