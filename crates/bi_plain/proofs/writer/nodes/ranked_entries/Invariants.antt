use Rattle.std.proofs.Common.{◌≡◌, ◌++◌, drop}
use Rattle.bi_tree.specs.Properties.{tree_properties}
use Rattle.bi_plain.specs.Ranked.{ranked_values, values_by_rank}
use Rattle.bi_plain.proofs.writer.nodes.ranked_entries.Given as goal

abbrev pub invariant-loop-property : goal.invariant-loop-property
invariant-loop-property l =
    ranked_values l.entries.items ++ values_by_rank l.ranks (tree_properties (drop l.property-index l.properties))
    ≡ values_by_rank l.ranks (tree_properties l.properties)
