use Rattle.std.proofs.Common.{◌≡◌, ◌++◌}
use Rattle.bi_tree.specs.Properties.{tree_properties}
use Rattle.bi_plain.specs.ReadNodes.{numbered_properties}
use Rattle.bi_plain.proofs.reader.properties_of.Given as goal

abbrev pub invariant-loop-number : goal.invariant-loop-number
invariant-loop-number l =
    tree_properties l.all.items ++ numbered_properties l.number-iterator ≡ numbered_properties l.fn.properties
