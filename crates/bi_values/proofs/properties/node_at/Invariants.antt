use Rattle.std.proofs.Common.{◌≡◌, drop}
use Rattle.bi_fdt.specs.Views.{node_of}
use Rattle.bi_values.specs.FoundValues.{node_by_names}
use Rattle.bi_values.specs.ValueNames.{names_of_path}
use Rattle.bi_values.proofs.properties.node_at.Given as goal

-- The names that are left lead to the node from this one.
abbrev pub invariant-loop-name : goal.invariant-loop-name
invariant-loop-name l =
    node_by_names (node_of l.from) (names_of_path l.path)
    ≡ node_by_names (node_of l.node) (names_of_path (drop l.name-index l.path))
