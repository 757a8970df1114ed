use Rattle.std.proofs.Common.{◌≡◌, map, take, string_bytes}
use Rattle.bi_fit.specs.BuiltNodes.{hash_node_names}
use Rattle.bi_fit.proofs.building.hash_nodes.hash_node_names.Given as goal

-- The names for the algorithms before this one.
abbrev pub invariant-loop-index : goal.invariant-loop-index
invariant-loop-index l = map string_bytes l.names.items ≡ hash_node_names 1 (take l.index l.algorithms)
