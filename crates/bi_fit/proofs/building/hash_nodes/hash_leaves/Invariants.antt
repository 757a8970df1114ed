use Rattle.std.proofs.Common.{◌≡◌, ℕ, ◌+◌, List, ◌++◌, map, drop}
use Rattle.std.specs.List.{AllByRecursion}
use Rattle.bi_fit.specs.BuiltNames.{built_names}
use Rattle.bi_fit.specs.BuiltNodes.{built_digests, built_hash_leaves}
use Rattle.bi_fit.specs.Leaves.{leaf_model}
use Rattle.bi_fit.specs.declared.document.nodes.Leaf.{Leaf}
use Rattle.bi_fit.proofs.building.hash_nodes.hash_leaves.Given as goal

-- The hash nodes for the algorithms before this one, and those from it on, are all. The digests that are left are those from it on.
abbrev pub invariant-loop-index : goal.invariant-loop-index
invariant-loop-index l = record {
  leaves : (payload : List ℕ) → l.fn.digests ≡ built_digests l.algorithms payload →
      map leaf_model l.leaves.items ++ built_hash_leaves (l.index + 1) (drop l.index l.algorithms) payload
      ≡ built_hash_leaves 1 l.algorithms payload;
  left : (payload : List ℕ) → l.fn.digests ≡ built_digests l.algorithms payload →
      l.left ≡ built_digests (drop l.index l.algorithms) payload;
  same_names : AllByRecursion (λ (leaf : Leaf). leaf.properties.names ≡ built_names) l.leaves.items;
}
