use Rattle.std.proofs.Common.{◌≡◌, Some}
use Rattle.bi_blob.specs.Lookups.{node_at}
use Rattle.bi_fdt.specs.Views.{node_of}
use Rattle.bi_fdt.proofs.node.NodeRef.child_at.Given as goal

abbrev pub invariant-loop : goal.invariant-loop
invariant-loop l = Some (node_of l.child) ≡ node_at (node_of l.self).children l.counter
