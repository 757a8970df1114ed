use Rattle.std.proofs.Common.{ℕ, ◌+◌, ◌-◌, ◌≤◌}
use Rattle.bi_blob.specs.Tree.{Root, FileNode}
use Rattle.bi_blob.specs.OpenNodes.{IsOpenAt, WholeTree}
use Rattle.bi_fdt.specs.Blocks.{blocks_of}
use Rattle.bi_fdt.proofs.structure.check_after_root.Given as goal

abbrev pub invariant-loop-number : goal.invariant-loop-number
invariant-loop-number l = record {
  position : (depth_limit : ℕ) (root : Root FileNode) → IsOpenAt (blocks_of l.blocks) depth_limit l.fn.place (WholeTree root) →
      IsOpenAt (blocks_of l.blocks) depth_limit l.place (WholeTree root);
  within : l.place ≤ l.blocks.end + 3;
}

abbrev pub decreases-loop-number : goal.decreases-loop-number
decreases-loop-number l = l.blocks.end - l.place
