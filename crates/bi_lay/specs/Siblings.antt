use Rattle.std.specs.Prelude.{◌≡◌, ℕ, suc, Bool, List, [], ◌∷◌, length, ◌↔◌, IsTrue}
use Rattle.bi_blob.specs.Tree.{IsNew}
use Rattle.bi_blob.specs.Stages.{OpenNode, Stage, open_nodes}
use Rattle.bi_lay.specs.declared.siblings.Scan.{Scan}

-- What a search for a child with a given name has found so far.

-- Of these open nodes, the innermost first, the one with this depth, if there is one, has no child
-- with the name if and only if the flag is true.
abbrev pub KnowsChildren : List ℕ → ℕ → Bool → List OpenNode → Type 0
KnowsChildren name depth is_new [] = Unit {0}
KnowsChildren name depth is_new (node ∷ outer) =
    (suc (length outer) ≡ depth → IsTrue is_new ↔ IsNew name node.children)
    × KnowsChildren name depth is_new outer

-- The state of a search that has reached this stage.
pub record IsScan (name : List ℕ) (depth : ℕ) (scan : Scan) (stage : Stage) : Type 0 where
  pub is_depth : scan.depth ≡ length (open_nodes stage)
  pub children : KnowsChildren name depth scan.is_new (open_nodes stage)
