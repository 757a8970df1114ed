use Rattle.std.proofs.Common.{◌≡◌, ℕ, ◌+◌, List, [], ◌∷◌, ◌++◌, length, arith, rules}
use Rattle.bi_blob.specs.Tree.{names}
use Rattle.bi_blob.specs.NameSets.{HoldsNames}
use Rattle.bi_blob.specs.OpenNodes.{OpenFileNode}
use Rattle.bi_fdt.specs.declared.growing.OpenNode.{OpenNode}
use Rattle.bi_fdt.specs.Growth.{AreOpen}

-- A growing table has one entry for each open node, and the innermost one holds the names of its children.

-- There is one for each open node.
pub AreOpen-length : (opened : List OpenNode) (children : List (List ℕ)) (name : List ℕ) (outer : List OpenFileNode) →
    AreOpen opened children name outer → length opened ≡ length outer + 1
AreOpen-length [] children name outer are = absurd are
AreOpen-length (o ∷ []) children name [] are = omega arith
AreOpen-length (o ∷ p ∷ later) children name [] are = absurd are
AreOpen-length (o ∷ later) children name (parent ∷ outer) are =
    search (rules, AreOpen-length later (names parent.children ++ name ∷ []) parent.name outer are.2)

-- The innermost has the names of its children.
pub AreOpen-held : (innermost : OpenNode) (later : List OpenNode) (children : List (List ℕ)) (name : List ℕ) (outer : List OpenFileNode) →
    AreOpen (innermost ∷ later) children name outer → HoldsNames innermost.children children
AreOpen-held innermost [] children name [] are = are.1
AreOpen-held innermost (o ∷ later) children name [] are = absurd are
AreOpen-held innermost later children name (parent ∷ outer) are = are.1
