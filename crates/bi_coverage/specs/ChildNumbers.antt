use Rattle.std.specs.Prelude.{◌≡◌, ℕ, ◌+◌, List, [], ◌∷◌, Option, Some, None, bytes_eq}
use Rattle.std.specs.Prelude.{if◌then◌else◌}
use Rattle.std.specs.BTreeMap.{BTreeMap, get_by}
use Rattle.std.specs.Cmp.Lexicographic.{slice_cmp}
use Rattle.std.specs.Ordering.{nat_cmp}
use denote.Ref.{Bor}
use Rattle.bi_blob.specs.Lookups.{Sibling}
use Rattle.bi_blob.specs.Tree.{FileNode}

-- The numbers of the children of nodes.

-- The index of the first of these nodes with a name, if the first of them has this index.
abbrev pub first_index : (index : ℕ) → (name : List ℕ) → List (Sibling FileNode) → Option ℕ
first_index index name [] = None
first_index index name (sibling ∷ later) =
    if bytes_eq sibling.name name then Some index else first_index (index + 1) name later

-- The number of each child of a node, by its name.
abbrev pub Children : Type 0
Children = BTreeMap (Bor (List ℕ)) ℕ

-- The number of the child with a name.
abbrev pub child_number : Children → (name : List ℕ) → Option ℕ
child_number children name = get_by (λ other. slice_cmp nat_cmp name other.now) children

-- These are the numbers of nodes by their names, if the first of them has this number.
pub record HasNumbersFrom (index : ℕ) (nodes : List (Sibling FileNode)) (children : Children)
    : Type 0 where
  pub each : (name : List ℕ) → child_number children name ≡ first_index index name nodes
