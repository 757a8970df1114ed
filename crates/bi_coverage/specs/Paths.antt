use Rattle.std.specs.Prelude.{ℕ, List, [], ◌∷◌, ◌++◌, flat_map, if◌then◌else◌}
use Rattle.bi_blob.specs.Layout.{is_among}
use Rattle.bi_blob.specs.Tree.{Nodes, none, node, Root}

-- The nodes of a tree by their paths (Devicetree Specification, 2.2.3).

-- The path of a node as bytes. It is given by the names of the nodes from the root to it, without
-- the root: the root's path is `/`, and the path of any other node has each name after a `/`.
abbrev pub path_text : List (List ℕ) → List ℕ
path_text [] = 47 ∷ []
path_text (first ∷ later) = flat_map (λ name. 47 ∷ name) (first ∷ later)

-- A node of a tree: the names on its path, and what it has itself.
pub record LocatedNode (Own : Type 0) : Type 0 where
  pub names : List (List ℕ)
  pub own : Own

-- These nodes with all below them. Their parent has these names on its path.
abbrev pub nodes_below : {Own : Type 0} → (parent : List (List ℕ)) → Nodes Own
    → List (LocatedNode Own)
nodes_below parent none = []
nodes_below parent (node name own children later) =
    record { names = parent ++ name ∷ []; own = own }
    ∷ (nodes_below (parent ++ name ∷ []) children ++ nodes_below parent later)

-- All nodes of a tree.
abbrev pub all_nodes : {Own : Type 0} → Root Own → List (LocatedNode Own)
all_nodes root = record { names = []; own = root.own } ∷ nodes_below [] root.children

-- These names with one more at the end, unless it is among them.
abbrev pub with_new : List (List ℕ) → List ℕ → List (List ℕ)
with_new names name = if is_among name names then names else names ++ name ∷ []

-- These names, and then the others in order, each once.
abbrev pub with_all_new : List (List ℕ) → List (List ℕ) → List (List ℕ)
with_all_new names [] = names
with_all_new names (name ∷ later) = with_all_new (with_new names name) later

-- These names in order, each once, where it comes first.
abbrev pub each_once : List (List ℕ) → List (List ℕ)
each_once names = with_all_new [] names
