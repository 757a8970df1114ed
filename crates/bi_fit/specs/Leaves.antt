use Rattle.std.specs.Prelude.{ℕ, List}
use Rattle.bi_blob.specs.Tree.{PropertyMap}
use Rattle.bi_fit.specs.declared.document.nodes.Leaf.{Leaf}

-- Nodes without children, to be added to a document.

-- The name and the properties of one.
abbrev pub leaf_model : Leaf → List ℕ × PropertyMap
leaf_model leaf = (leaf.name.now, leaf.properties.by_name)
