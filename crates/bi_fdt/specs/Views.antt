use Rattle.std.specs.Prelude.{ℕ, List, drop, IsTrue}
use Rattle.bi_blob.specs.Tree.{FileNode}
use Rattle.bi_blob.specs.Lookups.{Sibling}
use Rattle.bi_fdt.specs.declared.node.NodeRef.{NodeRef}
use Rattle.bi_fdt.specs.Content.{begins_with_node, first_sibling}
use Rattle.bi_fdt.specs.TableItems.{TableItem}

-- What a reference to a node of a blob refers to.

-- A table has a node at this index.
abbrev pub HasNodeAt : List TableItem → ℕ → Type 0
HasNodeAt table index = IsTrue (begins_with_node (drop index table))

-- The node at an index of a table, and the siblings after it.
abbrev pub node_in : List TableItem → ℕ → Sibling FileNode
node_in table index = first_sibling (drop index table)

-- The node, and the siblings after it.
abbrev pub node_of : NodeRef → Sibling FileNode
node_of reference = node_in reference.blob.now.table reference.index

-- The table of the blob that the node is of.
abbrev pub table_of_node : NodeRef → List TableItem
table_of_node reference = reference.blob.now.table
