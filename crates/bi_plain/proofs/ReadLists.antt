use Rattle.std.proofs.Common.{◌≡◌, ℕ, List, [], ◌∷◌, ◌++◌, Option, IfSome, refl, sym, ap, ◌∙◌}
use Rattle.bi_blob.specs.Tree.{Nodes, none, node, FileNode, EachOwn, PropertyMap, with_each}
use Rattle.bi_fdt.specs.declared.node.NodeRef.{NodeRef}
use Rattle.bi_fdt.specs.TableItems.{TableItem}
use Rattle.bi_fdt.specs.Views.{table_of_node}
use Rattle.bi_blob.specs.Lookups.{Sibling}
use Rattle.bi_fit.specs.NormalNodes.{nodes_by_name}
use Rattle.bi_tree.specs.TreeNodes.{TreeNodeModel}
use Rattle.bi_tree.specs.Trees.{AreNumberedAmong, by_name}
use Rattle.bi_plain.specs.PlainNodes.{AreNumberedNodes, models_by_name}
use Rattle.bi_plain.specs.ReadNodes.{AreReadNodes, IsReadNode}

-- Nodes that are read one after the other.

-- The next node is of this table, if there is one.
abbrev pub HasSameTable : List TableItem → Option NodeRef → Type 0
HasSameTable table next = IfSome next (λ other. table_of_node other ≡ table)

-- Nodes and then others.
abbrev pub nodes_before : {Own : Type 0} → Nodes Own → Nodes Own → Nodes Own
nodes_before none later = later
nodes_before (node name own children rest) later = node name own children (nodes_before rest later)

pub nodes_before-none : {Own : Type 0} (nodes : Nodes Own) → nodes_before nodes none ≡ nodes
nodes_before-none none = refl
nodes_before-none (node name own children later) = ap (node name own children) (nodes_before-none later)

-- These nodes are left to be read, and are all with those that were read.
pub record IsReadingNodes (names : List (List ℕ)) (all : Nodes FileNode) (done : List TreeNodeModel) (left : Nodes FileNode) : Type 0 where
  pub same : nodes_before (models_by_name done) (nodes_by_name left) ≡ nodes_by_name all
  pub numbered : AreNumberedNodes names done

-- At first none was read.
pub no_nodes_read : (names : List (List ℕ)) (all : Nodes FileNode) → IsReadingNodes names all [] all
no_nodes_read names all = record { same = refl; numbered = tt }

-- In the end all were.
pub all_nodes_read : (names : List (List ℕ)) (all : Nodes FileNode) (done : List TreeNodeModel) → IsReadingNodes names all done none →
    AreReadNodes names all done
all_nodes_read names all done reading =
    record { same = sym (nodes_before-none (models_by_name done)) ∙ reading.same; numbered = reading.numbered }

-- One more was read.
more_before : (done : List TreeNodeModel) (top : TreeNodeModel) (later : Nodes PropertyMap) →
    nodes_before (models_by_name (done ++ top ∷ [])) later
    ≡ nodes_before (models_by_name done) (node top.name (by_name top.own) (with_each by_name top.children) later)
more_before [] top later = refl
more_before (first ∷ done) top later = ap (node first.name (by_name first.own) (with_each by_name first.children))
    (more_before done top later)

more_numbered : (names : List (List ℕ)) (done : List TreeNodeModel) (top : TreeNodeModel) → AreNumberedNodes names done →
    AreNumberedAmong names top.own → EachOwn (AreNumberedAmong names) top.children → AreNumberedNodes names (done ++ top ∷ [])
more_numbered names [] top all own below = (own, below, tt)
more_numbered names (first ∷ done) top all own below = (all.0, all.1, more_numbered names done top all.2 own below)

pub one_node_read : (names : List (List ℕ)) (all : Nodes FileNode) (done : List TreeNodeModel) (s : Sibling FileNode)
    (top : TreeNodeModel) →
    IsReadingNodes names all done (node s.name s.own s.children s.later) → IsReadNode names s top →
    IsReadingNodes names all (done ++ top ∷ []) s.later
one_node_read names all done s top reading read = record {
  same = more_before done top (nodes_by_name s.later)
      ∙ (λ i. nodes_before (models_by_name done) (node (read.name i) (read.own.same i) (read.same i) (nodes_by_name s.later)))
      ∙ reading.same;
  numbered = more_numbered names done top reading.numbered read.own.numbered read.numbered;
}
