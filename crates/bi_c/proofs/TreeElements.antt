use Rattle.std.proofs.Common.{◌≡◌, ◌+◌, ◌<◌, ◌++◌, ◌∷◌, [], ◌^◌, ℕ, List, map, ap, refl, sym, subst, ◌∙◌, append_assoc, append-nil, arith}
use Rattle.bi_base.specs.Limits.{Limits, IsInRange}
use Rattle.bi_blob.specs.Lookups.{Sibling, root_node}
use Rattle.bi_blob.specs.Tree.{FileNode, Root, node, as_nodes, depth as levels}
use Rattle.bi_fdt.specs.Content.{root_of}
use Rattle.bi_fit.specs.Content.{FitModel, tree_of}
use Rattle.bi_fit.specs.NormalNodes.{alone}
use Rattle.bi_fit.specs.Reading.{IsReadFit}
use Rattle.bi_c.specs.declared.all_nodes.TreeElement.{TreeElement}
use Rattle.bi_c.specs.Arguments.{bounds}
use Rattle.bi_c.specs.TreeElements.{AreTreeElements, node_in_tree, property_in_tree, tree_elements}
use Rattle.bi_c.specs.TreeRegions.{HaveNodeBytes}
use Rattle.bi_c.proofs.FitFiles.{means_within}
use Rattle.bi_c.proofs.TreeRegions.{all_node_bytes}

-- The elements of nodes are added one after the other.

-- The elements of a node and of the nodes after it.
pub elements_first : (file : List ℕ) (above : ℕ) (first : Sibling FileNode) →
    tree_elements file above (node first.name first.own first.children first.later)
    ≡ tree_elements file above (alone first) ++ tree_elements file above first.later
elements_first file above first =
    let own = map (property_in_tree file (above + 1)) first.own.properties in
    let below = tree_elements file (above + 1) first.children in
    let later = tree_elements file above first.later in
    ap (λ (l : List TreeElement). node_in_tree above first.own first.name ∷ l)
    (sym (append_assoc own below later) ∙ ap (λ (l : List TreeElement). (own ++ l) ++ later) (sym (append-nil below)))

-- The elements of a node were added, those of its properties, and then those of the nodes below it.
pub node_elements : (file : List ℕ) (above : ℕ) (first : Sibling FileNode) (old one two three : List TreeElement) →
    one ≡ old ++ node_in_tree above first.own first.name ∷ [] →
    two ≡ one ++ map (property_in_tree file (above + 1)) first.own.properties →
    three ≡ two ++ tree_elements file (above + 1) first.children →
    three ≡ old ++ tree_elements file above (alone first)
node_elements file above first old one two three is_one is_two is_three =
    let here = node_in_tree above first.own first.name in
    let own = map (property_in_tree file (above + 1)) first.own.properties in
    let below = tree_elements file (above + 1) first.children in
    is_three
    ∙ ap (λ l. l ++ below) (is_two ∙ ap (λ l. l ++ own) is_one ∙ append_assoc old (here ∷ []) own)
    ∙ append_assoc old (here ∷ own) below
    ∙ ap (λ (l : List TreeElement). old ++ (here ∷ (own ++ l))) (sym (append-nil below))

module _ (limit depth : ℕ) (file : List ℕ) (limits : Limits) (content : FitModel) (same : limits ≡ bounds limit depth)
    (read : IsReadFit limits file content) where
  -- The nodes that were read have their bytes in the file,
  pub read_bytes : HaveNodeBytes file (alone (root_node (root_of content.blob)))
  read_bytes =
      subst (λ (root : Root FileNode). HaveNodeBytes file (as_nodes root)) read.same_root
      (all_node_bytes file content.blob.cpu content.blob.reservations read.means.is_file.root read.means.is_file.blob)

  -- there are few levels of them,
  pub few_levels : IsInRange limit depth → levels (alone (root_node (root_of content.blob))) < 2 ^ 32
  few_levels in_range =
      subst (λ (root : Root FileNode). levels (as_nodes root) < 2 ^ 32) read.same_root
      (omega (arith, read.means.within.shallow, ap (λ (l : Limits). l.depth) same, in_range.3))

  -- and their elements are those of the file.
  pub are_tree_elements : (elements : List TreeElement) → IsInRange limit depth →
      elements ≡ tree_elements file 0 (alone (root_node (root_of content.blob))) → AreTreeElements limit depth file elements 0
  are_tree_elements elements in_range are = record {
    limits = in_range;
    tree = tree_of content;
    means = means_within limit depth file limits content same read;
    are_elements = are ∙ ap (λ (root : Root FileNode). tree_elements file 0 (as_nodes root)) (sym read.same_root);
    have_bytes = all_node_bytes file content.blob.cpu content.blob.reservations read.means.is_file.root read.means.is_file.blob;
    no_value = refl;
  }
