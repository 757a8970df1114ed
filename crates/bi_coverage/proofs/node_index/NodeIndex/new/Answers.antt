use Rattle.std.proofs.Common.{◌≡◌, ◌<◌, ◌≤◌, ℕ, List, drop, get_or, length, map, sym, ap, subst, ◌∙◌, arith}
use Rattle.std.specs.List.{AllByRecursion}
use Rattle.std.proofs.lemmas.List.{length-map}
use Rattle.bi_fdt.specs.Content.{root_of}
use Rattle.bi_fdt.specs.Views.{node_of}
use Rattle.bi_fdt.specs.declared.node.NodeRef.{NodeRef}
use Rattle.bi_coverage.specs.ChildNumbers.{HasNumbersFrom}
use Rattle.bi_coverage.specs.Coverage.{names_end}
use Rattle.bi_coverage.specs.NodeIndices.{HasTokenIn}
use Rattle.bi_coverage.proofs.GrownIndices.{HasTokens, tokens_next, grown_next, fewer_next, grown_whole}
use Rattle.bi_coverage.proofs.node_index.NodeIndex.new.Goals as goal
use Rattle.bi_coverage.proofs.node_index.NodeIndex.new.Goals.{After-index-node}

-- The node that is read is the next one.
is_read : (c : After-index-node) → c.index-node.result.now ≡
    get_or c.next_node.nodes.items (length c.next_node.children.items) c.index-node.result.now
is_read c =
    let count : c.len-in-next_node-2.result ≡ length c.next_node.children.items = omega arith in
    c.index-node.ensures ∙ ap (λ index. get_or c.next_node.nodes.items index c.index-node.result.now) count

-- It is there.
is_there : (c : After-index-node) → length c.next_node.children.items < length c.next_node.nodes.items
is_there c = omega arith

pub names_end-requires : goal.names_end-requires
names_end-requires c =
    let at = (goal.at.names_end-requires c).After-index-node in
    let blob = c.args.blob.now in
    let has : HasTokens blob.file (node_of c.index-node.result.now) =
    tokens_next blob.file (root_of blob) c.next_node.nodes.items c.next_node.children.items c.next_node.ends.items c.next_node.invariant
    (is_there at) c.index-node.result.now (is_read at) in
    subst (λ file. AllByRecursion (HasTokenIn file) (node_of c.index-node.result.now).own.properties) (sym c.file.ensures) has.0

pub next_node-smaller : goal.next_node-smaller
next_node-smaller c =
    let at = (goal.at.next_node-smaller c).After-index-node in
    let blob = c.args.blob.now in
    fewer_next blob.file (root_of blob) c.next_node.nodes.items c.next_node.children.items c.next_node.ends.items c.next_node.invariant
    (is_there at) c.index-node.result.now (is_read at) c.add_children.new.nodes.items c.push-in-next_node.new.self.items
    c.in_ok-number_names.field-0 c.in_ok-add_children.ensures c.in_ok-push-2.ensures.items

pub next_node-preserved : goal.next_node-preserved
next_node-preserved c =
    let at = (goal.at.next_node-preserved c).After-index-node in
    let blob = c.args.blob.now in
    let begin : c.len-begin.result ≡ length c.next_node.nodes.items = omega arith in
    let has : HasNumbersFrom (length c.next_node.nodes.items)
    (drop (length c.next_node.nodes.items) (map node_of c.add_children.new.nodes.items)) c.in_ok-number_names.field-0 =
    subst (λ (n : ℕ). HasNumbersFrom n (drop n (map node_of c.add_children.new.nodes.items)) c.in_ok-number_names.field-0) begin
    (subst (λ (items : List NodeRef). HasNumbersFrom c.len-begin.result (drop c.len-begin.result (map node_of items))
    c.in_ok-number_names.field-0)
    c.deref.ensures.value c.in_ok-number_names.ensures) in
    grown_next blob.file (root_of blob) c.next_node.nodes.items c.next_node.children.items c.next_node.ends.items c.next_node.invariant
    (is_there at) c.index-node.result.now (is_read at) c.add_children.new.nodes.items c.in_ok-number_names.field-0
    c.push-in-next_node.new.self.items c.names_end.result c.push-in-next_node-2.new.self.items
    c.in_ok-add_children.ensures has c.in_ok-push-2.ensures.items
    (c.names_end.ensures ∙ ap (λ file. names_end file (node_of c.index-node.result.now).own) c.file.ensures)
    c.in_ok-push-3.ensures.items

pub invariant_of-result : goal.invariant_of-result
invariant_of-result c =
    let whole : length (map node_of c.next_node.nodes.items) ≤ length c.next_node.children.items =
    let long : length (map node_of c.next_node.nodes.items) ≡ length c.next_node.nodes.items = simp length-map in omega (arith, long) in
    record {
      is_index = grown_whole c.args.blob.now.file (root_of c.args.blob.now) (map node_of c.next_node.nodes.items)
          c.next_node.children.items c.next_node.ends.items whole c.next_node.invariant;
      is_tree = c.requires.is_tree;
    }
