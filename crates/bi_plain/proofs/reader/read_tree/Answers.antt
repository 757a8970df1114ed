use Rattle.std.proofs.Common.{◌≡◌, ◌++◌, length, sym, ap, subst, ◌∙◌}
use Rattle.std.proofs.lemmas.Slice.Zip.{AllZip-long}
use Rattle.bi_base.specs.Slices.{bytes_of}
use Rattle.bi_blob.specs.Tree.{AreDistinct}
use Rattle.bi_fdt.specs.Numbers.{IsNumbered, names_of_table}
use Rattle.bi_fdt.specs.Order.{IsNumberOrder, IsPropertyOrder}
use Rattle.bi_fit.specs.NormalNodes.{nodes_by_name, properties_by_name}
use Rattle.bi_tree.specs.TreeNodes.{below}
use Rattle.bi_tree.specs.Trees.{IsNumberedTree}
use Rattle.bi_plain.proofs.reader.read_tree.Goals as goal
use Rattle.bi_plain.proofs.reader.read_tree.Goals.{In_ok-order}

pub new-requires : goal.new-requires
new-requires c =
    let table = c.args.blob.now.table in
    ap length c.deref.ensures.value
    ∙ AllZip-long (IsNumbered (names_of_table table)) table c.in_ok-name_numbers.field-0.items c.in_ok-name_numbers.ensures

-- The order is that of the numbers of names.
ordered : (c : In_ok-order) → IsNumberOrder (names_of_table c.args.blob.now.table) c.args.blob.now.table c.in_ok-order.order
ordered c = record {
  keys = c.in_ok-name_numbers.field-0.items;
  numbered = c.in_ok-name_numbers.ensures;
  ordered = subst (λ keys. IsPropertyOrder c.args.blob.now.table keys c.in_ok-order.order) c.deref.ensures.value c.in_ok-order.ensures;
}

pub read_node-requires-clause-order : goal.read_node-requires-clause-order
read_node-requires-clause-order c =
    let at = goal.at.read_node-requires-clause-order c in (
      names_of_table c.args.blob.now.table,
      subst (λ table. IsNumberOrder (names_of_table c.args.blob.now.table) table c.in_ok-order.order) (sym c.root.ensures.same_table)
          (ordered at.In_ok-order),
    )

pub new-requires-2 : goal.new-requires-2
new-requires-2 c =
    let at = goal.at.new-requires-2 c in
    let names = names_of_table c.args.blob.now.table in
    let same : bytes_of c.extend_from_slice.new.self.items ≡ names =
    ap bytes_of (c.in_ok-extend_from_slice.ensures.items ∙ ap (λ l. l ++ c.names-2.result.now) c.in_ok-names.ensures.items)
    ∙ c.names-2.ensures.names in
    let read = c.in_ok-root.ensures names
    (subst (λ table. IsNumberOrder names table c.in_ok-order.order) (sym c.root.ensures.same_table) (ordered at.In_ok-order)) in
    record {
      distinct = subst AreDistinct (sym same) c.names.ensures.distinct;
      numbered = subst (λ names. IsNumberedTree names (below c.in_ok-root.root)) (sym same) (read.own.numbered, read.numbered, tt);
    }

pub returns : goal.returns
returns c =
    let at = goal.at.returns c in
    let names = names_of_table c.args.blob.now.table in
    let read = c.in_ok-root.ensures names
    (subst (λ table. IsNumberOrder names table c.in_ok-order.order) (sym c.root.ensures.same_table) (ordered at.In_ok-order)) in
    c.new-2.ensures
    ∙ (λ i. record { own = read.own.same i; children = read.same i })
    ∙ ap (λ s. record { own = properties_by_name s.own; children = nodes_by_name s.children }) c.root.ensures.root
