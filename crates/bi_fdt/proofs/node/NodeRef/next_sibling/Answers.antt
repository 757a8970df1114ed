use Rattle.std.proofs.Common.{◌≡◌, ◌≤◌, length, drop, sym, ap, ◌∙◌, arith}
use Rattle.std.proofs.lemmas.List.{length-map, drop_all}
use Rattle.bi_blob.specs.Lookups.{node_at}
use Rattle.std.specs.Option.{option_map}
use Rattle.bi_fdt.specs.Views.{node_of}
use Rattle.bi_fdt.specs.declared.table.Entry.TheVariants as entry
use Rattle.bi_fdt.proofs.NodeEntries.{items_here}
use Rattle.bi_fdt.proofs.NodeViews.{nothing_later, no_property_later, other_later, next_later}
use Rattle.bi_fdt.proofs.node.NodeRef.next_sibling.Goals as goal

pub returns-in_err-entry-clause-sibling : goal.returns-in_err-entry-clause-sibling
returns-in_err-entry-clause-sibling c =
    let r = c.args.self in
    let past : length c.entries.result.now ≤ c.entry-node.result.after = c.in_err-entry.ensures.lookup.3 in
    let long : length r.blob.now.table ≡ length c.entries.result.now = sym (ap length c.entries.ensures.items) ∙ simp length-map in
    ap (option_map node_of) c.from_residual.ensures
    ∙ sym (ap (λ nodes. node_at nodes 0)
    (nothing_later r.blob.now.file r.blob.now.table r.index c.entry-node.result c.entry-node.ensures
    (drop_all c.entry-node.result.after r.blob.now.table (omega arith))))

pub returns-then-next-node-clause-sibling : goal.returns-then-next-node-clause-sibling
returns-then-next-node-clause-sibling c =
    let r = c.args.self in
    let at = ap (drop c.entry-node.result.after) (sym c.entries.ensures.items)
    ∙ items_here c.args.self.blob.now.file c.entries.result.now c.entry-node.result.after (entry.Node c.in-Node.next)
    (entry.Node c.in-Node.next) c.in_ok-entry.ensures.lookup.3.0 (sym (c.in_ok-entry.ensures.lookup.3.1 _) ∙ c.in-Node.is) in
    sym (ap (λ nodes. node_at nodes 0)
    (other_later r.blob.now.file r.blob.now.table r.index c.entry-node.result c.entry-node.ensures _ _ _ _ at c.if-next-node.true))

pub invariant_of-result : goal.invariant_of-result
invariant_of-result c =
    let r = c.args.self in
    let at = ap (drop c.entry-node.result.after) (sym c.entries.ensures.items)
    ∙ items_here c.args.self.blob.now.file c.entries.result.now c.entry-node.result.after (entry.Node c.in-Node.next)
    (entry.Node c.in-Node.next) c.in_ok-entry.ensures.lookup.3.0 (sym (c.in_ok-entry.ensures.lookup.3.1 _) ∙ c.in-Node.is) in
    record {
      is_node = (next_later r.blob.now.file r.blob.now.table r.index c.entry-node.result c.entry-node.ensures _ _ _ _ at
          c.if-next-node.false).0;
      small = r.small;
    }

pub returns-else-next-node-clause-sibling : goal.returns-else-next-node-clause-sibling
returns-else-next-node-clause-sibling c =
    let r = c.args.self in
    let at = ap (drop c.entry-node.result.after) (sym c.entries.ensures.items)
    ∙ items_here c.args.self.blob.now.file c.entries.result.now c.entry-node.result.after (entry.Node c.in-Node.next)
    (entry.Node c.in-Node.next) c.in_ok-entry.ensures.lookup.3.0 (sym (c.in_ok-entry.ensures.lookup.3.1 _) ∙ c.in-Node.is) in
    (next_later r.blob.now.file r.blob.now.table r.index c.entry-node.result c.entry-node.ensures _ _ _ _ at c.if-next-node.false).1

pub returns-in-Property-clause-sibling : goal.returns-in-Property-clause-sibling
returns-in-Property-clause-sibling c =
    let r = c.args.self in
    let property = entry.Property c.in-Property.field-0 c.in-Property.field-1 in
    let at = ap (drop c.entry-node.result.after) (sym c.entries.ensures.items)
    ∙ items_here c.args.self.blob.now.file c.entries.result.now c.entry-node.result.after property property
    c.in_ok-entry.ensures.lookup.3.0 (sym (c.in_ok-entry.ensures.lookup.3.1 _) ∙ c.in-Property.is) in
    absurd (no_property_later r.blob.now.file r.blob.now.table r.index c.entry-node.result c.entry-node.ensures _ _ at)
