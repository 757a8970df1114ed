use Rattle.std.proofs.Common.{◌≡◌, ◌+◌, None, sym, ap, ◌∙◌, arith, rules}
use Rattle.std.specs.Option.{option_map}
use Rattle.bi_blob.specs.Lookups.{node_at}
use Rattle.bi_fdt.specs.Views.{node_of}
use Rattle.bi_fdt.proofs.NodeViews.{next_child_at, no_child_past}
use Rattle.bi_fdt.proofs.node.NodeRef.child_at.Goals as goal

pub returns-in_err-child-2 : goal.returns-in_err-child-2
returns-in_err-child-2 c =
    let children = (node_of c.args.self).children in
    let gone : node_at children (c.loop.counter + 1)
    ≡ None = sym (next_child_at children c.loop.counter (node_of c.loop.child) c.loop.invariant) ∙ sym c.in_err-child-2.ensures.sibling in
    ap (option_map node_of) c.from_residual-in_err-child-2.ensures
    ∙ sym (no_child_past children (c.loop.counter + 1) c.args.index gone (omega arith))

pub loop-preserved : goal.loop-preserved
loop-preserved c = search (rules, next_child_at)
