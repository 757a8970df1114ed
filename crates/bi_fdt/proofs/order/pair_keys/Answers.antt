use Rattle.std.proofs.Common.{◌≡◌, length, take, ap, ◌∙◌, arith}
use Rattle.std.proofs.Math.Seq.{take-length}
use Rattle.bi_fdt.specs.Order.{with_indices_from}
use Rattle.bi_fdt.proofs.PropertyOrders.{indices_more}
use Rattle.bi_fdt.proofs.order.pair_keys.Goals as goal

pub loop-index-preserved : goal.loop-index-preserved
loop-index-preserved c =
    indices_more c.args.keys.now c.loop-index.index _ c.loop-index.pairs.items c.push.new.self.items c.loop-index-test.true
    c.loop-index.invariant c.in_ok-push.ensures.items

pub returns : goal.returns
returns c =
    let last : c.loop-index.index ≡ length c.args.keys.now = omega (arith, c.loop-index-test.false, c.loop-index.auto.index-end) in
    c.loop-index.invariant ∙ ap (λ k. with_indices_from 0 (take k c.args.keys.now)) last
    ∙ ap (with_indices_from 0) (take-length c.args.keys.now)
