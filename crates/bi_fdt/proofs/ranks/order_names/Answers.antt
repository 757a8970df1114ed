use Rattle.std.proofs.Common.{◌≡◌, length, take, ap, ◌∙◌, arith}
use Rattle.std.proofs.Math.Seq.{take-length}
use Rattle.bi_fdt.specs.Ranks.{with_numbers_from}
use Rattle.bi_fdt.proofs.NameOrders.{order_more, order_sorted}
use Rattle.bi_fdt.proofs.ranks.order_names.Goals as goal

pub loop-number-preserved : goal.loop-number-preserved
loop-number-preserved c =
    let more = order_more c.args.names.now c.loop-number.number _ c.name_prefix.result c.loop-number.order.items c.push.new.self.items
    c.loop-number-test.true c.loop-number.invariant.numbered c.loop-number.invariant.prefixes c.name_prefix.ensures c.are_bytes.ensures
    c.in_ok-push.ensures.items in
    record { numbered = more.0; prefixes = more.1 }

pub returns : goal.returns
returns c =
    let last : c.loop-number.number ≡ length c.args.names.now =
    omega (arith, c.loop-number-test.false, c.loop-number.auto.number-end) in
    let whole = c.loop-number.invariant.numbered ∙ ap (λ k. with_numbers_from 0 (take k c.args.names.now)) last
    ∙ ap (with_numbers_from 0) (take-length c.args.names.now) in
    order_sorted c.args.names.now c.loop-number.order.items c.sort.new.self.items c.requires whole c.loop-number.invariant.prefixes
    c.in_ok-sort.ensures.permutation c.in_ok-sort.ensures.sorted
