use Rattle.std.proofs.Common.{◌≡◌, length, vec_len, arith, rules}
use Rattle.std.proofs.lemmas.List.{length-set}
use Rattle.bi_fdt.proofs.NameOrders.{all_ranked, number_in_order_within, rank_more}
use Rattle.bi_fdt.proofs.ranks.ranks_of_order.Goals as goal

pub index_mut-requires : goal.index_mut-requires
index_mut-requires c =
    number_in_order_within c.args.names.now c.args.order.now c.requires.permutation (vec_len c.loop-rank.ranks)
    (omega (arith, c.loop-rank.invariant.count, c.loop-rank.ranks.ok)) c.loop-rank.rank _ c.loop-rank-test.true

pub loop-rank-preserved : goal.loop-rank-preserved
loop-rank-preserved c = search (rules, length-set, rank_more)

pub returns : goal.returns
returns c =
    let last : c.loop-rank.rank ≡ length c.args.order.now =
    omega (arith, c.loop-rank-test.false, c.loop-rank.auto.rank-end) in
    all_ranked c.args.names.now c.args.order.now c.loop-rank.ranks.items c.loop-rank.rank c.requires.permutation
    c.loop-rank.invariant.count last c.loop-rank.invariant.ranked
