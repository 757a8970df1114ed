use Rattle.bi_fit.proofs.ChangedNames.{rank_numbers}
use Rattle.bi_fit.proofs.name_order.ranks_at.Goals as goal

pub returns : goal.returns
returns c names sorted zipped are =
    rw (c.rank_at.ensures, c.rank_at-2.ensures, c.rank_at-3.ensures, c.rank_at-4.ensures, c.rank_at-5.ensures, c.rank_at-6.ensures)
    (rank_numbers names sorted c.args.ranks.now zipped c.args.numbers are)
