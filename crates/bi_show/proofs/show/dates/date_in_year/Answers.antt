use Rattle.std.proofs.Common.{◌-◌, arith}
use Rattle.bi_show.proofs.DateFacts.{date_at}
use Rattle.bi_show.proofs.show.dates.date_in_year.Goals as goal

pub returns-then-left-length : goal.returns-then-left-length
returns-then-left-length c =
    let known = c.loop-length.invariant in
    date_at _ (c.args.year - 1970) _ _ c.month_lengths-length-items.result known.are_lengths (omega arith) known.is_month (omega arith)
    (omega arith) (omega arith) (omega (arith, known.taken))
