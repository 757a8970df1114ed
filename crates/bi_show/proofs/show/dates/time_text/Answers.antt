use Rattle.std.proofs.Common.{◌/◌, arith}
use Rattle.bi_show.proofs.DateFacts.{date_is_short}
use Rattle.bi_show.proofs.show.dates.time_text.Goals as goal

pub add_date-requires-clause-year : goal.add_date-requires-clause-year
add_date-requires-clause-year c =
    (date_is_short (c.args.seconds / 86400) c.date_of.result c.date_of.ensures (omega arith)).0

pub add_date-requires-clause-month : goal.add_date-requires-clause-month
add_date-requires-clause-month c =
    (date_is_short (c.args.seconds / 86400) c.date_of.result c.date_of.ensures (omega arith)).1

pub add_date-requires-clause-day : goal.add_date-requires-clause-day
add_date-requires-clause-day c =
    (date_is_short (c.args.seconds / 86400) c.date_of.result c.date_of.ensures (omega arith)).2
