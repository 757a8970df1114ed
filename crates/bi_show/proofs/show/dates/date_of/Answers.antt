use Rattle.std.proofs.Common.{◌≡◌, ◌+◌, suc, ap, ◌∙◌, arith}
use Rattle.bi_show.specs.Dates.{year_length}
use Rattle.bi_show.proofs.DateFacts.{year_has_days}
use Rattle.bi_show.proofs.show.dates.date_of.Goals as goal

pub loop-left-preserved : goal.loop-left-preserved
loop-left-preserved c =
    let (years, is_year, taken, few) = c.loop-left.invariant in
    let some = year_has_days (1970 + years) in
    let first : c.year_length.result ≡ year_length (1970 + years) = c.year_length.ensures ∙ ap year_length is_year in
    let second : c.year_length-left.result ≡ year_length (1970 + years) = c.year_length-left.ensures ∙ ap year_length is_year in
    let test = c.loop-left-test.true in
    (suc years, omega (arith, is_year), omega (arith, taken, first, second, test), omega (arith, few, some, first, second, test))
