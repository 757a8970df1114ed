use Rattle.std.proofs.Common.{length, sym, ap, ◌∙◌}
use Rattle.std.proofs.lemmas.List.{length-map}
use Rattle.bi_base.specs.Slices.{bytes_of}
use Rattle.bi_fit.proofs.CommonNumbers.{numbers_from, all_begun, numbers_by_both}
use Rattle.bi_fit.proofs.comparing.orders.common_numbers.Goals as goal

pub returns : goal.returns
returns c others distinct others_distinct are =
    let names = c.args.names.now in
    let found = c.args.found.now in
    let all = all_begun found (length names) c.loop-number.number-index c.loop-number.next
    c.loop-number.numbers.items c.loop-number-test.false
    c.loop-number.invariant.begun in
    numbers_by_both (bytes_of names) others found c.loop-number.numbers.items distinct others_distinct are
    (all ∙ ap (λ n. numbers_from n found) (sym (length-map names (λ slice. slice.now))))
