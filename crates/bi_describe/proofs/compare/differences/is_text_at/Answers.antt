use Rattle.std.proofs.Common.{◌∙◌, arith, length, refl}
use Rattle.std.proofs.lemmas.Option.{slice_get_read}
use Rattle.bi_describe.proofs.LineSets.{text_at_place}
use Rattle.bi_describe.proofs.compare.differences.is_text_at.Goals as goal

pub returns-in-Some : goal.returns-in-Some
returns-in-Some c =
    let found = c.in-Some.ensures.lookup in
    c.eq.ensures
    ∙ text_at_place c.args.lines.now c.args.index c.in-Some.line.now c.args.text.now
    (slice_get_read c.args.lines.now (length c.args.lines.now) c.args.index c.in-Some.line.now refl (omega (arith, found)) found.1)
