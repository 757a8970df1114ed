use Rattle.std.proofs.Common.{[], subst, sym}
use Rattle.bi_legacy.specs.Meaning.{image_of}
use Rattle.bi_describe.specs.ReducedMeanings.{fields_alone}
use Rattle.bi_describe.proofs.KeptComparisons.{header_in_parts}
use Rattle.bi_describe.proofs.describe.kept.legacy.put_header.Goals as goal

pub returns : goal.returns
returns g c =
    let then = g.met.L.LinePen.puts_in_turn in
    subst (λ tokens. g.L.LinePen.puts c.args.pen.now tokens c.put_codes.new.pen)
    (sym (header_in_parts (fields_alone (image_of c.args.fields [])) c.args.time))
    (then _ _ _ _ _ c.put_lines.ensures (then _ _ _ _ _ c.put_time.ensures (then _ _ _ _ _ c.put_lines-2.ensures c.put_codes.ensures)))
