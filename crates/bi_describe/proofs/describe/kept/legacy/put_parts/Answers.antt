use Rattle.std.proofs.Common.{arith, map, subst}
use Rattle.std.proofs.lemmas.List.{take_all}
use Rattle.bi_common.specs.LineTokens.{tokens_of_lines}
use Rattle.bi_describe.specs.KeptImages.{numbered_part}
use Rattle.bi_describe.specs.ReducedMeanings.{reduced_part_lines}
use Rattle.bi_describe.proofs.describe.kept.legacy.put_parts.Goals as goal

pub returns : goal.returns
returns g c =
    subst (λ parts. g.L.LinePen.puts c.args.pen.now (tokens_of_lines (reduced_part_lines (map numbered_part parts))) c.loop-part.pen)
    (take_all c.loop-part.part-index c.args.parts.now (omega arith)) c.loop-part.invariant
