use Rattle.std.proofs.Common.{subst, sym}
use Rattle.std.proofs.lemmas.Grind.{flat_map-append}
use Rattle.bi_common.specs.LineTokens.{line_tokens}
use Rattle.bi_describe.proofs.describe.deep.put_part_with_inside.Goals as goal

pub returns-clause-put : goal.returns-clause-put
returns-clause-put g c trees held =
    subst (λ tokens. g.L.LinePen.puts c.args.pen.now tokens c.put_lines_of_part.new.pen)
    (sym (flat_map-append line_tokens _ _))
    (g.met.L.LinePen.puts_in_turn _ _ _ _ _ c.put_part_unless_opened.ensures (c.put_lines_of_part.ensures.put trees held))
