use Rattle.std.proofs.Common.{map, subst}
use Rattle.bi_common.specs.LineTokens.{tokens_of_lines}
use Rattle.bi_describe.specs.DeepDescriptions.{lines_with_inside}
use Rattle.bi_describe.specs.KeptImages.{numbered_part}
use Rattle.bi_describe.specs.MadeInsides.{shown_by}
use Rattle.bi_describe.specs.ReducedMeanings.{reduced_part_lines}
use Rattle.bi_describe.proofs.DeepLines.{kept_legacy_lines}
use Rattle.bi_describe.proofs.describe.kept.legacy.KeptLegacy.put_deep_lines.Goals as goal

pub returns : goal.returns
returns g c image trees is held =
    let shown = shown_by trees c.args.opened.now in
    subst (λ tokens. g.L.LinePen.puts c.args.pen.now tokens c.put_deep_parts.new.pen) (kept_legacy_lines shown image c.args.self.now is)
    (g.met.L.LinePen.puts_in_turn _ _ _ _ _ c.put_header.ensures
    (subst (λ parts. g.L.LinePen.puts c.put_header.new.pen
    (tokens_of_lines (lines_with_inside shown (reduced_part_lines (map numbered_part parts)))) c.put_deep_parts.new.pen)
    c.deref.ensures.value (c.put_deep_parts.ensures trees held)))
