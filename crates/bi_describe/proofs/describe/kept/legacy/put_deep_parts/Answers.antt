use Rattle.std.proofs.Common.{map, subst, sym}
use Rattle.std.proofs.lemmas.List.{drop_all}
use Rattle.bi_common.specs.LineTokens.{tokens_of_lines}
use Rattle.bi_describe.specs.DeepDescriptions.{lines_with_inside}
use Rattle.bi_describe.specs.KeptImages.{numbered_part}
use Rattle.bi_describe.specs.MadeInsides.{shown_by}
use Rattle.bi_describe.specs.ReducedMeanings.{reduced_part_lines}
use Rattle.bi_describe.proofs.DeepLines.{part_before}
use Rattle.bi_describe.proofs.describe.kept.legacy.put_deep_parts.Goals as goal

pub loop-part-preserved : goal.loop-part-preserved
loop-part-preserved g c =
    let now = c.loop-part in
    let puts = g.L.LinePen.puts in
    record {
      held = λ trees held. c.put_part_with_inside.ensures.same trees (now.invariant.held trees held);
      written = λ trees held new rest. now.invariant.written trees held new
          (subst (λ tokens. puts now.pen tokens new)
          (sym (part_before (shown_by trees c.args.opened.now) c.args.parts.now now.part-index c.part-item.result c.part-item.is
          c.loop-part-test.true))
          (g.met.L.LinePen.puts_in_turn _ _ _ _ _ (c.put_part_with_inside.ensures.put trees (now.invariant.held trees held)) rest));
    }

pub returns : goal.returns
returns g c trees held =
    c.loop-part.invariant.written trees held _
    (subst (λ left. g.L.LinePen.puts c.loop-part.pen
    (tokens_of_lines (lines_with_inside (shown_by trees c.args.opened.now) (reduced_part_lines (map numbered_part left)))) c.loop-part.pen)
    (sym (drop_all c.loop-part.part-index c.args.parts.now c.loop-part-test.false)) (g.met.L.LinePen.puts_nothing _))
