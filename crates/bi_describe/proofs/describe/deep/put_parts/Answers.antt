use Rattle.std.proofs.Common.{◌+◌, Some, drop, map, sym, subst}
use Rattle.std.proofs.lemmas.Grind.{flat_map-append}
use Rattle.std.proofs.lemmas.List.{drop_all}
use Rattle.bi_common.specs.LineTokens.{line_tokens, tokens_of_lines}
use Rattle.bi_describe.specs.DeepDescriptions.{insides_shown, line_at, lines_with_inside}
use Rattle.bi_describe.specs.Descriptions.{part_line, part_lines}
use Rattle.bi_describe.specs.Ignoring.{OfPart}
use Rattle.bi_describe.specs.MadeInsides.{whole_devicetrees}
use Rattle.bi_describe.specs.MadeParts.{digest_of_part}
use Rattle.bi_describe.proofs.PartLists.{part_digests_from}
use Rattle.bi_describe.proofs.describe.deep.put_parts.Goals as goal

pub loop-index-preserved : goal.loop-index-preserved
loop-index-preserved g c =
    let puts = g.L.LinePen.puts in
    let parts = c.args.parts.now in
    let index = c.loop-index.index in
    let part = digest_of_part c.index-parts-index.result in
    let left = map digest_of_part (drop (index + 1) parts) in
    record {
      held = λ trees held. c.put_part_with_inside.ensures.same _ (c.loop-index.invariant.held trees held);
      written = λ trees held new rest.
          let shown = insides_shown trees in
          c.loop-index.invariant.written trees held new
          (subst (λ digests. puts c.loop-index.pen (tokens_of_lines (lines_with_inside shown (part_lines index digests))) new)
          (sym (part_digests_from parts index c.index-parts-index.result c.index-parts-index.is c.loop-index-test.true))
          (subst (λ tokens. puts c.loop-index.pen tokens new)
          (sym (flat_map-append line_tokens (line_at shown (Some (OfPart index)) (part_line index part))
          (lines_with_inside shown (part_lines (index + 1) left))))
          (g.met.L.LinePen.puts_in_turn _ _ _ _ _
          (c.put_part_with_inside.ensures.put (whole_devicetrees trees) (c.loop-index.invariant.held _ held)) rest)));
    }

pub returns-clause-put : goal.returns-clause-put
returns-clause-put g c trees held =
    let index = c.loop-index.index in
    c.loop-index.invariant.written trees held _
    (subst (λ left. g.L.LinePen.puts c.loop-index.pen
    (tokens_of_lines (lines_with_inside (insides_shown trees) (part_lines index (map digest_of_part left)))) c.loop-index.pen)
    (sym (drop_all index c.args.parts.now c.loop-index-test.false))
    (g.met.L.LinePen.puts_nothing _))
