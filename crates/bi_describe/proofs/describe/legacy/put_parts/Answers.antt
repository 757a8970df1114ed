use Rattle.std.proofs.Common.{[], map, sym, subst}
use Rattle.std.proofs.lemmas.List.{drop_all}
use Rattle.bi_common.specs.LineTokens.{tokens_of_lines}
use Rattle.bi_describe.specs.Descriptions.{part_lines}
use Rattle.bi_describe.specs.MadeParts.{digest_of_part}
use Rattle.bi_describe.proofs.PartLists.{part_digests_from}
use Rattle.bi_describe.proofs.describe.legacy.put_parts.Goals as goal

pub loop-index-preserved : goal.loop-index-preserved
loop-index-preserved g c = λ new rest.
    let index = c.loop-index.index in
    c.loop-index.invariant new
    (subst (λ digests. g.L.LinePen.puts c.loop-index.pen (tokens_of_lines (part_lines index digests)) new)
    (sym (part_digests_from c.args.parts.now index c.index-parts-index.result c.index-parts-index.is c.loop-index-test.true))
    (g.met.L.LinePen.puts_in_turn _ _ _ _ _ c.put_part.ensures rest))

pub returns : goal.returns
returns g c =
    let index = c.loop-index.index in
    c.loop-index.invariant _
    (subst (λ left. g.L.LinePen.puts c.loop-index.pen (tokens_of_lines (part_lines index (map digest_of_part left))) c.loop-index.pen)
    (sym (drop_all index c.args.parts.now c.loop-index-test.false))
    (g.met.L.LinePen.puts_nothing _))
