use Rattle.std.proofs.Common.{sym, subst}
use Rattle.std.proofs.lemmas.List.{drop_all}
use Rattle.bi_common.specs.JsonTokens.{value_tokens}
use Rattle.bi_describe.specs.DeepJson.{deep_part_objects}
use Rattle.bi_describe.specs.MadeParts.{bytes_of_parts}
use Rattle.bi_describe.proofs.PartLists.{part_bytes_from}
use Rattle.bi_describe.proofs.describe.deep.put_part_objects.Goals as goal

pub loop-index-preserved : goal.loop-index-preserved
loop-index-preserved g c = λ trees held new rest.
    let puts = g.J.JsonPen.puts in
    let index = c.loop-index.index in
    c.loop-index.invariant trees held new
    (subst (λ parts. puts c.loop-index.json (value_tokens (deep_part_objects trees index parts)) new)
    (sym (part_bytes_from c.args.parts.now index c.index-parts-index.result c.index-parts-index.is c.loop-index-test.true))
    (g.met.J.JsonPen.puts_in_turn _ _ _ _ _
    (c.put_part_object.ensures trees held) rest))

pub returns : goal.returns
returns g c = λ trees held.
    let index = c.loop-index.index in
    c.loop-index.invariant trees held _
    (subst (λ left. g.J.JsonPen.puts c.loop-index.json (value_tokens (deep_part_objects trees index (bytes_of_parts left)))
    c.loop-index.json)
    (sym (drop_all index c.args.parts.now c.loop-index-test.false))
    (g.met.J.JsonPen.puts_nothing _))
