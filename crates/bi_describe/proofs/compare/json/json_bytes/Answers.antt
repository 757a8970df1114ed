use Rattle.std.proofs.Common.{[], ◌∷◌, rules}
use Rattle.bi_base.specs.MemoryPens.{MemoryPuts, memory_puts_in_turn}
use Rattle.bi_common.proofs.WrittenTokens.{value_put}
use Rattle.bi_describe.specs.ComparisonJson.{comparison_object}
use Rattle.bi_describe.specs.MadeLines.{made_lines}
use Rattle.bi_describe.proofs.compare.json.json_bytes.Goals as goal

pub returns-in-Ok : goal.returns-in-Ok
returns-in-Ok c =
    let put = value_put MemoryPuts _ _ c.new-pen.result _ _ (comparison_object c.args.same (made_lines c.args.lines.now))
    c.new.ensures.no_comma c.new.ensures.same_pen (search rules) c.put_comparison.ensures.1 in
    rw (c.new-pen.ensures, c.in-Ok.ensures.text) at (memory_puts_in_turn c.new-pen.result _ c.put.new.self _ (10 ∷ []) put c.put.ensures)
