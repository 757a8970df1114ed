use Rattle.std.proofs.Common.{rules}
use Rattle.bi_base.specs.MemoryPens.{MemoryPuts}
use Rattle.bi_common.specs.Json.{json_string}
use Rattle.bi_common.proofs.WrittenTokens.{value_put}
use Rattle.bi_show.proofs.ShownCells.{ascii_in_memory, string_ascii, text_made}
use Rattle.bi_show.proofs.show.cells.quoted_cell.Goals as goal

pub text_of-requires : goal.text_of-requires
text_of-requires c =
    let text = c.args.text.now in
    ascii_in_memory _ _ _ c.new-pen.ensures
    (value_put MemoryPuts _ _ _ _ _ (json_string text) c.new.ensures.no_comma c.new.ensures.same_pen (search rules) c.put_value.ensures.1)
    (string_ascii text)

pub returns : goal.returns
returns c =
    text_made c.text_of.result _ _ _ c.new-pen.ensures
    (value_put MemoryPuts _ _ _ _ _ (json_string c.args.text.now) c.new.ensures.no_comma c.new.ensures.same_pen (search rules)
    c.put_value.ensures.1)
    c.text_of.ensures
