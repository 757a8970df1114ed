use Rattle.bi_show.proofs.ShownCells.{ascii_in_memory, field_ascii}
use Rattle.bi_show.proofs.show.cells.field_cell.Goals as goal

pub text_of-requires : goal.text_of-requires
text_of-requires c = ascii_in_memory _ _ _ c.new-pen.ensures c.put_field.ensures (field_ascii _ c.requires)
