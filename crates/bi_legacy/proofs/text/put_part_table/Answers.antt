use Rattle.std.proofs.Common.{arith}
use Rattle.bi_legacy.proofs.TextPieces.{slice_within}
use Rattle.bi_legacy.proofs.text.put_part_table.Goals as goal

pub overflow_cast-part : goal.overflow_cast-part
overflow_cast-part g c = grind (arith, slice_within)
