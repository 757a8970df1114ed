use Rattle.std.proofs.Common.{refl}
use Rattle.bi_edit.proofs.known_edits.order_is_known.Goals as goal

pub returns : goal.returns
returns c = record { order = record { order = λ value payload. refl } }
