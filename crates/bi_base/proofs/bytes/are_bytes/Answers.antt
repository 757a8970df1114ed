use Rattle.std.proofs.Common.{arith}
use Rattle.bi_base.proofs.bytes.are_bytes.Goals as goal

pub returns : goal.returns
returns c = record { each = λ i. omega (arith, c.type_inv.bytes i) }
