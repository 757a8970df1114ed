use Rattle.std.proofs.Common.{◌≡◌, bit_xor}
use Rattle.std.specs.Int.{w128, from_le_bytes}
use Rattle.bi_base.specs.Crc.{crc_after}
use Rattle.bi_base.proofs.CrcTableLaws.{with_rest}
use Rattle.bi_base.proofs.crc_tables.after_group.Given as goal

-- The entries of the bytes before this one, with the register that the other bytes give.
abbrev pub invariant-loop-i : goal.invariant-loop-i
invariant-loop-i l =
    with_rest (bit_xor l.fn.register (from_le_bytes w128 l.fn.group)) l.i l.after ≡ crc_after l.fn.register l.fn.group
