use Rattle.std.proofs.Common.{◌≡◌, take}
use Rattle.bi_base.specs.Crc.{crc_after}
use Rattle.bi_base.proofs.crc_tables.after_rest.Given as goal

-- The register is that after the bytes before this one.
abbrev pub invariant-loop-byte : goal.invariant-loop-byte
invariant-loop-byte l = l.after ≡ crc_after l.fn.register (take l.byte-index l.bytes)
