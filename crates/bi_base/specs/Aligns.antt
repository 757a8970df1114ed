use Rattle.std.specs.Prelude.{ℕ}
use Rattle.bi_base.specs.declared.align.Align.{Align}

-- The number of bytes of an alignment. Its field `is_alignment` states what it may be.
abbrev pub align_bytes : Align → ℕ
align_bytes align = align.bytes
