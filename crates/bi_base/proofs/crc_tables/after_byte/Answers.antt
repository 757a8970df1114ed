use Rattle.std.proofs.Common.{◌/◌, get_or, bit_xor, ap, ◌∙◌}
use Rattle.bi_base.specs.CrcTables.{table_entry}
use Rattle.bi_base.proofs.CrcTableLaws.{byte_by_table}
use Rattle.bi_base.proofs.crc_tables.after_byte.Goals as goal

pub returns : goal.returns
returns c =
    ap (bit_xor (c.args.register / 256))
    (c.entry.ensures ∙ ap (λ bytes. table_entry 0 (bit_xor (get_or bytes 0 0) c.args.byte)) c.to_le_bytes.ensures)
    ∙ byte_by_table c.args.register c.args.byte c.ranges.byte.fits
