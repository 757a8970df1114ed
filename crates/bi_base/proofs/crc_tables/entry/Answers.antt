use Rattle.std.proofs.Common.{ap, ◌∙◌, slice_index, get_or, [], ℕ}
use Rattle.bi_base.specs.declared.crc_tables.TheConstants.{TABLES}
use Rattle.bi_base.proofs.CrcTableEntries.{crc_tables}
use Rattle.bi_base.proofs.crc_tables.entry.Goals as goal

pub returns : goal.returns
returns c =
    ap (λ (i : ℕ). slice_index (get_or TABLES c.args.table []) i) c.from.ensures
    ∙ crc_tables.entries c.args.table c.args.index c.requires c.ranges.index.fits
