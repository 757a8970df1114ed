use Rattle.std.proofs.Common.{ℕ, ◌<◌, ◌≤◌, ◌≡◌, true, List, length, Contains, arith, rules}
use Rattle.std.specs.Prelude.{ltb}
use Rattle.std.proofs.lemmas.Bool.{eqb-false, ltb-true}
use Rattle.bi_base.specs.Cells.{cell, u32_at}
use Rattle.bi_base.specs.Crc.{crc32, crc_after, low_bits}
use Rattle.bi_legacy.specs.File.{header}
use Rattle.bi_base.proofs.NulLaws.{nul_index}
use Rattle.bi_legacy.proofs.TableCells.{zero_within}
use Rattle.bi_legacy.specs.KnownFaults.{LegacyFilesHaveFaults, PartTablesHaveFaults, LegacyChecksHaveOrder}

-- Small files with a wrong header, wrong data or a wrong part table have known faults, and if two checks fail, the first gives the fault.

-- What is longer than a limit is not within it.
pub past : (end size : ℕ) → ltb size end ≡ true → ¬ (end ≤ size)
past end size after within = let less : size < end = ltb-true size end after in omega (arith, less, within)

pub legacy_files_have_faults : LegacyFilesHaveFaults
unfolding u32_at cell crc32 crc_after low_bits
legacy_files_have_faults = search (rules, past, eqb-false)

-- Cells, none of them zero.
no_zero : (numbers : List ℕ) → nul_index numbers ≡ length numbers → ¬ (Contains numbers 0)
no_zero numbers all has = omega (arith, all, zero_within numbers has)

pub part_tables_have_faults : PartTablesHaveFaults
unfolding u32_at cell header crc32 crc_after low_bits
part_tables_have_faults = search (rules, no_zero, past)

pub legacy_checks_have_order : LegacyChecksHaveOrder
unfolding u32_at cell header crc32 crc_after low_bits
legacy_checks_have_order = search (rules, past, eqb-false, no_zero)
