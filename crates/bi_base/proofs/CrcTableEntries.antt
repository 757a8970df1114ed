use Rattle.std.proofs.Common.{◌≡◌, ℕ, ◌<◌, List, [], map, length, get_or, refl, ap, ◌∙◌, arith}
use Rattle.std.specs.List.{range_with_len}
use Rattle.std.proofs.lemmas.List.FromFn.{length-map-range_with_len, get_or-map-range_with_len}
use Rattle.bi_base.specs.CrcTables.{AreCrcTables, after_zeros, table_entry}
use Rattle.bi_base.specs.declared.crc_tables.TheConstants.{TABLES}

-- Proves that the tables of the program are those of the definition.

-- The entries of table `k` in order.
abbrev table_of : ℕ → List ℕ
table_of k = map (table_entry k) (range_with_len 0 256)

-- The tables of the program are those of the definition, by computation.
tables_computed : TABLES ≡ map table_of (range_with_len 0 16)
unfolding after_zeros table_entry
tables_computed = refl

-- Table `k` of the program.
table_at : (k : ℕ) → k < 16 → get_or TABLES k [] ≡ table_of k
table_at k small =
    ap (λ (tables : List (List ℕ)). get_or tables k []) tables_computed ∙ get_or-map-range_with_len table_of 0 16 k k [] small (omega arith)

-- Every entry of the sixteen tables is the defined one.
pub crc_tables : AreCrcTables TABLES
crc_tables = record {
  sixteen = refl;
  sizes = λ k small. ap length (table_at k small) ∙ length-map-range_with_len (table_entry k) 0 256;
  entries = λ k i small within.
      ap (λ (table : List ℕ). get_or table i 0) (table_at k small)
      ∙ get_or-map-range_with_len (table_entry k) 0 256 i i 0 within (omega arith);
}
