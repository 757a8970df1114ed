use Rattle.std.proofs.Common.{◌≡◌, ℕ, ◌+◌, ◌^◌, ◌<◌, ◌≤◌, List, ◌++◌, rules}
use Rattle.std.proofs.lemmas.Nat.{from_be_bytes-to_be_bytes_4}
use Rattle.bi_base.specs.Cells.{cell, u32_at}
use Rattle.bi_blob.specs.Blob.{magic, totalsize, off_dt_struct, off_dt_strings, off_mem_rsvmap, version, last_comp_version, boot_cpuid_phys}
use Rattle.bi_blob.specs.Blob.{size_dt_strings, size_dt_struct, blob_magic}
use Rattle.bi_blob.specs.Layout.{blob_header, length_before_padding}

-- A file that begins with the header of a text has the numbers of this header in its cells.

-- The numbers that a file's header has, where they are those of a text of this total length with blocks of these lengths.
pub record HasCells (file : List ℕ) (cpu total reserved structure strings : ℕ) : Type 0 where
  pub is_magic : magic file ≡ blob_magic
  pub is_total : totalsize file ≡ total
  pub is_off_struct : off_dt_struct file ≡ 40 + reserved
  pub is_off_strings : off_dt_strings file ≡ 40 + reserved + structure
  pub is_off_reserved : off_mem_rsvmap file ≡ 40
  pub is_version : version file ≡ 17
  pub is_compatible : last_comp_version file ≡ 16
  pub is_cpu : boot_cpuid_phys file ≡ cpu
  pub is_size_strings : size_dt_strings file ≡ strings
  pub is_size_struct : size_dt_struct file ≡ structure

-- What begins with the header of a text has its numbers, where they are cells.
pub has_cells : (cpu total reserved structure strings : ℕ) (trailing : List ℕ) → cpu < 2 ^ 32 →
    length_before_padding reserved structure strings ≤ total → total < 2 ^ 32 →
    HasCells (blob_header cpu total reserved structure strings ++ trailing) cpu total reserved structure strings
unfolding cell u32_at
has_cells cpu total reserved structure strings trailing cpu_fits within fits = search (rules, from_be_bytes-to_be_bytes_4)
