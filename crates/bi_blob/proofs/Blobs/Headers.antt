use Rattle.std.proofs.Common.{◌≡◌, ℕ, ◌+◌, ◌≤◌, if◌then◌else◌, List, length, ap, rules}
use Rattle.std.specs.Prelude.{◌==◌}
use Rattle.bi_base.specs.Cells.{AreBytes}
use Rattle.bi_base.specs.Limits.{Limits}
use Rattle.bi_blob.specs.Blob.{Header, version, version_without_structure_size, header_length, tree_blocks}
use Rattle.bi_blob.specs.Blob.{off_dt_struct, size_dt_struct, structure_end, IsReadable}
use Rattle.bi_blob.specs.BlobFaults.{HasNoHeaderFault}

-- The checks of a header and the conditions of a header are the same.

-- The header of any version has the magic number.
header_length-magic : (file : List ℕ) → 4 ≤ header_length file
header_length-magic file = search rules

-- The header of version 17 has ten cells.
pub header_length-17 : (file : List ℕ) → version file ≡ 17 → header_length file ≡ 40
header_length-17 file is_17 = ap (λ n. if n == version_without_structure_size then 36 else 40) is_17

-- The structure block of version 17 ends after its size.
pub structure_end-17 : (file : List ℕ) → version file ≡ 17 → structure_end file ≡ off_dt_struct file + size_dt_struct file
structure_end-17 file is_17 = search rules

-- If its checks pass, a header meets the conditions.
pub HasNoHeaderFault-Header : (bounds : Limits) (file : List ℕ) → HasNoHeaderFault bounds file → Header file
HasNoHeaderFault-Header bounds file fine = search rules

-- A header that meets the conditions passes its checks, in a file that is no longer than the limit.
pub Header-HasNoHeaderFault : (bounds : Limits) (file : List ℕ) → length file ≤ bounds.file → Header file → HasNoHeaderFault bounds file
Header-HasNoHeaderFault bounds file short header = search (rules, header_length-magic)

-- The blocks of a tree are within the file, where the header is one of a blob.
pub Header-IsReadable : (file : List ℕ) → AreBytes file → Header file → IsReadable (tree_blocks file)
Header-IsReadable file bytes header = search rules
