use Rattle.std.proofs.Common.{◌≡◌, ℕ, ◌+◌, ◌<◌, ◌^◌, List, ◌++◌, length, take, slice_index, arith, refl, ap, ◌∙◌, rules}
use Rattle.std.proofs.lemmas.List.{take_at, drop_at, length-append}
use Rattle.bi_base.specs.Cells.{cell, u32_at, slice}
use Rattle.bi_base.specs.Crc.{crc32}
use Rattle.bi_base.proofs.FileSlices.{cell_read}
use Rattle.bi_legacy.specs.Faults.{body_of, header_without_checksum}
use Rattle.bi_legacy.specs.File.{header_with, header, IsLegacyFile}
use Rattle.bi_legacy.specs.Meaning.{LegacyImage}

-- The numbers, codes and bytes that are read at the offsets of the fields of a legacy image are those of the image.

-- A CRC-32 fits 32 bits.
crc32_fits : (bytes : List ℕ) → crc32 bytes < 2 ^ 32
unfolding crc32
crc32_fits bytes = omega arith

-- The magic of a legacy image.
pub magic_read : (file : List ℕ) (image : LegacyImage) (is : IsLegacyFile file image) → u32_at file 0 ≡ 0x27051956
unfolding header cell
magic_read file image is = cell_read file 0 0x27051956 (omega arith) (ap (λ bytes. slice bytes 0 4) is.file_is)

-- The header checksum.
pub header_sum_read : (file : List ℕ) (image : LegacyImage) (is : IsLegacyFile file image) →
    u32_at file 4 ≡ crc32 (header_with 0 image is.field is.body)
unfolding header cell
header_sum_read file image is = cell_read file 4 _ (crc32_fits _) (ap (λ bytes. slice bytes 4 4) is.file_is)

-- The time.
pub time_read : (file : List ℕ) (image : LegacyImage) (is : IsLegacyFile file image) → u32_at file 8 ≡ image.time
unfolding header cell
time_read file image is = cell_read file 8 image.time is.ranges.time (ap (λ bytes. slice bytes 8 4) is.file_is)

-- The data's size.
pub size_read : (file : List ℕ) (image : LegacyImage) (is : IsLegacyFile file image) → u32_at file 12 ≡ length is.body
unfolding header cell
size_read file image is = cell_read file 12 (length is.body) is.size (ap (λ bytes. slice bytes 12 4) is.file_is)

-- The load address.
pub load_read : (file : List ℕ) (image : LegacyImage) (is : IsLegacyFile file image) → u32_at file 16 ≡ image.load
unfolding header cell
load_read file image is = cell_read file 16 image.load is.ranges.load (ap (λ bytes. slice bytes 16 4) is.file_is)

-- The entry point.
pub entry_read : (file : List ℕ) (image : LegacyImage) (is : IsLegacyFile file image) → u32_at file 20 ≡ image.entry
unfolding header cell
entry_read file image is = cell_read file 20 image.entry is.ranges.entry (ap (λ bytes. slice bytes 20 4) is.file_is)

-- The data checksum.
pub data_sum_read : (file : List ℕ) (image : LegacyImage) (is : IsLegacyFile file image) → u32_at file 24 ≡ crc32 is.body
unfolding header cell
data_sum_read file image is = cell_read file 24 _ (crc32_fits is.body) (ap (λ bytes. slice bytes 24 4) is.file_is)

-- The operating system's code.
pub os_read : (file : List ℕ) (image : LegacyImage) (is : IsLegacyFile file image) → slice_index file 28 ≡ image.os
unfolding header cell
os_read file image is = ap (λ bytes. slice_index bytes 28) is.file_is

-- The architecture's code.
pub arch_read : (file : List ℕ) (image : LegacyImage) (is : IsLegacyFile file image) → slice_index file 29 ≡ image.arch
unfolding header cell
arch_read file image is = ap (λ bytes. slice_index bytes 29) is.file_is

-- The type's code.
pub type_read : (file : List ℕ) (image : LegacyImage) (is : IsLegacyFile file image) → slice_index file 30 ≡ image.image_type
unfolding header cell
type_read file image is = ap (λ bytes. slice_index bytes 30) is.file_is

-- The compression's code.
pub compression_read : (file : List ℕ) (image : LegacyImage) (is : IsLegacyFile file image) → slice_index file 31 ≡ image.compression
unfolding header cell
compression_read file image is = ap (λ bytes. slice_index bytes 31) is.file_is

-- The name's 32 bytes.
pub field_read : (file : List ℕ) (image : LegacyImage) (is : IsLegacyFile file image) → slice file 32 32 ≡ is.field
unfolding header cell
field_read file image is =
    ap (λ bytes. slice bytes 32 32) is.file_is ∙ take_at is.field (is.body ++ is.rest) 32 is.name.whole

-- The data.
pub body_read : (file : List ℕ) (image : LegacyImage) (is : IsLegacyFile file image) → body_of file ≡ is.body
unfolding header cell
body_read file image is =
    ap (slice file 64) (size_read file image is)
    ∙ ap (λ bytes. slice bytes 64 (length is.body)) is.file_is
    ∙ ap (take (length is.body)) (drop_at is.field (is.body ++ is.rest) 32 is.name.whole)
    ∙ take_at is.body is.rest (length is.body) refl

-- The header with zeros instead of its checksum.
pub header_without_checksum_read : (file : List ℕ) (image : LegacyImage) (is : IsLegacyFile file image) →
    header_without_checksum file ≡ header_with 0 image is.field is.body
unfolding header cell
header_without_checksum_read file image is = search (rules, take_at is.field (is.body ++ is.rest) 32 is.name.whole)

-- A header has 64 bytes.
pub length-header : (image : LegacyImage) (field body : List ℕ) → length field ≡ 32 → length (header image field body) ≡ 64
unfolding header cell
length-header image field body whole = omega (arith, whole)

-- The file is as long as its header, its data and the rest.
pub length-file : (file : List ℕ) (image : LegacyImage) (is : IsLegacyFile file image) → length file ≡ 64 + length is.body + length is.rest
length-file file image is = search (rules, length-append, length-header)
