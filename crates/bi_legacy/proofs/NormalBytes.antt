use Rattle.std.proofs.Common.{ℕ, Bool, true, false, List, ◌++◌, [], ◌∷◌, if◌then◌else◌, flat_map, rules}
use Rattle.std.specs.List.{AllByRecursion}
use Rattle.bi_base.specs.Cells.{cell, AreBytes}
use Rattle.bi_legacy.specs.File.{header}
use Rattle.bi_legacy.specs.Meaning.{LegacyImage, FitsFields}
use Rattle.bi_legacy.specs.Parts.{part_table}
use Rattle.bi_legacy.specs.Text.{joined_parts, legacy_text, IsLegacyImage}
use Rattle.bi_base.proofs.ByteLists.{AreBytes-none, AreBytes-cons, AreBytes-append, AreBytes-zeros, AreBytes-cell}
use Rattle.bi_legacy.proofs.TableCells.{part_table-cells}

-- The normal text is bytes.

-- Cells are bytes.
cells_bytes : (numbers : List ℕ) → AreBytes (flat_map cell numbers)
cells_bytes [] = AreBytes-none
cells_bytes (number ∷ numbers) =
    AreBytes-append (cell number) (flat_map cell numbers) (AreBytes-cell number) (cells_bytes numbers)

-- A part table is bytes.
part_table-bytes : (parts : List (List ℕ)) → AreBytes (part_table parts)
part_table-bytes parts = search (rules, part_table-cells, AreBytes-append, cells_bytes, AreBytes-cell)

-- Joined parts of bytes are bytes.
joined_bytes : (parts : List (List ℕ)) → AllByRecursion AreBytes parts → AreBytes (joined_parts parts)
joined_bytes [] are = AreBytes-none
joined_bytes (part ∷ []) are = are.0
joined_bytes (part ∷ next ∷ later) are = search (rules, AreBytes-append, AreBytes-zeros, joined_bytes (next ∷ later) are.1)

-- The normal data of parts of bytes, with or without a part table, is bytes.
kind_bytes : (has_table : Bool) (parts : List (List ℕ)) → AllByRecursion AreBytes parts →
    AreBytes (if has_table then part_table parts ++ joined_parts parts else joined_parts parts)
kind_bytes true parts are = AreBytes-append (part_table parts) (joined_parts parts) (part_table-bytes parts) (joined_bytes parts are)
kind_bytes false parts are = joined_bytes parts are

-- The codes of an image and its name's field are bytes.
codes_bytes : (image : LegacyImage) (field : List ℕ) → FitsFields image → AreBytes field →
    AreBytes ((image.os ∷ image.arch ∷ image.image_type ∷ image.compression ∷ []) ++ field)
codes_bytes image field ranges are = search (rules, AreBytes-cons)

-- A cell before bytes is bytes.
cell_first : (n : ℕ) (rest : List ℕ) → AreBytes rest → AreBytes (cell n ++ rest)
cell_first n rest are = AreBytes-append (cell n) rest (AreBytes-cell n) are

-- A header is bytes.
header_bytes : (image : LegacyImage) (field body : List ℕ) → FitsFields image → AreBytes field → AreBytes (header image field body)
unfolding header
header_bytes image field body ranges are = search (rules, cell_first, codes_bytes)

-- The normal text of an image that fits the format is bytes.
pub legacy_text_bytes : (image : LegacyImage) → IsLegacyImage image → AreBytes (legacy_text image)
unfolding legacy_text
legacy_text_bytes image is = search (rules, AreBytes-append, header_bytes, AreBytes-zeros, kind_bytes)
