use Rattle.std.specs.Prelude.{ℕ, ◌+◌, List, [], ◌∷◌, codes, length}
use Rattle.std.specs.Fmt.{decimal}
use Rattle.bi_legacy.specs.Codes.{compression_names}
use Rattle.bi_legacy.specs.Meaning.{LegacyImage}
use Rattle.bi_legacy.specs.PlacedParts.{PartModel, placed_parts}
use Rattle.bi_common.specs.CommonLines.{code_word}
use Rattle.bi_common.specs.Shown.{hexadecimal}
use Rattle.bi_show.specs.AllCodes.{all_os_names, all_arch_names, all_type_names}
use Rattle.bi_show.specs.PageCells.{size_cell, text_cell}
use Rattle.bi_show.specs.Pages.{Table}

-- The page of a legacy image (profile of this project).

-- The first table: what the image is, the size of its file, the codes and the addresses of its
-- header, and the verdicts on its checksums. The cell of the time is given. Both verdicts are good,
-- since an image with a wrong checksum is refused.
abbrev pub legacy_head : (file : List ℕ) → LegacyImage → (time : List ℕ) → Table
legacy_head file image time =
    (codes "kind" ∷ codes "legacy image" ∷ [])
    ∷ (codes "name" ∷ text_cell image.name ∷ [])
    ∷ (codes "date" ∷ time ∷ [])
    ∷ (codes "size" ∷ size_cell (length file) ∷ [])
    ∷ (codes "type" ∷ code_word all_type_names image.image_type ∷ [])
    ∷ (codes "os" ∷ code_word all_os_names image.os ∷ [])
    ∷ (codes "arch" ∷ code_word all_arch_names image.arch ∷ [])
    ∷ (codes "compression" ∷ code_word compression_names image.compression ∷ [])
    ∷ (codes "load" ∷ hexadecimal image.load ∷ [])
    ∷ (codes "entry" ∷ hexadecimal image.entry ∷ [])
    ∷ (codes "header crc32" ∷ codes "good" ∷ [])
    ∷ (codes "data crc32" ∷ codes "good" ∷ []) ∷ []

-- The row of the part at this index.
abbrev pub part_row : (index : ℕ) → PartModel → List (List ℕ)
part_row index part = decimal index ∷ decimal (length part.bytes) ∷ decimal part.place ∷ []

-- The rows of these parts. The first part has this index.
abbrev pub part_rows : (index : ℕ) → List PartModel → Table
part_rows index [] = []
part_rows index (part ∷ later) =
    part_row index part ∷ part_rows (index + 1) later

-- The table of the parts, with their sizes and their offsets in the file.
abbrev pub parts_table : LegacyImage → Table
parts_table image =
    (codes "part" ∷ codes "size" ∷ codes "offset" ∷ []) ∷ part_rows 0 (placed_parts image)

-- The tables of a legacy image. The table of its regions is given.
abbrev pub legacy_tables : (file : List ℕ) → LegacyImage → (time : List ℕ) → (regions : Table)
    → List Table
legacy_tables file image time regions =
    legacy_head file image time ∷ parts_table image ∷ regions ∷ []
