use Rattle.std.specs.Prelude.{◌≡◌, ℕ, ◌+◌, ◌-◌, max, Bool, nat_lt, List, [], ◌∷◌, ◌++◌, Option}
use Rattle.std.specs.Prelude.{Some, codes, get_or, length, map, IsPermutation, MatchBool}
use Rattle.std.specs.Prelude.{if◌then◌else◌}
use Rattle.std.specs.Fmt.{decimal}
use Rattle.std.specs.List.Sorted.{IsNonDecreasingBy, IsStableByKey}
use Rattle.std.specs.Ordering.{nat_cmp}
use Rattle.bi_blob.specs.Blob.{Reservation, header_length, off_dt_strings, off_dt_struct}
use Rattle.bi_blob.specs.Blob.{off_mem_rsvmap, reservation_block, strings_end, structure_end}
use Rattle.bi_blob.specs.Lookups.{Sibling}
use Rattle.bi_blob.specs.Tree.{FileNode}
use Rattle.bi_fit.specs.Payloads.{payload_place, source_of}
use Rattle.bi_legacy.specs.Meaning.{LegacyImage, has_part_table}
use Rattle.bi_legacy.specs.Parts.{part_table}
use Rattle.bi_legacy.specs.PlacedParts.{PartModel, placed_parts}
use Rattle.bi_common.specs.Shown.{shown_text}
use Rattle.bi_show.specs.declared.show.layout.LayoutRegion.{LayoutRegion}
use Rattle.bi_show.specs.declared.show.layout.RegionKind.{RegionKind}
use Rattle.bi_show.specs.declared.show.layout.RegionKind.TheVariants as kind
use Rattle.bi_show.specs.Pages.{Table}

-- The layout of a file: its regions, by their offsets (profile of this project).

-- A region, by its offset and its size.
abbrev pub region_at : RegionKind → (begin size : ℕ) → LayoutRegion
region_at what begin size = record { kind = what; begin = begin; end = begin + size }

-- ---- the regions of each kind of image

-- The part table, if the image has one.
abbrev pub part_table_regions : LegacyImage → List LayoutRegion
part_table_regions image =
    if has_part_table image.image_type
    then region_at kind.PartTable 64 (length (part_table image.parts)) ∷ [] else []

-- The regions of parts. The first part has this index.
abbrev pub part_regions : (index : ℕ) → List PartModel → List LayoutRegion
part_regions index [] = []
part_regions index (part ∷ later) =
    region_at (kind.Part index) part.place (length part.bytes) ∷ part_regions (index + 1) later

-- The regions of a legacy image.
abbrev pub legacy_regions : LegacyImage → List LayoutRegion
legacy_regions image =
    region_at kind.Header 0 64
    ∷ (part_table_regions image ++ part_regions 0 (placed_parts image))

-- The regions of a blob: its header and its blocks.
abbrev pub blob_regions : (file : List ℕ) → List Reservation → List LayoutRegion
blob_regions file reservations =
    region_at kind.Header 0 (header_length file)
    ∷ region_at kind.Reservations (off_mem_rsvmap file) (length (reservation_block reservations))
    ∷ record { kind = kind.Structure; begin = off_dt_struct file; end = structure_end file }
    ∷ record { kind = kind.Strings; begin = off_dt_strings file; end = strings_end file } ∷ []

-- The region of the payload of the image at this index, if it has one, at this offset.
abbrev pub region_of_payload : (index : ℕ) → Option (List ℕ) → (offset : Option ℕ)
    → List LayoutRegion
region_of_payload index (Some payload) (Some offset) =
    region_at (kind.Payload index) offset (length payload) ∷ []
region_of_payload index payload offset = []

-- The regions of the payloads of image nodes. The first image has this index.
abbrev pub payload_regions : (file : List ℕ) → (index : ℕ) → List (Sibling FileNode)
    → List (Option (List ℕ)) → List LayoutRegion
payload_regions file index (entry ∷ entries) (payload ∷ payloads) =
    region_of_payload index payload (payload_place file (source_of entry.own))
    ++ payload_regions file (index + 1) entries payloads
payload_regions file index entries payloads = []

-- ---- their order, and what no region has

-- The regions are sorted by their offsets. Regions with the same offset keep their order.
pub record AreByOffset (regions sorted : List LayoutRegion) : Type 0 where
  pub same : IsPermutation regions sorted
  pub by_offset : IsNonDecreasingBy (λ region. region.begin) sorted
  pub stable : IsStableByKey (λ region. region.begin) nat_cmp regions sorted

-- The region from an offset up to another one, if it has any bytes.
abbrev pub region_between : RegionKind → (begin end : ℕ) → List LayoutRegion
region_between what begin end =
    if nat_lt begin end then record { kind = what; begin = begin; end = end } ∷ [] else []

-- Regions by their offsets, and the free space before them, between them and after them, up to an
-- offset. All bytes before `covered` are in earlier regions.
abbrev pub with_free_space : (covered end : ℕ) → List LayoutRegion → List LayoutRegion
with_free_space covered end [] = region_between kind.FreeSpace covered end
with_free_space covered end (region ∷ later) =
    region_between kind.FreeSpace covered region.begin
    ++ region ∷ with_free_space (max covered region.end) end later

-- ---- how they are shown

-- The name of a region. Images have these names.
abbrev pub kind_cell : (names : List (List ℕ)) → RegionKind → List ℕ
kind_cell names kind.Header = codes "header"
kind_cell names kind.PartTable = codes "part table"
kind_cell names (kind.Part index) = codes "part " ++ decimal index
kind_cell names kind.Reservations = codes "reservations"
kind_cell names kind.Structure = codes "structure"
kind_cell names kind.Strings = codes "strings"
kind_cell names (kind.Payload index) = codes "image " ++ shown_text (get_or names index [])
kind_cell names kind.FreeSpace = codes "free space"
kind_cell names kind.Trailing = codes "trailing bytes"

-- The cells of a region.
abbrev pub region_row : (names : List (List ℕ)) → LayoutRegion → List (List ℕ)
region_row names region =
    kind_cell names region.kind ∷ decimal region.begin ∷ decimal (region.end - region.begin) ∷ []

-- The table of regions by their offsets, of a file of this length, whose image ends at an offset.
abbrev pub layout_table : (names : List (List ℕ)) → List LayoutRegion → (end size : ℕ) → Table
layout_table names sorted end size =
    (codes "region" ∷ codes "offset" ∷ codes "size" ∷ [])
    ∷ map (region_row names)
    (with_free_space 0 end sorted ++ region_between kind.Trailing end size)

-- The table is that of these regions.
pub record IsLayout (names : List (List ℕ)) (regions : List LayoutRegion) (end size : ℕ)
    (table : Table) : Type 0
  where
    pub sorted : List LayoutRegion
    pub are_sorted : AreByOffset regions sorted
    pub is : table ≡ layout_table names sorted end size

-- If a layout is wanted, the table is that of these regions. If not, the table has no rows.
abbrev pub IsLayoutIf : (wanted : Bool) → (names : List (List ℕ)) → List LayoutRegion
    → (end size : ℕ) → Table → Type 0
IsLayoutIf wanted names regions end size table =
    MatchBool wanted (IsLayout names regions end size table) (table ≡ [])
