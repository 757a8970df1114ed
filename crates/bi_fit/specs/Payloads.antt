use Rattle.std.specs.Prelude.{◌≡◌, ℕ, ◌+◌, ◌≤◌, List, Option, Some, None, length, ⊤}
use Rattle.std.specs.Int.{from_be_bytes, w32}
use Rattle.bi_base.specs.Cells.{slice, up4}
use Rattle.bi_blob.specs.Tree.{FileProperty, FileNode}
use Rattle.bi_blob.specs.Lookups.{property_named}
use Rattle.bi_blob.specs.Blob.{totalsize}
use Rattle.bi_fit.specs.Names.{data_name, data_offset_name, data_position_name, data_size_name}

-- The payload of an image node (Flattened Image Tree Specification: `data`, `data-offset`,
-- `data-position`, `data-size`; U-Boot, boot/image-fit.c: fit_image_get_data_and_size).

-- Which property of an image node gives its payload: the first that is there of `data-position`,
-- `data-offset` and `data`. The first two name a region of the file together with `data-size`, if
-- that is there. The others of the four properties then have no meaning (the order and this are
-- profile of this project).
pub data PayloadSource : Type 0 where
  NoSource : PayloadSource
  Data : (data_property : FileProperty) → PayloadSource
  DataOffset : (offset : FileProperty) → (size : Option FileProperty) → PayloadSource
  DataPosition : (position : FileProperty) → (size : Option FileProperty) → PayloadSource

-- The first that is there of three properties.
abbrev pub first_source : (position offset size data_property : Option FileProperty)
    → PayloadSource
first_source (Some position) offset size data_property = DataPosition position size
first_source None (Some offset) size data_property = DataOffset offset size
first_source None None size (Some data_property) = Data data_property
first_source None None size None = NoSource

-- The source of an image node's payload.
abbrev pub source_of : FileNode → PayloadSource
source_of own =
    first_source
    (property_named own.properties data_position_name)
    (property_named own.properties data_offset_name)
    (property_named own.properties data_size_name)
    (property_named own.properties data_name)

-- The number in a property whose value is one cell.
abbrev pub cell_number : FileProperty → ℕ
cell_number property = from_be_bytes w32 property.value

-- Where external data begins: `data-offset` is counted from the first multiple of four that is not
-- before the blob's end (U-Boot, boot/image-fit.c: fit_image_get_data_and_size).
abbrev pub external_base : List ℕ → ℕ
external_base file = up4 (totalsize file)

-- Two properties, each of one cell, name this payload: a region of the file. It may be anywhere in
-- the file (profile of this project).
pub record IsRegion (file : List ℕ) (base : ℕ) (begin size : FileProperty)
    (payload : Option (List ℕ)) : Type 0 where
  pub begin_cell : length begin.value ≡ 4
  pub size_cell : length size.value ≡ 4
  pub in_file : base + cell_number begin + cell_number size ≤ length file
  pub is_slice : payload ≡ Some (slice file (base + cell_number begin) (cell_number size))

-- Two properties, each of one cell, name this payload: a region of the file. If the second is not
-- there, they name nothing.
abbrev pub IsSizedRegion : List ℕ → ℕ → FileProperty → Option FileProperty → Option (List ℕ)
    → Type 0
IsSizedRegion file base begin None payload = ⊥
IsSizedRegion file base begin (Some size) payload = IsRegion file base begin size payload

-- This is the payload of a source. An image node without a payload is not one with an empty
-- payload. `data-position` is counted from the first byte of the file (both profile of this
-- project).
abbrev pub IsPayload : List ℕ → PayloadSource → Option (List ℕ) → Type 0
IsPayload file NoSource payload = payload ≡ None
IsPayload file (Data data_property) payload = payload ≡ Some data_property.value
IsPayload file (DataOffset offset size) payload =
    IsSizedRegion file (external_base file) offset size payload
IsPayload file (DataPosition position size) payload = IsSizedRegion file 0 position size payload

-- An image node of a file has this payload, or none.
abbrev pub HasPayload : List ℕ → FileNode → Option (List ℕ) → Type 0
HasPayload file own payload = IsPayload file (source_of own) payload

-- The offset in the file of a payload's first byte, by its source, if there is one. The value of a
-- property follows three cells of its token (Devicetree Specification, 5.4.1).
abbrev pub payload_place : List ℕ → PayloadSource → Option ℕ
payload_place file NoSource = None
payload_place file (Data data_property) = Some (data_property.place + 12)
payload_place file (DataOffset offset size) = Some (external_base file + cell_number offset)
payload_place file (DataPosition position size) = Some (cell_number position)

-- These bytes are in the file at this offset.
pub record IsAt (file : List ℕ) (place : ℕ) (bytes : List ℕ) : Type 0 where
  pub in_file : place + length bytes ≤ length file
  pub is_slice : slice file place (length bytes) ≡ bytes

-- A payload is in the file at its place, or there is neither.
abbrev pub IsAtPlace : List ℕ → Option ℕ → Option (List ℕ) → Type 0
IsAtPlace file None None = ⊤
IsAtPlace file (Some place) (Some payload) = IsAt file place payload
IsAtPlace file place payload = ⊥
