use Rattle.std.specs.Prelude.{◌≡◌, ℕ, ◌+◌, ◌-◌, List, [], ◌∷◌, ◌++◌, length, map, replicate, codes}
use Rattle.std.specs.Prelude.{Option, Some, None}
use Rattle.std.specs.FinMap.{empty, insert}
use Rattle.bi_base.specs.declared.align.Align.{Align}
use Rattle.bi_base.specs.Aligns.{align_bytes}
use Rattle.bi_base.specs.Cells.{cell}
use Rattle.bi_blob.specs.Tree.{Nodes, none, node, Root, Property, PropertyMap}
use Rattle.bi_blob.specs.Blob.{totalsize}
use Rattle.bi_blob.specs.Layout.{text_of_tree}
use Rattle.bi_blob.specs.KnownTexts.{smallest_text}
use Rattle.bi_blob.specs.KnownFaults.{with_cell}
use Rattle.bi_fit.specs.declared.form.Form.TheVariants.{Embedded, External, Aligned}
use Rattle.bi_fit.specs.Names.{images_name, data_name, data_offset_name, data_position_name}
use Rattle.bi_fit.specs.Names.{data_size_name}
use Rattle.bi_fit.specs.ImageTree.{ImageTree}
use Rattle.bi_fit.specs.File.{IsFitFile}
use Rattle.bi_fit.specs.Text.{blob_of, payload_places, payload_area, fit_text}

-- Small files with what they mean, and their texts, by which a reader can judge the definitions.

-- The tree of a file whose root has a child `images` with these image nodes.
abbrev pub tree_with_images : Nodes (List Property) → Root (List Property)
tree_with_images images = record { own = []; children = node images_name [] images none }

-- A file with this tree, boot processor 0 and no memory reservations, and with these bytes after
-- its blob.
abbrev pub file_of_images : Nodes (List Property) → List ℕ → List ℕ
file_of_images images rest = text_of_tree 4 0 [] (tree_with_images images) ++ rest

-- Image nodes with these names, without properties.
abbrev pub plain_images : List (List ℕ) → Nodes PropertyMap
plain_images [] = none
plain_images (name ∷ later) = node name empty none (plain_images later)

-- The meaning of a file that has image nodes with these names, with these payloads and without
-- other properties.
abbrev pub plain_tree : List (List ℕ) → List (Option (List ℕ)) → ImageTree
plain_tree names payloads = record {
  cpu = 0;
  reservations = [];
  root = record { own = empty; children = node images_name empty (plain_images names) none };
  payloads = payloads;
}

-- The smallest file: it has no image node, and both its texts are the file.
pub record SmallestIsFit : Type 0 where
  pub means : IsFitFile smallest_text (plain_tree [] [])
  pub embedded : fit_text Embedded (plain_tree [] []) ≡ smallest_text
  pub external : fit_text External (plain_tree [] []) ≡ smallest_text

-- A file whose image `a` has `data-offset` 0 and `data-size` 3, and whose `totalsize` is 157:
-- three bytes follow the blob, and the payload is at 160.
abbrev pub offset_file : List ℕ
offset_file =
    with_cell
    (file_of_images
    (node (codes "a") ((data_offset_name, cell 0) ∷ (data_size_name, cell 3) ∷ []) none none)
    (1 ∷ 2 ∷ 3 ∷ 4 ∷ codes "abc"))
    4 157

-- What it means.
abbrev pub offset_tree : ImageTree
offset_tree = plain_tree (codes "a" ∷ []) (Some (codes "abc") ∷ [])

-- The payload is `abc`. In the external text the payload follows a blob of 156 bytes.
pub record OffsetIsFromAlignedEnd : Type 0 where
  pub means : IsFitFile offset_file offset_tree
  pub is_length : length offset_file ≡ 163
  pub embedded_length : length (fit_text Embedded offset_tree) ≡ 124
  pub external_blob : length (blob_of External offset_tree) ≡ 156
  pub external_length : length (fit_text External offset_tree) ≡ 159

-- A file whose image `a` has `data`, `data-position` 180 and `data-size` 3. Its blob ends at 180.
abbrev pub position_file : List ℕ
position_file =
    file_of_images
    (node (codes "a")
    ((data_name, codes "old") ∷ (data_position_name, cell 180) ∷ (data_size_name, cell 3) ∷ [])
    none none)
    (codes "new")

-- The payload is `new`: `data-position` comes before `data`. The text has one property `data`.
pub record PositionIsBeforeData : Type 0 where
  pub means : IsFitFile position_file (plain_tree (codes "a" ∷ []) (Some (codes "new") ∷ []))
  pub embedded : fit_text Embedded (plain_tree (codes "a" ∷ []) (Some (codes "new") ∷ []))
      ≡ file_of_images (node (codes "a") ((data_name, codes "new") ∷ []) none none) []
  pub embedded_length :
      length (fit_text Embedded (plain_tree (codes "a" ∷ []) (Some (codes "new") ∷ []))) ≡ 124

-- A file whose image `a` has `data`, `data-offset` 0 and `data-size` 3.
abbrev pub offset_and_data_file : List ℕ
offset_and_data_file =
    file_of_images
    (node (codes "a")
    ((data_name, codes "old") ∷ (data_offset_name, cell 0) ∷ (data_size_name, cell 3) ∷ [])
    none none)
    (codes "new")

-- The payload is `new`, which follows the blob: `data-offset` comes before `data`.
pub record OffsetIsBeforeData : Type 0 where
  pub means : IsFitFile offset_and_data_file (plain_tree (codes "a" ∷ []) (Some (codes "new") ∷ []))

-- A file whose image `a` has all four properties: `data-position` 0 and `data-size` 4 are those of
-- its header.
abbrev pub all_properties_file : List ℕ
all_properties_file =
    file_of_images
    (node (codes "a")
    ((data_name, codes "old") ∷ (data_offset_name, cell 0) ∷ (data_position_name, cell 0)
    ∷ (data_size_name, cell 4) ∷ [])
    none none)
    (codes "last")

-- The payload is the first cell of the file: `data-position` comes before `data-offset`.
pub record PositionIsBeforeOffset : Type 0 where
  pub means : IsFitFile all_properties_file
      (plain_tree (codes "a" ∷ []) (Some (0xd0 ∷ 0x0d ∷ 0xfe ∷ 0xed ∷ []) ∷ []))

-- A file whose image `a` has no payload, and one whose image `a` has an empty one.
abbrev pub bare_file : List ℕ
bare_file = file_of_images (node (codes "a") [] none none) []

abbrev pub empty_file : List ℕ
empty_file = file_of_images (node (codes "a") ((data_name, []) ∷ []) none none) []

-- They do not mean the same. Both are their own text in the form Embedded.
pub record NoneIsNotEmpty : Type 0 where
  pub bare_means : IsFitFile bare_file (plain_tree (codes "a" ∷ []) (None ∷ []))
  pub empty_means : IsFitFile empty_file (plain_tree (codes "a" ∷ []) (Some [] ∷ []))
  pub bare_embedded : fit_text Embedded (plain_tree (codes "a" ∷ []) (None ∷ [])) ≡ bare_file
  pub bare_external : fit_text External (plain_tree (codes "a" ∷ []) (None ∷ [])) ≡ bare_file
  pub empty_embedded : fit_text Embedded (plain_tree (codes "a" ∷ []) (Some [] ∷ [])) ≡ empty_file
  pub bare_length : length bare_file ≡ 100
  pub empty_length : length empty_file ≡ 120

-- Three images, with the payload `hello`, an empty one, and `x`, in the form Embedded.
abbrev pub three_embedded : List ℕ
three_embedded =
    file_of_images
    (node (codes "a") ((data_name, codes "hello") ∷ []) none
    (node (codes "b") ((data_name, []) ∷ []) none
    (node (codes "c") ((data_name, codes "x") ∷ []) none none)))
    []

-- Image nodes of three external payloads, of 5, 0 and 1 bytes. The second and the third begin at
-- this offset.
abbrev pub three_external_nodes : (offset : ℕ) → Nodes (List Property)
three_external_nodes offset =
    node (codes "a") ((data_offset_name, cell 0) ∷ (data_size_name, cell 5) ∷ []) none
    (node (codes "b") ((data_offset_name, cell offset) ∷ (data_size_name, cell 0) ∷ []) none
    (node (codes "c") ((data_offset_name, cell offset) ∷ (data_size_name, cell 1) ∷ []) none none))

-- Three images, with the payload `hello`, an empty one, and `x`, in the form External: the offsets
-- are 0, 8 and 8, and three zeros follow `hello`.
abbrev pub three_external : List ℕ
three_external =
    file_of_images (three_external_nodes 8) (codes "hello" ++ 0 ∷ 0 ∷ 0 ∷ codes "x")

-- What both mean.
abbrev pub three_tree : ImageTree
three_tree =
    plain_tree
    (codes "a" ∷ codes "b" ∷ codes "c" ∷ [])
    (Some (codes "hello") ∷ Some [] ∷ Some (codes "x") ∷ [])

-- They are its texts, of 180 and 253 bytes.
pub record ThreeImagesHaveTexts : Type 0 where
  pub embedded_means : IsFitFile three_embedded three_tree
  pub external_means : IsFitFile three_external three_tree
  pub embedded : fit_text Embedded three_tree ≡ three_embedded
  pub external : fit_text External three_tree ≡ three_external
  pub embedded_length : length three_embedded ≡ 180
  pub external_blob : length (blob_of External three_tree) ≡ 244
  pub external_length : length three_external ≡ 253
  pub places : payload_places 4 244 0 three_tree.payloads ≡ Some 244 ∷ Some 252 ∷ Some 252 ∷ []

-- The text of these images with this alignment. The second and the third payload begin at this
-- offset from the end of the blob.
abbrev pub three_aligned : (align offset : ℕ) → List ℕ
three_aligned align offset =
    text_of_tree align 0 [] (tree_with_images (three_external_nodes offset))
    ++ (codes "hello" ++ (replicate (offset - 5) 0 ++ codes "x"))

-- This is the text of the three images in the form Aligned with this alignment. The blob has
-- `total` bytes, and the text has `size` bytes.
pub record AreAlignedTo (align offset total size : ℕ) : Type 0 where
  pub is_text : (chosen : Align) → align_bytes chosen ≡ align
      → fit_text (Aligned chosen) three_tree ≡ three_aligned align offset
  pub is_total : totalsize (three_aligned align offset) ≡ total
  pub is_length : length (three_aligned align offset) ≡ size
  pub places : payload_places align total 0 three_tree.payloads
      ≡ Some total ∷ Some (total + offset) ∷ Some (total + offset) ∷ []

-- With the alignments 4, 8, 16 and 4096.
pub record ThreeImagesAreAligned : Type 0 where
  pub by_4 : AreAlignedTo 4 8 244 253
  pub by_8 : AreAlignedTo 8 8 248 257
  pub by_16 : AreAlignedTo 16 16 256 273
  pub by_4096 : AreAlignedTo 4096 4096 4096 8193
  pub same : three_aligned 4 8 ≡ three_external

-- Three images with the payload `x`, an empty one, and `y`, in the form External: the offsets are
-- 0, 4 and 4, and three zeros follow `x`.
abbrev pub aligned_external : List ℕ
aligned_external =
    file_of_images
    (node (codes "a") ((data_offset_name, cell 0) ∷ (data_size_name, cell 1) ∷ []) none
    (node (codes "b") ((data_offset_name, cell 4) ∷ (data_size_name, cell 0) ∷ []) none
    (node (codes "c") ((data_offset_name, cell 4) ∷ (data_size_name, cell 1) ∷ []) none none)))
    (codes "x" ++ 0 ∷ 0 ∷ 0 ∷ codes "y")

-- What it means.
abbrev pub aligned_tree : ImageTree
aligned_tree =
    plain_tree
    (codes "a" ∷ codes "b" ∷ codes "c" ∷ [])
    (Some (codes "x") ∷ Some [] ∷ Some (codes "y") ∷ [])

-- External payloads begin at multiples of four. The last payload of a text may be an empty one,
-- and zeros precede it too. An image without a payload takes no room.
pub record PayloadsAreAligned : Type 0 where
  pub means : IsFitFile aligned_external aligned_tree
  pub external : fit_text External aligned_tree ≡ aligned_external
  pub external_length : length aligned_external ≡ 249
  pub places : payload_places 4 244 0 aligned_tree.payloads
      ≡ Some 244 ∷ Some 248 ∷ Some 248 ∷ []
  pub areas : map (payload_area 4 0)
      ((Some (codes "x") ∷ Some (codes "y") ∷ [])
      ∷ (Some (codes "x") ∷ Some [] ∷ [])
      ∷ (Some (codes "x") ∷ None ∷ [])
      ∷ (None ∷ Some (codes "x") ∷ None ∷ Some (codes "yzxyz") ∷ Some (codes "y") ∷ [])
      ∷ [])
      ≡ (codes "x" ++ 0 ∷ 0 ∷ 0 ∷ codes "y")
      ∷ (codes "x" ++ 0 ∷ 0 ∷ 0 ∷ [])
      ∷ codes "x"
      ∷ (codes "x" ++ (0 ∷ 0 ∷ 0 ∷ (codes "yzxyz" ++ 0 ∷ 0 ∷ 0 ∷ codes "y")))
      ∷ []

-- A region of the file.
abbrev pub shared_region : List ℕ
shared_region = replicate 1000 7

-- The properties of an image node that name this region of external data.
abbrev pub region_of : (offset size : ℕ) → List Property
region_of offset size = (data_offset_name, cell offset) ∷ (data_size_name, cell size) ∷ []

-- A file with three images. The first has this region, and the other two have the whole of the
-- shared region.
abbrev pub shared_file : (offset size : ℕ) → List ℕ
shared_file offset size =
    file_of_images
    (node (codes "a") (region_of offset size) none
    (node (codes "b") (region_of 0 1000) none
    (node (codes "c") (region_of 0 1000) none none)))
    shared_region

-- What it means, if this is the first payload.
abbrev pub shared_tree : List ℕ → ImageTree
shared_tree payload =
    plain_tree
    (codes "a" ∷ codes "b" ∷ codes "c" ∷ [])
    (Some payload ∷ Some shared_region ∷ Some shared_region ∷ [])

-- A file of 1244 bytes whose images share a region has texts of 3168 and 3244 bytes. An empty
-- payload may be at the end of the file.
pub record SharedRegionIsRepeated : Type 0 where
  pub means : IsFitFile (shared_file 0 1000) (shared_tree shared_region)
  pub is_length : length (shared_file 0 1000) ≡ 1244
  pub embedded_length : length (fit_text Embedded (shared_tree shared_region)) ≡ 3168
  pub external_length : length (fit_text External (shared_tree shared_region)) ≡ 3244
  pub empty_at_end : IsFitFile (shared_file 1000 0) (shared_tree [])

-- A file whose images are `b` and then `a`.
abbrev pub unsorted_file : List ℕ
unsorted_file =
    file_of_images
    (node (codes "b") ((data_name, codes "x") ∷ []) none
    (node (codes "a") ((data_name, codes "y") ∷ []) none none))
    []

-- What it means.
abbrev pub unsorted_tree : ImageTree
unsorted_tree =
    plain_tree (codes "b" ∷ codes "a" ∷ []) (Some (codes "x") ∷ Some (codes "y") ∷ [])

-- They stay so in its text.
pub record ChildrenKeepOrder : Type 0 where
  pub means : IsFitFile unsorted_file unsorted_tree
  pub embedded : fit_text Embedded unsorted_tree ≡ unsorted_file

-- A tree with `data` in the root, in `images`, in a hash node, and in a child of another node
-- `images` that is not a child of the root.
abbrev pub nested_tree : Root (List Property)
nested_tree = record {
  own = (data_name, codes "r") ∷ [];
  children = node (codes "other") []
      (node images_name [] (node (codes "n") ((data_name, codes "o") ∷ []) none none) none)
      (node images_name ((data_name, codes "p") ∷ [])
      (node (codes "a") ((data_name, codes "q") ∷ [])
      (node (codes "hash-1") ((data_name, codes "s") ∷ []) none none)
      none)
      none);
}

-- A file with this tree.
abbrev pub nested_file : List ℕ
nested_file = text_of_tree 4 0 [] nested_tree ++ []

-- One property by its name.
abbrev pub only_data : List ℕ → PropertyMap
only_data value = insert empty data_name value

-- What it means.
abbrev pub nested_image_tree : ImageTree
nested_image_tree = record {
  cpu = 0;
  reservations = [];
  root = record {
    own = only_data (codes "r");
    children = node (codes "other") empty
        (node images_name empty (node (codes "n") (only_data (codes "o")) none none) none)
        (node images_name (only_data (codes "p"))
        (node (codes "a") empty (node (codes "hash-1") (only_data (codes "s")) none none) none)
        none);
  };
  payloads = Some (codes "q") ∷ [];
}

-- Only the `data` of an image node is a payload: all others are properties like any other.
pub record OnlyImagesHavePayloads : Type 0 where
  pub means : IsFitFile nested_file nested_image_tree
  pub embedded : fit_text Embedded nested_image_tree ≡ nested_file

-- A file whose image `a` has `data` and a `data-size` that is not a cell.
abbrev pub unused_size_file : List ℕ
unused_size_file =
    file_of_images
    (node (codes "a") ((data_name, codes "abc") ∷ (data_size_name, codes "s") ∷ []) none none)
    []

-- A file whose image `a` has `data-position` 0, `data-size` 4 and a `data-offset` that is not a
-- cell.
abbrev pub unused_offset_file : List ℕ
unused_offset_file =
    file_of_images
    (node (codes "a")
    ((data_offset_name, codes "o") ∷ (data_position_name, cell 0) ∷ (data_size_name, cell 4) ∷ [])
    none none)
    []

-- Properties that do not give the payload have no meaning. A region may be anywhere in the file,
-- even in its header.
pub record UnusedHaveNoMeaning : Type 0 where
  pub size : IsFitFile unused_size_file (plain_tree (codes "a" ∷ []) (Some (codes "abc") ∷ []))
  pub offset : IsFitFile unused_offset_file
      (plain_tree (codes "a" ∷ []) (Some (0xd0 ∷ 0x0d ∷ 0xfe ∷ 0xed ∷ []) ∷ []))
