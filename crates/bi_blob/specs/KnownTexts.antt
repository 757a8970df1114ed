use Rattle.std.specs.Prelude.{◌≡◌, ℕ, List, [], ◌∷◌, ◌++◌, length, codes}
use Rattle.bi_blob.specs.Tree.{none, node, Root, Property, IsNormal}
use Rattle.bi_blob.specs.Events.{events_of}
use Rattle.bi_blob.specs.Blob.{totalsize, off_dt_struct, size_dt_struct, off_dt_strings}
use Rattle.bi_blob.specs.Blob.{size_dt_strings}
use Rattle.bi_blob.specs.Layout.{distinct_names, used_names, offset_in, strings_block}
use Rattle.bi_blob.specs.Layout.{text_of_tree, IsNormalText}

-- Texts of two small trees, by which a reader can judge the definitions (Devicetree Specification,
-- chapter 5; the order of the blocks is profile of this project).

-- A root with one child `images`, and no properties.
abbrev pub smallest_tree : Root (List Property)
smallest_tree = record { own = []; children = node (codes "images") [] none none }

-- Its text: ten cells of the header, the pair that ends the memory reservation block, and eight
-- cells of the structure block.
abbrev pub smallest_text : List ℕ
smallest_text =
    0xd0 ∷ 0x0d ∷ 0xfe ∷ 0xed ∷ 0x00 ∷ 0x00 ∷ 0x00 ∷ 0x58 ∷ 0x00 ∷ 0x00 ∷ 0x00 ∷ 0x38
    ∷ 0x00 ∷ 0x00 ∷ 0x00 ∷ 0x58 ∷ 0x00 ∷ 0x00 ∷ 0x00 ∷ 0x28 ∷ 0x00 ∷ 0x00 ∷ 0x00 ∷ 0x11
    ∷ 0x00 ∷ 0x00 ∷ 0x00 ∷ 0x10 ∷ 0x00 ∷ 0x00 ∷ 0x00 ∷ 0x00 ∷ 0x00 ∷ 0x00 ∷ 0x00 ∷ 0x00
    ∷ 0x00 ∷ 0x00 ∷ 0x00 ∷ 0x20 ∷ 0x00 ∷ 0x00 ∷ 0x00 ∷ 0x00 ∷ 0x00 ∷ 0x00 ∷ 0x00 ∷ 0x00
    ∷ 0x00 ∷ 0x00 ∷ 0x00 ∷ 0x00 ∷ 0x00 ∷ 0x00 ∷ 0x00 ∷ 0x00 ∷ 0x00 ∷ 0x00 ∷ 0x00 ∷ 0x01
    ∷ 0x00 ∷ 0x00 ∷ 0x00 ∷ 0x00 ∷ 0x00 ∷ 0x00 ∷ 0x00 ∷ 0x01 ∷ 0x69 ∷ 0x6d ∷ 0x61 ∷ 0x67
    ∷ 0x65 ∷ 0x73 ∷ 0x00 ∷ 0x00 ∷ 0x00 ∷ 0x00 ∷ 0x00 ∷ 0x02 ∷ 0x00 ∷ 0x00 ∷ 0x00 ∷ 0x02
    ∷ 0x00 ∷ 0x00 ∷ 0x00 ∷ 0x09 ∷ []

-- The normal text of the smallest tree, with boot processor 0 and no memory reservations, is these
-- 88 bytes.
pub record HasSmallestText : Type 0 where
  pub is_text : IsNormalText 0 [] smallest_tree smallest_text
  pub is_length : length smallest_text ≡ 88

-- A root with the properties `filename` and `name`, and a child `images`.
abbrev pub tree_with_properties : Root (List Property)
tree_with_properties = record {
  own = (codes "filename", 1 ∷ []) ∷ (codes "name", 2 ∷ []) ∷ [];
  children = node (codes "images") [] none none;
}

-- Its normal text, with boot processor 0 and no memory reservations.
abbrev pub text_with_properties : List ℕ
text_with_properties = text_of_tree 4 0 [] tree_with_properties

-- The names in its strings block.
abbrev pub names_of_properties : List (List ℕ)
names_of_properties = distinct_names (used_names (events_of tree_with_properties))

-- How this text is laid out: the structure block has 64 bytes, the strings block 14, the whole
-- 136. The name `name` shares no bytes with the end of `filename`.
pub record IsLaidOut : Type 0 where
  pub is_normal : IsNormal tree_with_properties
  pub structure_begin : off_dt_struct text_with_properties ≡ 56
  pub structure_size : size_dt_struct text_with_properties ≡ 64
  pub strings_begin : off_dt_strings text_with_properties ≡ 120
  pub strings_size : size_dt_strings text_with_properties ≡ 14
  pub strings :
      strings_block (events_of tree_with_properties)
      ≡ codes "filename" ++ (0 ∷ (codes "name" ++ 0 ∷ []))
  pub first_name : offset_in names_of_properties (codes "filename") ≡ 0
  pub second_name : offset_in names_of_properties (codes "name") ≡ 9
  pub total : totalsize text_with_properties ≡ 136
  pub is_length : length text_with_properties ≡ 136
