use Rattle.std.specs.Prelude.{◌≡◌, ◌≢◌, ◌≤◌, ◌⊎◌, ℕ, List, [], ◌∷◌, ◌++◌, codes, length, Ok}
use Rattle.std.specs.Prelude.{Option, Some, None, flat_map}
use Rattle.std.specs.List.{join_with_byte}
use Rattle.hex.specs.Hex.{decode_of}
use Rattle.bi_base.specs.Cells.{AreBytes}
use Rattle.bi_common.specs.Shown.{Words, path, shown_text}
use Rattle.bi_common.specs.ValueTexts.{value_words}
use Rattle.bi_edit.specs.declared.edit.Edit.{Edit}
use Rattle.bi_edit.specs.declared.edit.Edit.TheVariants.{RemoveNode, RemoveProperty}
use Rattle.bi_edit.specs.Cuts.{from_byte}
use Rattle.bi_edit.specs.Places.{IsNodePath, IsChildNameOfBytes, IsPlace, IsPropertyNameOfBytes}
use Rattle.bi_edit.specs.Places.{IsRemovable, PropertyPlaceModel}

-- The words for edits on the command line: nodes, properties and values are given as they are
-- printed in a description (profile of this project).

-- The word for the path of a node.
pub record IsPathWord (word : List ℕ) (names : List (List ℕ)) : Type 0 where
  pub is_path : IsNodePath names
  pub is : path names ≡ word

-- A slash and the name of a node.
abbrev pub slash_and_name : List ℕ → List ℕ
slash_and_name name = 47 ∷ shown_text name

-- The names are those in a text, with a slash between each two.
pub record ArePathNamesIn (text : List ℕ) (names : List (List ℕ)) : Type 0 where
  pub is_path : IsNodePath names
  pub are : flat_map slash_and_name names ≡ 47 ∷ text

-- The word for the name of a child, and for that of a property.
pub record IsChildWord (word name : List ℕ) : Type 0 where
  pub is_name : IsChildNameOfBytes name
  pub is : shown_text name ≡ word

pub record IsPropertyWord (word name : List ℕ) : Type 0 where
  pub is_name : IsPropertyNameOfBytes name
  pub is : shown_text name ≡ word

-- How a value is printed: nothing for an empty one.
abbrev pub value_text : List ℕ → List ℕ
value_text value = join_with_byte 32 (value_words value)

-- The text is `0x` and two hexadecimal digits, of either case, for each byte of this value.
pub record IsHexadecimal (text value : List ℕ) : Type 0 where
  pub digits : List ℕ
  pub is : text ≡ codes "0x" ++ digits
  pub are_digits : decode_of digits ≡ Ok value

-- The text is `0x` and digits of either case, or how the value is printed.
abbrev pub IsValueText : List ℕ → List ℕ → Type 0
IsValueText text value =
    IsHexadecimal text value ⊎ (AreBytes value × (value_text value ≡ text))

-- The words for a property: the path of its node, and its name.
abbrev pub place_words : PropertyPlaceModel → Words
place_words place = path place.path ∷ shown_text place.name ∷ []

-- The word for a removal: the path of a node; or that of the node of a property, a space, and the
-- name of the property.
abbrev pub IsRemovalWord : List ℕ → Edit → Type 0
IsRemovalWord word (RemoveNode names) = IsRemovable names × (path names ≡ word)
IsRemovalWord word (RemoveProperty place) =
    IsPlace place × (join_with_byte 32 (place_words place) ≡ word)
IsRemovalWord word edit = ⊥

-- What is after the name of a property, if a space and something are after it: the text for a value
-- that is not empty. Without them the value is empty.
abbrev pub IsValueAfter : (after : Option (List ℕ)) → (value : List ℕ) → Type 0
IsValueAfter None value = value ≡ []
IsValueAfter (Some text) value = (text ≢ []) × IsValueText text value

-- The word for a new value of a property: the path of its node, a space, the name, and the value
-- after one more space, unless it is empty.
pub record IsSettingWord (word : List ℕ) (place : PropertyPlaceModel) (value : List ℕ)
    : Type 0 where
  pub is_place : IsPlace place
  pub after : Option (List ℕ)
  pub is : join_with_byte 32 (place_words place) ++ from_byte 32 after ≡ word
  pub is_value : IsValueAfter after value

-- The word for a new payload: the name of the image, `=@`, and the name of a file, which is not
-- empty. The name of the image ends at the first `=@` of the word.
pub record IsPayloadWord (word image file : List ℕ) : Type 0 where
  pub is_name : IsChildNameOfBytes image
  pub is : word ≡ shown_text image ++ (codes "=@" ++ file)
  pub first : (before after : List ℕ) → word ≡ before ++ (codes "=@" ++ after)
      → length (shown_text image) ≤ length before
  pub some : file ≢ []
