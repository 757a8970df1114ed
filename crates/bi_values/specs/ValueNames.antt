use Rattle.std.specs.Prelude.{◌≤◌, ℕ, List, [], ◌∷◌, codes, length, map}
use Rattle.std.specs.Prelude.{⊤, Vec}
use Rattle.std.specs.declared.alloc.Global.{Global}
use Rattle.std.specs.List.{AllByRecursion}
use Rattle.bi_base.specs.Cells.{AreBytes}
use Rattle.bi_blob.specs.Tree.{IsChildName, IsPropertyName}
use Rattle.bi_common.specs.Shown.{path, shown_text}
use Rattle.bi_values.specs.declared.value_name.HeaderField.{HeaderField}
use Rattle.bi_values.specs.declared.value_name.HeaderField.TheVariants.{Name, Time, Load, Entry, Os}
use Rattle.bi_values.specs.declared.value_name.HeaderField.TheVariants.{Arch, ImageType}
use Rattle.bi_values.specs.declared.value_name.HeaderField.TheVariants.{Compression}
use Rattle.bi_values.specs.declared.value_name.ValueName.{ValueName}
use Rattle.bi_values.specs.declared.value_name.ValueName.TheVariants as variant

-- What names a value of a boot image, and the words for it (profile of this project).

-- A property, by the names of the nodes on the way from the root to its node, and its own name; or
-- a field of a legacy header.
pub data ValueNameModel : Type 0 where
  PropertyAt : (path : List (List ℕ)) → (name : List ℕ) → ValueNameModel
  FieldAt : HeaderField → ValueNameModel

-- The names that lead to a node, as the code has them.
abbrev pub names_of_path : List (Vec ℕ Global) → List (List ℕ)
names_of_path names = map (λ name. name.items) names

-- A name of a value, as the code has it.
abbrev pub value_name_model : ValueName → ValueNameModel
value_name_model (variant.Property path name) = PropertyAt (names_of_path path.items) name.items
value_name_model (variant.Field field) = FieldAt field

abbrev pub value_name_models : List ValueName → List ValueNameModel
value_name_models names = map value_name_model names

-- The fields, in the order of a listing.
abbrev pub header_fields : List HeaderField
header_fields = Name ∷ Time ∷ Load ∷ Entry ∷ Os ∷ Arch ∷ ImageType ∷ Compression ∷ []

-- The word for a field: the key of its line in a listing.
abbrev pub field_word : HeaderField → List ℕ
field_word Name = codes "name"
field_word Time = codes "time"
field_word Load = codes "load"
field_word Entry = codes "entry"
field_word Os = codes "os"
field_word Arch = codes "arch"
field_word ImageType = codes "type"
field_word Compression = codes "compression"

-- A name that a child may have, as bytes.
pub record IsChildNameOfBytes (name : List ℕ) : Type 0 where
  pub is_name : IsChildName name
  pub bytes : AreBytes name

-- Names that lead to a node: there are at most 63 of them, since a tree has at most 64 nodes inside
-- one another.
pub record IsNodePath (names : List (List ℕ)) : Type 0 where
  pub are_names : AllByRecursion IsChildNameOfBytes names
  pub few : length names ≤ 63

-- A name that a property may have, as bytes.
pub record IsPropertyNameOfBytes (name : List ℕ) : Type 0 where
  pub is_name : IsPropertyName name
  pub bytes : AreBytes name

-- Names that have words.
abbrev pub IsValueName : ValueNameModel → Type 0
IsValueName (PropertyAt path name) = IsNodePath path × IsPropertyNameOfBytes name
IsValueName (FieldAt field) = ⊤

-- The words for a name: of a property two, the path of its node and its name, both as they are
-- printed. The first begins with a slash. Of a field one, which does not.
abbrev pub words_of_value : ValueNameModel → List (List ℕ)
words_of_value (PropertyAt names name) = path names ∷ shown_text name ∷ []
words_of_value (FieldAt field) = field_word field ∷ []
