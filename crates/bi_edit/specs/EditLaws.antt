use Rattle.std.specs.Prelude.{◌≡◌, ℕ, ⊤, ◌^◌, ◌<◌, ◌≤◌, true, List, [], ◌∷◌, ◌++◌, Some, Vec}
use Rattle.std.specs.declared.alloc.Global.{Global}
use Rattle.std.specs.List.{AllByRecursion}
use Rattle.bi_base.specs.Cells.{AreBytes}
use Rattle.bi_base.specs.Limits.{Limits}
use Rattle.bi_blob.specs.Tree.{Root, PropertyMap, depth_of}
use Rattle.bi_fit.specs.ImageTree.{ImageTree, IsImageTree}
use Rattle.bi_fit.specs.Names.{data_name, images_name, is_hash_name, timestamp_name, value_name}
use Rattle.bi_plain.specs.Plain.{IsPlainTree, plain_root}
use Rattle.bi_tree.specs.Trees.{value_by_path}
use Rattle.bi_fit.specs.declared.form.Form.{Form}
use Rattle.bi_norm.specs.Meaning.{Meaning, Means}
use Rattle.bi_norm.specs.NormalForm.{IsNormalForm}
use Rattle.bi_edit.specs.declared.edit.Edit.{Edit}
use Rattle.bi_edit.specs.declared.edit.Edit.TheVariants.{RemoveNode, RemoveProperty, SetProperty}
use Rattle.bi_edit.specs.declared.edit.Edit.TheVariants.{SetField, SetPayload, SetTime, SetDigests}
use Rattle.bi_edit.specs.declared.edit.FieldValue.{FieldValue}
use Rattle.bi_edit.specs.declared.edit.FieldValue.TheVariants as field
use Rattle.bi_edit.specs.declared.form_choice.FormChoice.TheVariants as choice
use Rattle.bi_edit.specs.EditedFiles.{IsEdited}
use Rattle.bi_edit.specs.Edits.{IsTooDeep, edited_root, edited_tree, in_edit_order, meaning_after}
use Rattle.bi_edit.specs.Edits.{root_after}
use Rattle.bi_edit.specs.Places.{IsChildNameOfBytes, IsPlace, IsRemovable, PropertyPlaceModel}
use Rattle.bi_edit.specs.Places.{image_path}

-- Laws of edits (profile of this project).

-- A name is bytes, and a number fits its field.
abbrev pub IsFieldValue : FieldValue → Type 0
IsFieldValue (field.Name name) = AreBytes name.items
IsFieldValue (field.Time time) = time < 2 ^ 32
IsFieldValue (field.Load load) = load < 2 ^ 32
IsFieldValue (field.Entry entry) = entry < 2 ^ 32
IsFieldValue (field.Os code) = code < 2 ^ 8
IsFieldValue (field.Arch code) = code < 2 ^ 8
IsFieldValue (field.Compression code) = code < 2 ^ 8

-- An edit has places of edits, values of bytes, and numbers that fit.
abbrev pub IsEditOfBytes : Edit → Type 0
IsEditOfBytes (RemoveNode path) = IsRemovable path
IsEditOfBytes (RemoveProperty place) = IsPlace place
IsEditOfBytes (SetProperty place value) = IsPlace place × AreBytes value.items
IsEditOfBytes (SetPayload image payload) = IsChildNameOfBytes image × AreBytes payload.now
IsEditOfBytes (SetField value) = IsFieldValue value
IsEditOfBytes (SetTime time) = time < 2 ^ 32
IsEditOfBytes SetDigests = ⊤

-- Edits of a plain tree make a plain tree. It is no deeper than a limit, if the tree is not, and no
-- edit adds nodes that are.
pub record EditsKeepPlainTree (root : Root PropertyMap) (edits : List Edit) : Type 0 where
  pub is_plain : IsPlainTree (root_after root edits)
  pub shallow : (limits : Limits) → depth_of root ≤ limits.depth
      → AllByRecursion (λ edit. ¬ (IsTooDeep limits edit)) edits
      → depth_of (root_after root edits) ≤ limits.depth

abbrev pub EditsKeepPlainTrees : Type 0
EditsKeepPlainTrees =
    (root : Root PropertyMap) (edits : List Edit) → IsPlainTree root
    → AllByRecursion IsEditOfBytes edits → EditsKeepPlainTree root edits

-- Edits of a flattened image tree make a flattened image tree, whose plain tree is the edited one.
pub record EditsKeepImageTree (tree : ImageTree) (edits : List Edit) : Type 0 where
  pub is_tree : IsImageTree (edited_tree edits tree)
  pub same : plain_root (edited_tree edits tree)
      ≡ root_after (plain_root tree) (in_edit_order edits)

abbrev pub EditsKeepImageTrees : Type 0
EditsKeepImageTrees =
    (tree : ImageTree) (edits : List Edit) → IsImageTree tree → AllByRecursion IsEditOfBytes edits
    → EditsKeepImageTree tree edits

-- ---- what no edit names stays

-- A path leads to the node of another one, or to a node above it.
abbrev pub BeginsPath : (path other : List (List ℕ)) → Type 0
BeginsPath path other = (rest : List (List ℕ)) × (other ≡ path ++ rest)

-- The path of a child of an image node whose name is that of a hash node.
pub record IsHashPath (path : List (List ℕ)) : Type 0 where
  pub image : List ℕ
  pub hash : List ℕ
  pub is : path ≡ images_name ∷ image ∷ hash ∷ []
  pub is_hash : is_hash_name hash ≡ true

-- An edit names a property of a plain tree: it sets or removes it, or removes its node or one above
-- that; or the property holds the payload, the time or a digest that it sets.
abbrev pub IsNamedBy : Edit → (path : List (List ℕ)) → (name : List ℕ) → Type 0
IsNamedBy (RemoveNode removed) path name = BeginsPath removed path
IsNamedBy (RemoveProperty place) path name = (path ≡ place.path) × (name ≡ place.name)
IsNamedBy (SetProperty place value) path name = (path ≡ place.path) × (name ≡ place.name)
IsNamedBy (SetField value) path name = ⊥
IsNamedBy (SetPayload image payload) path name = (path ≡ image_path image) × (name ≡ data_name)
IsNamedBy (SetTime time) path name = (path ≡ []) × (name ≡ timestamp_name)
IsNamedBy SetDigests path name = IsHashPath path × (name ≡ value_name)

-- The value of a property that no edit names stays, or there is none before and after.
abbrev pub OtherValuesStay : Type 0
OtherValuesStay =
    (root : Root PropertyMap) (edits : List Edit) (path : List (List ℕ)) (name : List ℕ)
    → AllByRecursion (λ edit. ¬ (IsNamedBy edit path name)) edits
    → value_by_path (root_after root edits) path name ≡ value_by_path root path name

-- ---- what is set

-- A property that was set has this value, after later edits that do not name it, too.
abbrev pub SetValuesAreThere : Type 0
SetValuesAreThere =
    (root : Root PropertyMap) (place : PropertyPlaceModel) (value : Vec ℕ Global)
    (later : List Edit)
    → AllByRecursion (λ edit. ¬ (IsNamedBy edit place.path place.name)) later
    → value_by_path (root_after root (SetProperty place value ∷ later)) place.path place.name
    ≡ Some value.items

-- To set the value that a property has changes nothing.
abbrev pub SettingWhatIsThere : Type 0
SettingWhatIsThere =
    (root : Root PropertyMap) (place : PropertyPlaceModel) (value : Vec ℕ Global)
    → value_by_path root place.path place.name ≡ Some value.items
    → edited_root root (SetProperty place value) ≡ root

-- Edits that change nothing of the plain tree of a flattened image tree change nothing of it.
abbrev pub NothingChanges : Type 0
NothingChanges =
    (tree : ImageTree) (edits : List Edit) → IsImageTree tree
    → root_after (plain_root tree) (in_edit_order edits) ≡ plain_root tree
    → edited_tree edits tree ≡ tree

-- Edits that change nothing of what a file means give its normal form.
abbrev pub EditsThatChangeNothing : Type 0
EditsThatChangeNothing =
    (edits : List Edit) (limits : Limits) (form : Form) (file text normal : List ℕ)
    → IsEdited edits (choice.Given form) limits file text
    → ((meaning : Meaning) → Means limits file meaning → meaning_after edits meaning ≡ meaning)
    → IsNormalForm limits form file normal → text ≡ normal

-- In a given form a file has at most one text after edits.
abbrev pub OneEditedText : Type 0
OneEditedText =
    (edits : List Edit) (limits : Limits) (form : Form) (file text other : List ℕ)
    → IsEdited edits (choice.Given form) limits file text
    → IsEdited edits (choice.Given form) limits file other → text ≡ other
