use Rattle.std.specs.Prelude.{◌≡◌, ℕ, ◌+◌, ◌^◌, ◌<◌, ◌≤◌, ◌==◌, ⊤, ◌⊎◌, Bool, true, false, List, []}
use Rattle.std.specs.Prelude.{◌∷◌, filter, flat_map, length, take, None, bytes_eq, if◌then◌else◌}
use Rattle.std.specs.Fmt.{decimal}
use Rattle.std.specs.FinMap.{get}
use Rattle.bi_base.specs.Cells.{cell}
use Rattle.bi_base.specs.Limits.{Limits}
use Rattle.bi_blob.specs.Tree.{Nodes, none, node, Root, PropertyMap}
use Rattle.bi_tree.specs.Changes.{node_by_path, with_change_at, without_node_at}
use Rattle.bi_tree.specs.Trees.{value_by_path, with_own_value}
use Rattle.bi_tree.specs.Trees.{with_value_by_path, without_value_by_path}
use Rattle.bi_fit.specs.ImageTree.{ImageTree, with_image_nodes}
use Rattle.bi_fit.specs.Names.{data_name, timestamp_name}
use Rattle.bi_fit.specs.Updating.{with_digests_of}
use Rattle.bi_legacy.specs.Meaning.{LegacyImage}
use Rattle.bi_norm.specs.Meaning.{Meaning, OfLegacy, OfFit}
use Rattle.bi_edit.specs.declared.edit.Edit.{Edit}
use Rattle.bi_edit.specs.declared.edit.Edit.TheVariants.{RemoveNode, RemoveProperty, SetProperty}
use Rattle.bi_edit.specs.declared.edit.Edit.TheVariants.{SetField, SetPayload, SetTime, SetDigests}
use Rattle.bi_edit.specs.declared.edit.FieldValue.{FieldValue}
use Rattle.bi_edit.specs.declared.edit.FieldValue.TheVariants as field
use Rattle.bi_edit.specs.Places.{image_path}
use Rattle.bi_plain.specs.Plain.{plain_root, with_plain_root}

-- What edits make of the meaning of a boot image (profile of this project).

-- ---- the order of edits

-- The turn in which an edit is made, by its kind: removals first, then new values, payloads, the
-- time, and the digests.
abbrev pub turn_of : Edit → ℕ
turn_of (RemoveNode path) = 0
turn_of (RemoveProperty place) = 0
turn_of (SetProperty place value) = 1
turn_of (SetField value) = 1
turn_of (SetPayload image payload) = 2
turn_of (SetTime time) = 3
turn_of SetDigests = 4

-- Those of these edits that have a turn, in their order.
abbrev pub edits_of_turn : (turn : ℕ) → List Edit → List Edit
edits_of_turn turn edits = filter (λ edit. turn_of edit == turn) edits

-- All turns.
abbrev pub turns : List ℕ
turns = 0 ∷ 1 ∷ 2 ∷ 3 ∷ 4 ∷ []

-- Edits in the order in which they are made. Those of one turn keep their order.
abbrev pub in_edit_order : List Edit → List Edit
in_edit_order edits = flat_map (λ turn. edits_of_turn turn edits) turns

-- All edits but those of digests, which are the last, in this order.
abbrev pub before_digests : List Edit → List Edit
before_digests edits = flat_map (λ turn. edits_of_turn turn edits) (take 4 turns)

-- ---- edits one after the other

-- What edits make of something, one after the other.
abbrev pub after_each : {Made : Type 0} → (edited : Made → Edit → Made) → Made → List Edit → Made
after_each edited first [] = first
after_each edited first (edit ∷ later) = after_each edited (edited first edit) later

-- This is the first of these edits that is refused. Each looks at what those before it made.
abbrev pub IsFirstRefusedBy : {Made : Type 0} → (IsRefused : Made → Edit → Type 0)
    → (edited : Made → Edit → Made) → Made → List Edit → Edit → Type 0
IsFirstRefusedBy IsRefused edited first [] refused = ⊥
IsFirstRefusedBy IsRefused edited first (edit ∷ later) refused =
    (IsRefused first edit × (refused ≡ edit))
    ⊎ (¬ (IsRefused first edit)
    × IsFirstRefusedBy IsRefused edited (edited first edit) later refused)

-- None of these edits is refused.
abbrev pub NoneIsRefusedBy : {Made : Type 0} → (IsRefused : Made → Edit → Type 0)
    → (edited : Made → Edit → Made) → Made → List Edit → Type 0
NoneIsRefusedBy IsRefused edited first [] = ⊤
NoneIsRefusedBy IsRefused edited first (edit ∷ later) =
    ¬ (IsRefused first edit) × NoneIsRefusedBy IsRefused edited (edited first edit) later

-- ---- flattened image trees

-- Image nodes whose payloads are values of `data`, each with the digests of its payload in its hash
-- nodes.
abbrev pub with_payload_digests : Nodes PropertyMap → Nodes PropertyMap
with_payload_digests none = none
with_payload_digests (node name own children later) =
    node name own (with_digests_of (get own data_name) children) (with_payload_digests later)

-- A plain tree after an edit. It has no field of a legacy image.
abbrev pub edited_root : Root PropertyMap → Edit → Root PropertyMap
edited_root root (RemoveNode path) = without_node_at path root
edited_root root (RemoveProperty place) = without_value_by_path place.path place.name root
edited_root root (SetProperty place value) =
    with_value_by_path place.path place.name value.items root
edited_root root (SetField value) = root
edited_root root (SetPayload image payload) =
    with_change_at (image_path image) (with_own_value data_name payload.now) root
edited_root root (SetTime time) = with_own_value timestamp_name (cell time) root
edited_root root SetDigests = with_image_nodes with_payload_digests root

-- A plain tree after edits, one after the other.
abbrev pub root_after : Root PropertyMap → List Edit → Root PropertyMap
root_after root edits = after_each edited_root root edits

-- A flattened image tree after edits, in the order in which they are made.
abbrev pub edited_tree : List Edit → ImageTree → ImageTree
edited_tree edits tree = with_plain_root (root_after (plain_root tree) (in_edit_order edits)) tree

-- ---- legacy images

-- A legacy image with this value of a field of its header.
abbrev pub with_field : FieldValue → LegacyImage → LegacyImage
with_field (field.Name name) image = record image { name = name.items }
with_field (field.Time time) image = record image { time = time }
with_field (field.Load load) image = record image { load = load }
with_field (field.Entry entry) image = record image { entry = entry }
with_field (field.Os code) image = record image { os = code }
with_field (field.Arch code) image = record image { arch = code }
with_field (field.Compression code) image = record image { compression = code }

-- Parts of which the first has this index, with other bytes in the one whose index in decimal
-- digits is this name.
abbrev pub with_part : (index : ℕ) → (name bytes : List ℕ) → List (List ℕ) → List (List ℕ)
with_part index name bytes [] = []
with_part index name bytes (part ∷ later) =
    if bytes_eq name (decimal index) then bytes ∷ later
    else part ∷ with_part (index + 1) name bytes later

-- A legacy image after an edit. It has no nodes, so it has no properties and no digests in hash
-- nodes.
abbrev pub edited_legacy : LegacyImage → Edit → LegacyImage
edited_legacy image (SetField value) = with_field value image
edited_legacy image (SetPayload part bytes) =
    record image { parts = with_part 0 part bytes.now image.parts }
edited_legacy image (SetTime time) = record image { time = time }
edited_legacy image other = image

-- A legacy image after edits, one after the other.
abbrev pub legacy_after : LegacyImage → List Edit → LegacyImage
legacy_after image edits = after_each edited_legacy image edits

-- ---- boot images

-- What a boot image means after edits.
abbrev pub meaning_after : List Edit → Meaning → Meaning
meaning_after edits (OfLegacy image) = OfLegacy (legacy_after image (in_edit_order edits))
meaning_after edits (OfFit tree) = OfFit (edited_tree edits tree)

-- ---- which edits can be made

-- A name is a number below 2^64, in decimal digits.
pub record IsPartNumber (name : List ℕ) : Type 0 where
  pub number : ℕ
  pub small : number < 2 ^ 64
  pub is : decimal number ≡ name

-- Whether one of these parts, of which the first has this index, has this number.
abbrev pub has_part : (index : ℕ) → (name : List ℕ) → List (List ℕ) → Bool
has_part index name [] = false
has_part index name (part ∷ later) =
    if bytes_eq name (decimal index) then true else has_part (index + 1) name later

-- An edit is of a flattened image tree.
abbrev pub IsOfTree : Edit → Type 0
IsOfTree (SetField value) = ⊥
IsOfTree edit = ⊤

-- An edit is of a legacy image.
abbrev pub IsOfLegacy : Edit → Type 0
IsOfLegacy (RemoveNode path) = ⊥
IsOfLegacy (RemoveProperty place) = ⊥
IsOfLegacy (SetProperty place value) = ⊥
IsOfLegacy (SetPayload part bytes) = IsPartNumber part
IsOfLegacy edit = ⊤

-- An edit is of a boot image of the kind that means this.
abbrev pub IsOfKind : Meaning → Edit → Type 0
IsOfKind (OfFit tree) edit = IsOfTree edit
IsOfKind (OfLegacy image) edit = IsOfLegacy edit

-- An edit adds nodes at a depth over a limit, or would if they were not there.
abbrev pub IsTooDeep : Limits → Edit → Type 0
IsTooDeep limits (SetProperty place value) = limits.depth ≤ length place.path
IsTooDeep limits edit = ⊥

-- An edit has nothing to remove, or no image to change.
abbrev pub FindsNothing : Root PropertyMap → Edit → Type 0
FindsNothing root (RemoveNode path) = node_by_path root path ≡ None
FindsNothing root (RemoveProperty place) = value_by_path root place.path place.name ≡ None
FindsNothing root (SetPayload image payload) = node_by_path root (image_path image) ≡ None
FindsNothing root edit = ⊥

-- This is the first of these edits that finds nothing.
abbrev pub IsFirstRefused : Root PropertyMap → List Edit → Edit → Type 0
IsFirstRefused root edits refused = IsFirstRefusedBy FindsNothing edited_root root edits refused

-- None of these edits finds nothing.
abbrev pub AllFind : Root PropertyMap → List Edit → Type 0
AllFind root edits = NoneIsRefusedBy FindsNothing edited_root root edits

-- The part of an edit of a legacy image is not there.
abbrev pub LacksPart : LegacyImage → Edit → Type 0
LacksPart image (SetPayload part bytes) = has_part 0 part image.parts ≡ false
LacksPart image edit = ⊥

-- This is the first of these edits of a legacy image whose part is not there.
abbrev pub IsFirstWithoutPart : LegacyImage → List Edit → Edit → Type 0
IsFirstWithoutPart image edits refused =
    IsFirstRefusedBy LacksPart edited_legacy image edits refused

-- The part of each of these edits is there.
abbrev pub AllHaveParts : LegacyImage → List Edit → Type 0
AllHaveParts image edits = NoneIsRefusedBy LacksPart edited_legacy image edits

-- What each of these edits of a boot image is of is there.
abbrev pub AllFindIn : Meaning → List Edit → Type 0
AllFindIn (OfLegacy image) edits = AllHaveParts image (in_edit_order edits)
AllFindIn (OfFit tree) edits = AllFind (plain_root tree) (in_edit_order edits)

-- This is the first of these edits of a boot image, in the order in which they are made, that finds
-- nothing to remove, no image or no part.
abbrev pub IsFirstRefusedIn : Meaning → List Edit → Edit → Type 0
IsFirstRefusedIn (OfLegacy image) edits refused =
    IsFirstWithoutPart image (in_edit_order edits) refused
IsFirstRefusedIn (OfFit tree) edits refused =
    IsFirstRefused (plain_root tree) (in_edit_order edits) refused
