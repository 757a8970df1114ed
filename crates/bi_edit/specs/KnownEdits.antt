use Rattle.std.specs.Prelude.{◌≡◌, ℕ, List, [], ◌∷◌, codes, Some, None, Vec}
use Rattle.std.specs.Borrow.{Bor}
use Rattle.std.specs.FinMap.{empty, insert}
use Rattle.std.specs.declared.alloc.Global.{Global}
use Rattle.bi_base.specs.Cells.{cell}
use Rattle.bi_blob.specs.Tree.{none, node, Root, PropertyMap}
use Rattle.bi_fit.specs.ImageTree.{ImageTree}
use Rattle.bi_fit.specs.Names.{data_name, images_name, timestamp_name}
use Rattle.bi_legacy.specs.Meaning.{LegacyImage}
use Rattle.bi_norm.specs.Meaning.{OfFit, OfLegacy}
use Rattle.bi_edit.specs.declared.edit.Edit.TheVariants.{RemoveNode, RemoveProperty, SetProperty}
use Rattle.bi_edit.specs.declared.edit.Edit.TheVariants.{SetField, SetPayload, SetTime, SetDigests}
use Rattle.bi_edit.specs.declared.applying.ApplyError.TheVariants as error
use Rattle.bi_edit.specs.declared.edit.FieldValue.TheVariants as field
use Rattle.bi_edit.specs.Edits.{edited_root, edited_legacy, in_edit_order}
use Rattle.bi_edit.specs.Applying.{IsApplyError}
use Rattle.bi_edit.specs.Edits.{AllFind, FindsNothing, IsFirstRefused, IsOfKind, LacksPart}
use Rattle.bi_edit.specs.Edits.{root_after}
use Rattle.bi_edit.specs.Places.{PropertyPlaceModel, IsPlace, IsRemovable, image_path, images_path}
use Rattle.bi_edit.specs.Places.{names_of_path}
use Rattle.bi_plain.specs.Plain.{plain_root}

-- A small tree and what it is after edits, by which a reader can judge the definitions.

-- The plain tree: the image `a` has a payload, the image `b` has none.
abbrev pub board : (payload : List ℕ) → Root PropertyMap
board payload = record {
  own = empty;
  children = node images_name empty
      (node (codes "a") (insert empty data_name payload)
      (node (codes "x") empty none none)
      (node (codes "b") empty none none))
      (node (codes "configurations") empty none none);
}

-- The same, as a flattened image tree.
abbrev pub board_tree : (payload : List ℕ) → ImageTree
board_tree payload = record {
  cpu = 0;
  reservations = [];
  root = record {
    own = empty;
    children = node images_name empty
        (node (codes "a") empty
        (node (codes "x") empty none none)
        (node (codes "b") empty none none))
        (node (codes "configurations") empty none none);
  };
  payloads = Some payload ∷ None ∷ [];
}

-- A property of a new node below a new image.
abbrev pub new_place : PropertyPlaceModel
new_place = record {
  path = images_name ∷ codes "z" ∷ codes "hash-1" ∷ [];
  name = codes "algo";
}

-- What each edit makes of the tree, whatever the payload and the value are.
pub record EditsAreKnown : Type 0 where
  pub plain : (payload : List ℕ) → plain_root (board_tree payload) ≡ board payload
  pub removal : (payload : List ℕ)
      → edited_root (board payload) (RemoveNode (image_path (codes "a")))
      ≡ record {
        own = empty;
        children = node images_name empty (node (codes "b") empty none none)
            (node (codes "configurations") empty none none);
      }
  pub setting : (payload : List ℕ) (value : Vec ℕ Global)
      → edited_root (board payload) (SetProperty new_place value)
      ≡ record {
        own = empty;
        children = node images_name empty
            (node (codes "a") (insert empty data_name payload)
            (node (codes "x") empty none none)
            (node (codes "b") empty none
            (node (codes "z") empty
            (node (codes "hash-1") (insert empty (codes "algo") value.items) none none)
            none)))
            (node (codes "configurations") empty none none);
      }
  pub payload : (old : List ℕ) (new : Bor (List ℕ))
      → edited_root (board old) (SetPayload (codes "b") new)
      ≡ record {
        own = empty;
        children = node images_name empty
            (node (codes "a") (insert empty data_name old)
            (node (codes "x") empty none none)
            (node (codes "b") (insert empty data_name new.now) none none))
            (node (codes "configurations") empty none none);
      }
  pub time : (payload : List ℕ) → edited_root (board payload) (SetTime 5)
      ≡ record {
        own = insert empty timestamp_name (cell 5);
        children = (board payload).children;
      }
  pub both : (payload : List ℕ)
      → root_after (board payload)
      (RemoveNode (image_path (codes "a")) ∷ RemoveNode (image_path (codes "b")) ∷ [])
      ≡ record {
        own = empty;
        children = node images_name empty none
            (node (codes "configurations") empty none none);
      }
  pub names : (first second : Vec ℕ Global)
      → names_of_path (first ∷ second ∷ []) ≡ first.items ∷ second.items ∷ []

-- Edits are made in their order, whatever their order in a list.
pub record OrderIsKnown : Type 0 where
  pub order : (value : Vec ℕ Global) (payload : Bor (List ℕ))
      → in_edit_order
      (SetDigests ∷ SetTime 5 ∷ SetPayload (codes "z") payload ∷ SetProperty new_place value
      ∷ RemoveProperty new_place ∷ SetField (field.Time 1) ∷ RemoveNode (image_path (codes "a"))
      ∷ [])
      ≡ RemoveProperty new_place ∷ RemoveNode (image_path (codes "a"))
      ∷ SetProperty new_place value ∷ SetField (field.Time 1) ∷ SetPayload (codes "z") payload
      ∷ SetTime 5 ∷ SetDigests ∷ []

-- A legacy image of two parts.
abbrev pub two_part_image : (time : ℕ) → (first second : List ℕ) → LegacyImage
two_part_image time first second = record {
  time = time;
  load = 0;
  entry = 0;
  os = 5;
  arch = 2;
  image_type = 4;
  compression = 0;
  name = codes "k";
  parts = first ∷ second ∷ [];
}

-- What edits make of it. A later time counts.
pub record LegacyEditsAreKnown : Type 0 where
  pub time : (one other : List ℕ) → edited_legacy (two_part_image 1 one other) (SetTime 5)
      ≡ two_part_image 5 one other
  pub field : (one other : List ℕ)
      → edited_legacy (two_part_image 1 one other) (SetField (field.Time 5))
      ≡ two_part_image 5 one other
  pub part : (one other : List ℕ) (new : Bor (List ℕ))
      → edited_legacy (two_part_image 1 one other) (SetPayload (codes "1") new)
      ≡ two_part_image 1 one new.now
  pub no_part : (one other : List ℕ) (new : Bor (List ℕ))
      → LacksPart (two_part_image 1 one other) (SetPayload (codes "2") new)
  pub no_number : (one other : List ℕ) (new : Bor (List ℕ))
      → LacksPart (two_part_image 1 one other) (SetPayload (codes "01") new)

-- Which edits are refused.
pub record EditRefusalsAreKnown : Type 0 where
  pub no_node : (payload : List ℕ)
      → FindsNothing (board payload) (RemoveNode (image_path (codes "c")))
  pub no_image : (payload : List ℕ) (new : Bor (List ℕ))
      → FindsNothing (board payload) (SetPayload (codes "c") new)
  pub removed_twice : (payload : List ℕ)
      → IsFirstRefused (board payload)
      (RemoveNode (image_path (codes "a")) ∷ RemoveNode (image_path (codes "a")) ∷ [])
      (RemoveNode (image_path (codes "a")))
  pub all_find : (payload : List ℕ)
      → AllFind (board payload)
      (RemoveNode (image_path (codes "a")) ∷ RemoveNode (image_path (codes "b")) ∷ [])
  pub second_finds_nothing : (payload : List ℕ)
      → ¬ (AllFind (board payload)
      (RemoveNode (image_path (codes "a")) ∷ RemoveNode (image_path (codes "a")) ∷ []))
  pub index : IsApplyError (λ edit. edit ≡ SetTime 5) (SetDigests ∷ SetTime 5 ∷ [])
      (error.FindsNothing 1)
  pub other_index : ¬ (IsApplyError (λ edit. edit ≡ SetTime 5) (SetDigests ∷ SetTime 5 ∷ [])
      (error.FindsNothing 0))
  pub no_field : (tree : ImageTree) → IsOfKind (OfFit tree) (SetField (field.Time 1)) → ⊥
  pub no_nodes : (image : LegacyImage) → IsOfKind (OfLegacy image) (RemoveNode images_path) → ⊥
  pub root_stays : IsRemovable [] → ⊥
  pub images_stay : IsRemovable images_path → ⊥
  pub no_payload : IsPlace (record { path = image_path (codes "a"); name = data_name }) → ⊥
