use Rattle.std.specs.Prelude.{◌≡◌, ◌↔◌, ◌&&◌, ℕ, Bool, true, false, List, [], ◌∷◌, map, filter}
use Rattle.std.specs.Prelude.{length, Option, Some, None, is_some, option_and_then}
use Rattle.bi_blob.specs.Lookups.{Sibling, node_named}
use Rattle.bi_blob.specs.Tree.{Nodes, FileNode}
use Rattle.bi_fit.specs.declared.form.Form.TheVariants.{Embedded, External, Aligned}
use Rattle.bi_fit.specs.declared.image.Place.{Place}
use Rattle.bi_fit.specs.declared.image.Place.TheVariants.{Absent, DataOffset, DataPosition}
use Rattle.bi_fit.specs.Content.{place_of}
use Rattle.bi_fit.specs.File.{IsFitFile}
use Rattle.bi_fit.specs.ImageTree.{ImageTree}
use Rattle.bi_fit.specs.Judgement.{Image, image_named, images_of, signature_count}
use Rattle.bi_fit.specs.Kept.{LosesAlignment, PlacedPayload, SaysNothing, external_places}
use Rattle.bi_fit.specs.Kept.{placed_payloads}
use Rattle.bi_fit.specs.Payloads.{source_of}
use Rattle.bi_norm.specs.Meaning.{Meaning, OfFit}
use Rattle.bi_edit.specs.declared.edit_notes.EditNotes.{EditNotes}
use Rattle.bi_edit.specs.declared.form_choice.FormChoice.{FormChoice}
use Rattle.bi_edit.specs.declared.form_choice.FormChoice.TheVariants as choice

-- What a user should know after an edit (profile of this project).

-- Where a file has the payload of an image node, if it has one.
abbrev pub place_of_node : (file : List ℕ) → Option (Sibling FileNode) → Place
place_of_node file None = Absent
place_of_node file (Some image) = place_of file (source_of image.own)

-- Where the payload of an image is in the file of an old tree, by the name of the image.
abbrev pub old_place : (file : List ℕ) → Nodes FileNode → Image → Place
old_place file nodes image = place_of_node file (node_named nodes image.entry.name)

-- The payload that an image has in the old tree, by its name.
abbrev pub old_payload : ImageTree → Image → Option (List ℕ)
old_payload old image =
    option_and_then (λ before. before.payload) (image_named image.entry.name (images_of old))

-- The payloads of a file that are not empty and that `data-offset` or `data-position` gives, of the
-- images that have a payload in a new tree, too. They are in the order of the new tree. The file
-- means the old one and has these image nodes.
abbrev pub still_placed : (file : List ℕ) → Nodes FileNode → (old new : ImageTree)
    → List PlacedPayload
still_placed file nodes old new =
    placed_payloads (map (old_place file nodes) (images_of new))
    (map (old_payload old) (images_of new)) (external_places new)

-- Whether there is a payload, and it is not empty.
abbrev pub is_not_empty : Option (List ℕ) → Bool
is_not_empty None = false
is_not_empty (Some []) = false
is_not_empty (Some (byte ∷ later)) = true

-- Whether `data-position` gives a place, and whether it or `data-offset` does.
abbrev pub is_fixed : Place → Bool
is_fixed (DataPosition offset) = true
is_fixed place = false

abbrev pub is_outside : Place → Bool
is_outside (DataOffset offset) = true
is_outside place = is_fixed place

-- Whether an image of a new tree has a payload that is not empty, and that was not empty in the
-- file, where `data-offset` or `data-position` gave it.
abbrev pub comes_inside : (file : List ℕ) → Nodes FileNode → (old : ImageTree) → Image → Bool
comes_inside file nodes old image =
    is_outside (old_place file nodes image)
    && (is_not_empty (old_payload old image) && is_not_empty image.payload)

-- How many such images there are.
abbrev pub inside_count : (file : List ℕ) → Nodes FileNode → (old new : ImageTree) → ℕ
inside_count file nodes old new =
    length (filter (comes_inside file nodes old) (images_of new))

-- Whether an image of a new tree has a payload that was not empty in the file, where
-- `data-position` gave it.
abbrev pub loses_position : (file : List ℕ) → Nodes FileNode → (old : ImageTree) → Image → Bool
loses_position file nodes old image =
    is_fixed (old_place file nodes image)
    && (is_not_empty (old_payload old image) && is_some image.payload)

-- How many such images there are.
abbrev pub position_count : (file : List ℕ) → Nodes FileNode → (old new : ImageTree) → ℕ
position_count file nodes old new =
    length (filter (loses_position file nodes old) (images_of new))

-- What is said of the payloads of a file after an edit, by the form of the text: in the form
-- Embedded, how many are inside the blob now; in the form External, the alignment and the positions
-- that they lose; if the form is that of the file, only the positions; and nothing if an alignment
-- was given.
abbrev pub SaysOfPayloads : FormChoice → (file : List ℕ) → Nodes FileNode → (old new : ImageTree)
    → EditNotes → Type 0
SaysOfPayloads (choice.Given Embedded) file nodes old new notes =
    SaysNothing notes.kept × (notes.inside ≡ inside_count file nodes old new)
SaysOfPayloads (choice.Given External) file nodes old new notes =
    ((bytes : ℕ) → (notes.kept.lost_alignment ≡ Some bytes)
    ↔ LosesAlignment (still_placed file nodes old new) bytes)
    × (notes.kept.lost_positions ≡ position_count file nodes old new)
    × (notes.inside ≡ 0)
SaysOfPayloads (choice.Given (Aligned align)) file nodes old new notes =
    SaysNothing notes.kept × (notes.inside ≡ 0)
SaysOfPayloads choice.Keep file nodes old new notes =
    (notes.kept.lost_alignment ≡ None)
    × (notes.kept.lost_positions ≡ position_count file nodes old new)
    × (notes.inside ≡ 0)

-- The notes after a flattened image tree was edited.
pub record AreTreeNotes (chosen : FormChoice) (file : List ℕ) (old new : ImageTree)
    (notes : EditNotes) : Type 0 where
  pub is_file : IsFitFile file old
  pub signatures : notes.kept.signatures ≡ signature_count new
  pub payloads : SaysOfPayloads chosen file is_file.images old new notes

-- Nothing is said, as after an edit of a legacy image.
pub record AreNoNotes (notes : EditNotes) : Type 0 where
  pub signatures : notes.kept.signatures ≡ 0
  pub kept : SaysNothing notes.kept
  pub inside : notes.inside ≡ 0

-- The notes after a boot image was edited.
abbrev pub AreEditNotes : FormChoice → (file : List ℕ) → (old new : Meaning) → EditNotes → Type 0
AreEditNotes chosen file (OfFit old) (OfFit new) notes = AreTreeNotes chosen file old new notes
AreEditNotes chosen file old new notes = AreNoNotes notes
