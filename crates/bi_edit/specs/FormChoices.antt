use Rattle.std.specs.Prelude.{◌≡◌, ◌≢◌, ℕ, List, [], map, max, Option, Some}
use Rattle.bi_base.specs.declared.align.Align.{Align}
use Rattle.bi_base.specs.Aligns.{align_bytes}
use Rattle.bi_blob.specs.Tree.{Nodes, FileNode}
use Rattle.bi_fit.specs.declared.form.Form.{Form}
use Rattle.bi_fit.specs.declared.form.Form.TheVariants.{Embedded, Aligned}
use Rattle.bi_fit.specs.File.{IsFitFile}
use Rattle.bi_fit.specs.ImageTree.{ImageTree}
use Rattle.bi_fit.specs.Kept.{IsAlignmentOf, PlacedPayload, places_of_nodes, placed_payloads}
use Rattle.bi_norm.specs.Meaning.{Meaning, OfLegacy, OfFit}
use Rattle.bi_edit.specs.declared.form_choice.FormChoice.{FormChoice}
use Rattle.bi_edit.specs.declared.form_choice.FormChoice.TheVariants as choice

-- The form of the text of an edited boot image (profile of this project).

-- The payloads of image nodes of a file that are not empty and that `data-offset` or
-- `data-position` gives. Where a text has them plays no part: their offsets in it are 0.
abbrev pub placed_in : (file : List ℕ) → Nodes FileNode → List (Option (List ℕ))
    → List PlacedPayload
placed_in file nodes payloads =
    placed_payloads (places_of_nodes file nodes) payloads (map (λ payload. Some 0) payloads)

-- The form keeps payloads where they are: inside the blob if there are none of these, and else
-- after it with the alignment that they have in the file, or 4 if that is less.
pub data IsFormOfPlaced (placed : List PlacedPayload) (form : Form) : Type 0 where
  Inside : placed ≡ [] → form ≡ Embedded → IsFormOfPlaced placed form
  Outside : placed ≢ [] → (align : Align) (bytes : ℕ) → IsAlignmentOf placed bytes
      → align_bytes align ≡ max bytes 4 → form ≡ Aligned align → IsFormOfPlaced placed form

-- The form of a file that means this tree.
pub record IsFormOfFile (file : List ℕ) (tree : ImageTree) (form : Form) : Type 0 where
  pub is_file : IsFitFile file tree
  pub is_form : IsFormOfPlaced (placed_in file is_file.images tree.payloads) form

-- The form of a choice, for a file that means this. For a legacy image it has no effect.
abbrev pub IsChosenForm : FormChoice → (file : List ℕ) → Meaning → Form → Type 0
IsChosenForm (choice.Given given) file meaning form = form ≡ given
IsChosenForm choice.Keep file (OfLegacy image) form = form ≡ Embedded
IsChosenForm choice.Keep file (OfFit tree) form = IsFormOfFile file tree form
