use Rattle.std.specs.Prelude.{◌≡◌, ◌↔◌, ℕ, ◌^◌, ◌≤◌, ◌%◌, Bool, true, false, List, [], ◌∷◌}
use Rattle.std.specs.Prelude.{◌++◌, map, filter, length, Option, Some, None}
use Rattle.std.specs.List.{AllByRecursion}
use Rattle.bi_blob.specs.Tree.{Nodes, FileNode}
use Rattle.bi_fit.specs.declared.form.Form.{Form}
use Rattle.bi_fit.specs.declared.form.Form.TheVariants.{External}
use Rattle.bi_fit.specs.declared.image.Place.{Place}
use Rattle.bi_fit.specs.declared.image.Place.TheVariants.{DataOffset, DataPosition}
use Rattle.bi_fit.specs.declared.kept.Kept.{Kept}
use Rattle.bi_fit.specs.ImageTree.{ImageTree, each_own}
use Rattle.bi_fit.specs.Payloads.{source_of}
use Rattle.bi_fit.specs.File.{IsFitFile}
use Rattle.bi_fit.specs.Text.{blob_of, payload_places}
use Rattle.bi_fit.specs.Content.{place_of}

-- What the text of a file in the form External keeps of where the payloads of the file are (profile
-- of this project). It does not belong to the meaning of a file.

-- A payload that is not empty and that `data-offset` or `data-position` of a file gives.
pub record PlacedPayload : Type 0 where
  -- The offset of its first byte in the file, and in the text.
  pub old_offset : ℕ
  pub new_offset : ℕ
  -- Whether `data-position` gives it.
  pub has_position : Bool

-- The payload of one image, as a list of none or one: by its place in the file and its offset in
-- the text. An empty payload is left out, and so is the value of a property `data`.
abbrev pub payload_if_placed : Place → Option (List ℕ) → Option ℕ → List PlacedPayload
payload_if_placed (DataOffset old) (Some (byte ∷ later)) (Some new) =
    record { old_offset = old; new_offset = new; has_position = false } ∷ []
payload_if_placed (DataPosition old) (Some (byte ∷ later)) (Some new) =
    record { old_offset = old; new_offset = new; has_position = true } ∷ []
payload_if_placed place payload new = []

-- Those of images, in their order.
abbrev pub placed_payloads : List Place → List (Option (List ℕ)) → List (Option ℕ)
    → List PlacedPayload
placed_payloads (place ∷ places) (payload ∷ payloads) (new ∷ news) =
    payload_if_placed place payload new ++ placed_payloads places payloads news
placed_payloads places payloads news = []

-- Where the payloads of image nodes of a file are.
abbrev pub places_of_nodes : (file : List ℕ) → Nodes FileNode → List Place
places_of_nodes file nodes = map (λ own. place_of file (source_of own)) (each_own nodes)

-- The offset in the text of a tree in the form External of each of its payloads.
abbrev pub external_places : ImageTree → List (Option ℕ)
external_places tree = payload_places 4 (length (blob_of External tree)) 0 tree.payloads

-- A power of two from 1 to 1048576.
pub record IsPower (bytes : ℕ) : Type 0 where
  pub exponent : ℕ
  pub most : exponent ≤ 20
  pub is_power : bytes ≡ 2 ^ exponent

-- Each of these payloads is at a multiple of a number of bytes in the file.
abbrev pub AreAlignedInFile : (bytes : ℕ) → List PlacedPayload → Type 0
AreAlignedInFile bytes placed = AllByRecursion (λ payload. payload.old_offset % bytes ≡ 0) placed

-- Each of these payloads is at a multiple of a number of bytes in the text.
abbrev pub AreAlignedInText : (bytes : ℕ) → List PlacedPayload → Type 0
AreAlignedInText bytes placed = AllByRecursion (λ payload. payload.new_offset % bytes ≡ 0) placed

-- This is the alignment that payloads have in the file: the greatest power of two up to 1048576
-- that divides the offset of each.
pub record IsAlignmentOf (placed : List PlacedPayload) (bytes : ℕ) : Type 0 where
  pub is_power : IsPower bytes
  pub divides : AreAlignedInFile bytes placed
  pub greatest : (other : ℕ) → IsPower other → AreAlignedInFile other placed → other ≤ bytes

-- Payloads have this alignment in the file, and not all of them have it in the text. So there is at
-- least one of them.
pub record LosesAlignment (placed : List PlacedPayload) (bytes : ℕ) : Type 0 where
  pub is_alignment : IsAlignmentOf placed bytes
  pub is_lost : ¬ (AreAlignedInText bytes placed)

-- What a text in the form External keeps of these payloads: the alignment that they lose, if they
-- lose one, and how many of them `data-position` gives.
pub record IsKeptOf (placed : List PlacedPayload) (kept : Kept) : Type 0 where
  pub alignment : (bytes : ℕ) → (kept.lost_alignment ≡ Some bytes) ↔ LosesAlignment placed bytes
  pub positions : kept.lost_positions ≡ length (filter (λ payload. payload.has_position) placed)

-- Nothing is said of payloads.
pub record SaysNothing (kept : Kept) : Type 0 where
  pub alignment : kept.lost_alignment ≡ None
  pub positions : kept.lost_positions ≡ 0

-- What the text of `new` in the form External keeps of the payloads of a file that means `old`. The
-- payloads of both are the same.
pub record IsKeptOfFile (file : List ℕ) (old new : ImageTree) (kept : Kept) : Type 0 where
  pub is_file : IsFitFile file old
  pub is_kept : IsKeptOf
      (placed_payloads (places_of_nodes file is_file.images) old.payloads (external_places new))
      kept

-- What the text of `new` in a form keeps of the payloads of a file that means `old`. In any
-- other form nothing is said of them.
abbrev pub IsKept : Form → (file : List ℕ) → (old new : ImageTree) → Kept → Type 0
IsKept External file old new kept = IsKeptOfFile file old new kept
IsKept form file old new kept = SaysNothing kept
