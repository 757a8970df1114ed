use Rattle.std.specs.Prelude.{◌≡◌, ℕ, true, false, List, [], ◌∷◌, Option, Some, None}
use Rattle.bi_blob.specs.Layout.{in_byte_order}
use Rattle.bi_blob.specs.Tree.{Root, Property}
use Rattle.bi_fit.specs.declared.changes.Changes.{Changes}
use Rattle.bi_fit.specs.KnownUpdates.{tree_to_update, nodes_after_update}
use Rattle.bi_legacy.specs.KnownImages.{firmware_image}
use Rattle.bi_norm.specs.Meaning.{Meaning, OfLegacy, OfFit}
use Rattle.bi_commands.specs.UpdatedFiles.{updated_meaning}

-- Small boot images with what they mean after an update, by which a reader can judge the
-- definitions.

-- No change, an update of the time, and one of the digests.
abbrev pub no_changes : Changes
no_changes = record { time = None; hashes = false }

abbrev pub only_time : (time : ℕ) → Changes
only_time time = record { time = Some time; hashes = false }

abbrev pub only_hashes : Changes
only_hashes = record { time = None; hashes = true }

-- The nodes of a flattened image tree, with the properties of each in byte order.
abbrev pub nodes_of_meaning : Meaning → Option (Root (List Property))
nodes_of_meaning (OfLegacy image) = None
nodes_of_meaning (OfFit tree) = Some (in_byte_order tree.root)

-- What a firmware image of time 1 and a tree of time 1 mean after an update of the time, one of the
-- digests, and one of both. A legacy image has no digests to update. The CRC-32 of the payload is
-- 0x352441c2.
pub record UpdatedMeaningsAreKnown : Type 0 where
  pub legacy_time : updated_meaning (only_time 5) (OfLegacy firmware_image)
      ≡ OfLegacy (record firmware_image { time = 5 })
  pub legacy_hashes : updated_meaning only_hashes (OfLegacy firmware_image)
      ≡ OfLegacy firmware_image
  pub legacy_both :
      updated_meaning (record { time = Some 0; hashes = true }) (OfLegacy firmware_image)
      ≡ OfLegacy (record firmware_image { time = 0 })
  pub tree_time : nodes_of_meaning (updated_meaning (only_time 5) (OfFit tree_to_update))
      ≡ Some (nodes_after_update 5 (1 ∷ 2 ∷ 3 ∷ []))
  pub tree_hashes : nodes_of_meaning (updated_meaning only_hashes (OfFit tree_to_update))
      ≡ Some (nodes_after_update 1 (0x35 ∷ 0x24 ∷ 0x41 ∷ 0xc2 ∷ []))
  pub tree_both : nodes_of_meaning
      (updated_meaning (record { time = Some 0; hashes = true }) (OfFit tree_to_update))
      ≡ Some (nodes_after_update 0 (0x35 ∷ 0x24 ∷ 0x41 ∷ 0xc2 ∷ []))
