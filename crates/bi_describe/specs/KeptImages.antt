use Rattle.std.specs.Prelude.{◌≡◌, ℕ, IsAscii, List, [], map}
use Rattle.std.specs.Option.{option_map}
use Rattle.bi_legacy.specs.Meaning.{image_of}
use Rattle.bi_common.specs.Lines.{text_of_lines}
use Rattle.bi_describe.specs.declared.describe.kept.KeptImage.{KeptImage}
use Rattle.bi_describe.specs.declared.describe.kept.KeptImage.TheVariants.{Legacy, Fit}
use Rattle.bi_describe.specs.declared.describe.kept.legacy.KeptLegacy.{KeptLegacy}
use Rattle.bi_describe.specs.declared.describe.kept.legacy.KeptPart.{KeptPart}
use Rattle.bi_describe.specs.declared.describe.kept.tree.KeptFit.{KeptFit}
use Rattle.bi_describe.specs.KeptEntries.{root_entries}
use Rattle.bi_describe.specs.ReducedMeanings.{ReducedLegacy, ReducedMeaning, ReducedTree}
use Rattle.bi_describe.specs.ReducedMeanings.{OfReducedLegacy, OfReducedTree, fields_alone}
use Rattle.bi_describe.specs.ReducedMeanings.{reduced_lines}
use Rattle.bi_describe.specs.TreeEntries.{as_entry}

-- What stays of a boot image, as the code has it.

-- A part with its index.
abbrev pub numbered_part : KeptPart → ℕ × List ℕ
numbered_part part = (part.index, part.part.bytes.now)

-- This is what stays of a legacy image.
pub record IsKeptLegacy (reduced : ReducedLegacy) (image : KeptLegacy) : Type 0 where
  pub fields : fields_alone (image_of image.fields []) ≡ reduced.fields
  pub time : image.time ≡ reduced.time
  pub parts : map numbered_part image.parts.items ≡ reduced.parts

-- This is what stays of a flattened image tree.
pub record IsKeptTree (reduced : ReducedTree) (fit : KeptFit) : Type 0 where
  pub cpu : fit.blob.now.cpu ≡ reduced.cpu
  pub reservations : fit.blob.now.reservations ≡ reduced.reservations
  pub entries : option_map (λ entries. map as_entry entries.items) fit.entries
      ≡ root_entries reduced.root

-- This is what stays of a meaning.
abbrev pub IsKeptImage : ReducedMeaning → KeptImage → Type 0
IsKeptImage (OfReducedLegacy reduced) (Legacy image) = IsKeptLegacy reduced image
IsKeptImage (OfReducedTree reduced) (Fit fit) = IsKeptTree reduced fit
IsKeptImage reduced image = ⊥

-- This is what stays of a meaning, and its lines are ASCII.
pub record IsKeptAscii (image : KeptImage) : Type 0 where
  pub meaning : ReducedMeaning
  pub is_kept : IsKeptImage meaning image
  pub ascii : IsAscii (text_of_lines (reduced_lines meaning))
