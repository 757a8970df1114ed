use Rattle.std.specs.Prelude.{◌≡◌, ℕ, List, [], map}
use Rattle.bi_base.specs.Limits.{Limits}
use Rattle.bi_legacy.specs.Meaning.{image_of}
use Rattle.bi_fit.specs.ImageTree.{ImageTree}
use Rattle.bi_norm.specs.Meaning.{Meaning, OfLegacy, OfFit}
use Rattle.bi_common.specs.declared.format.Format.{Format}
use Rattle.bi_common.specs.JsonTokens.{JsonToken, json_tokens}
use Rattle.bi_common.specs.Lines.{Line}
use Rattle.bi_describe.specs.declared.describe.DescribedImage.{DescribedImage}
use Rattle.bi_describe.specs.declared.describe.DescribedImage.TheVariants.{Legacy, Fit}
use Rattle.bi_describe.specs.declared.describe.fit.DescribedFit.{DescribedFit}
use Rattle.bi_describe.specs.DescriptionJson.{meaning_object}
use Rattle.bi_describe.specs.Descriptions.{description_lines}
use Rattle.bi_describe.specs.Describing.{CanBeDescribed, description_text}
use Rattle.bi_describe.specs.MadeParts.{bytes_of_parts, digest_of_part}
use Rattle.bi_describe.specs.ReadDescription.{read_legacy_lines, read_legacy_tokens, read_lines}
use Rattle.bi_describe.specs.ReadDescription.{read_tokens}
use Rattle.bi_describe.specs.TreeEntries.{as_entry, tree_entries}

-- What the description of a boot image is made from.

-- Its lines and its tokens.
abbrev pub described_lines : DescribedImage → List Line
described_lines (Legacy image) =
    read_legacy_lines (image_of image.fields []) (map digest_of_part image.parts.items)
described_lines (Fit fit) = read_lines fit.blob.now (map as_entry fit.entries.items)

abbrev pub described_tokens : DescribedImage → List JsonToken
described_tokens (Legacy image) =
    read_legacy_tokens (image_of image.fields []) (map digest_of_part image.parts.items)
described_tokens (Fit fit) = read_tokens fit.blob.now (map as_entry fit.entries.items)

-- It has all of a flattened image tree.
pub record HoldsDescribedTree (tree : ImageTree) (described : DescribedFit) : Type 0 where
  pub cpu : described.blob.now.cpu ≡ tree.cpu
  pub reservations : described.blob.now.reservations ≡ tree.reservations
  pub entries : map as_entry described.entries.items ≡ tree_entries tree

-- It has all of a meaning.
abbrev pub HoldsMeaning : Meaning → DescribedImage → Type 0
HoldsMeaning (OfLegacy image) (Legacy described) =
    image_of described.fields (bytes_of_parts described.parts.items) ≡ image
HoldsMeaning (OfFit tree) (Fit described) = HoldsDescribedTree tree described
HoldsMeaning meaning described = ⊥

-- It is what the description of a meaning is made from.
pub record IsDescribed (meaning : Meaning) (described : DescribedImage) : Type 0 where
  pub holds : HoldsMeaning meaning described
  pub lines : described_lines described ≡ description_lines meaning
  pub tokens : described_tokens described ≡ json_tokens (meaning_object meaning)

-- The text is the description of a meaning, in a form, which is described within these limits.
pub record IsDescriptionOf (format : Format) (limits : Limits) (meaning : Meaning) (text : List ℕ)
    : Type 0
  where
    pub within : CanBeDescribed format limits meaning
    pub is_text : text ≡ description_text format meaning
