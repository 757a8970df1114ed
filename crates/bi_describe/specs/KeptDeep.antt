use Rattle.std.specs.Prelude.{List}
use Rattle.bi_base.specs.Limits.{Limits}
use Rattle.bi_norm.specs.Meaning.{Meaning}
use Rattle.bi_describe.specs.declared.compare.deep.KeptDeep.{KeptDeep}
use Rattle.bi_describe.specs.declared.compare.kept_lines.KeptLines.{KeptLines}
use Rattle.bi_describe.specs.DeepComparing.{IsDescribedDeep, deep_of}
use Rattle.bi_describe.specs.DeepDescriptions.{deep_lines}
use Rattle.bi_describe.specs.Devicetrees.{DeepMeaning}
use Rattle.bi_describe.specs.Ignoring.{Ignored}
use Rattle.bi_describe.specs.KeptImages.{IsKeptImage}
use Rattle.bi_describe.specs.KeptLines.{KeepsLines}
use Rattle.bi_describe.specs.MadeInsides.{HoldInsides}
use Rattle.bi_describe.specs.OpenedPayloads.{tree_at_without}
use Rattle.bi_describe.specs.ReducedMeanings.{meaning_without}

-- What stays of a boot image and of what is inside its payloads, as the code has it.

-- This is what stays of a meaning once these words are left out.
pub record KeepsDeep (words : List Ignored) (deep : DeepMeaning) (kept : KeptDeep) : Type 0 where
  pub is_kept : IsKeptImage (meaning_without words deep.meaning) kept.image
  pub are_held : HoldInsides (tree_at_without words deep.insides) kept.insides

-- A meaning can be described with what is inside, within limits, and the lines of this are kept.
pub record KeepsDeepLines (limits : Limits) (meaning : Meaning) (kept : KeptLines) : Type 0 where
  pub described : IsDescribedDeep limits meaning
  pub keeps : KeepsLines (deep_lines (deep_of described)) kept
