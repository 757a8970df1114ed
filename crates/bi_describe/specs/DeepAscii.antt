use Rattle.std.specs.Prelude.{IsAscii, List, Option}
use Rattle.std.specs.Borrow.{Bor}
use Rattle.bi_common.specs.Lines.{text_of_lines}
use Rattle.bi_describe.specs.declared.describe.deep.DeepImage.{DeepImage}
use Rattle.bi_describe.specs.declared.describe.insides.Insides.{Insides}
use Rattle.bi_describe.specs.declared.describe.kept.KeptImage.{KeptImage}
use Rattle.bi_describe.specs.declared.ignored.PayloadPlace.{PayloadPlace as MadePlace}
use Rattle.bi_describe.specs.DeepDescriptions.{deep_lines, lines_with_inside}
use Rattle.bi_describe.specs.Devicetrees.{DeepMeaning}
use Rattle.bi_describe.specs.Ignoring.{PayloadPlace}
use Rattle.bi_describe.specs.KeptImages.{IsKeptImage}
use Rattle.bi_describe.specs.MadeInsides.{HoldInsides, HoldsDeep, shown_by}
use Rattle.bi_describe.specs.ReducedMeanings.{ReducedMeaning, ReducedTree, reduced_lines}

-- Lines with what is inside, as the code has them, which are ASCII.

-- The code has a meaning with what is inside, and its lines are ASCII.
pub record IsAsciiDeep (made : DeepImage) : Type 0 where
  pub deep : DeepMeaning
  pub holds : HoldsDeep deep made
  pub ascii : IsAscii (text_of_lines (deep_lines deep))

-- The code has what stays of a meaning and of what is inside, and its lines are ASCII.
pub record IsAsciiShown (image : KeptImage) (insides : Insides) (opened : List (Bor MadePlace))
    : Type 0
  where
    pub meaning : ReducedMeaning
    pub trees : PayloadPlace → Option ReducedTree
    pub is_kept : IsKeptImage meaning image
    pub are_held : HoldInsides trees insides
    pub ascii : IsAscii
        (text_of_lines (lines_with_inside (shown_by trees opened) (reduced_lines meaning)))
