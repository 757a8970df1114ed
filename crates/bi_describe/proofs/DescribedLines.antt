use Rattle.std.proofs.Common.{Contains, List, [], ◌∷◌}
use Rattle.std.specs.List.{AllByRecursion}
use Rattle.bi_base.proofs.ListMembers.{Contains-first, Contains-others, each-contains, each-weaker}
use Rattle.bi_common.specs.Lines.{Line}
use Rattle.bi_describe.specs.Descriptions.{description_lines}
use Rattle.bi_describe.specs.IgnoringLaws.{LinesThatStayAreDescribed}
use Rattle.bi_describe.specs.ReducedMeanings.{meaning_without, reduced_lines}
use Rattle.bi_describe.proofs.LinesThatStay.{lines_stay}

-- A line that stays is one of the description.

-- Each element of a list is one of them.
own_elements : {X : Type 0} (xs : List X) → AllByRecursion (Contains xs) xs
own_elements [] = tt
own_elements (first ∷ later) = (
  Contains-first first later,
  each-weaker (Contains later) (Contains (first ∷ later)) (λ x has. Contains-others first later x has) later (own_elements later),
)

pub lines_that_stay_are_described : LinesThatStayAreDescribed
lines_that_stay_are_described words meaning line has =
    let lines : List Line = description_lines meaning in
    each-contains (Contains lines) (reduced_lines (meaning_without words meaning)) line
    (lines_stay (Contains lines) words meaning (own_elements lines)) has
