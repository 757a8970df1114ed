use Rattle.std.proofs.Common.{◌≡◌, ◌++◌, length, map}
use Rattle.bi_fit.specs.Judgement.{listed_names}
use Rattle.bi_common.specs.Shown.{shown_text}
use Rattle.bi_show.specs.Rows.{cells_of_row}
use Rattle.bi_show.proofs.show.cells.names.listed_cell.Given as goal

-- The names before the remaining ones are there, and these follow.
abbrev pub invariant-loop-name : goal.invariant-loop-name
invariant-loop-name l = cells_of_row l.names.items ++ map shown_text (listed_names l.rest) ≡ map shown_text (listed_names l.value)

abbrev pub decreases-loop-name : goal.decreases-loop-name
decreases-loop-name l = length l.rest
