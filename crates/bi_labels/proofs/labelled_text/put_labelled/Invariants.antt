use Rattle.std.proofs.Common.{◌≡◌, ◌++◌, ℕ, List, flat_map, length}
use Rattle.bi_labels.specs.LabelledTexts.{labelled_line, lines_in}
use Rattle.bi_common.specs.Shown.{shown_text}
use Rattle.bi_labels.proofs.labelled_text.put_labelled.Given as goal

-- A line was put for each line before the rest.
abbrev pub invariant-loop-line : goal.invariant-loop-line
invariant-loop-line g l =
    (before : List (List ℕ)) × (lines_in l.text ≡ before ++ lines_in l.rest)
    × g.P.Pen.puts l.initial.pen (flat_map (labelled_line l.format (shown_text l.name)) before) l.pen

abbrev pub decreases-loop-line : goal.decreases-loop-line
decreases-loop-line g l = length l.rest
