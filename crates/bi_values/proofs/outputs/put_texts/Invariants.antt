use Rattle.std.proofs.Common.{◌≡◌, ◌++◌, ℕ, List, length}
use Rattle.bi_fit.specs.Judgement.{listed_names}
use Rattle.bi_values.specs.ValueResults.{text_lines}
use Rattle.bi_values.proofs.outputs.put_texts.Given as goal

-- A line was put for each text before the rest.
abbrev pub invariant-loop-text : goal.invariant-loop-text
invariant-loop-text g l =
    (before : List (List ℕ)) × (listed_names l.value ≡ before ++ listed_names l.rest)
    × g.P.Pen.puts l.initial.pen (text_lines before) l.pen

abbrev pub decreases-loop-text : goal.decreases-loop-text
decreases-loop-text g l = length l.rest
