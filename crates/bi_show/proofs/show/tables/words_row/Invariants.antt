use Rattle.std.proofs.Common.{◌≡◌, map, take}
use Rattle.bi_show.specs.Rows.{cells_of_row}
use Rattle.bi_show.proofs.show.tables.words_row.Given as goal

-- The words before this one are in the row.
abbrev pub invariant-loop-word : goal.invariant-loop-word
invariant-loop-word l = cells_of_row l.row.items ≡ map (λ word. word.now) (take l.word-index l.words)
