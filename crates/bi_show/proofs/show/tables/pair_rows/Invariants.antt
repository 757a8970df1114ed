use Rattle.std.proofs.Common.{◌≡◌, ◌∷◌, [], map, take}
use Rattle.bi_show.specs.Rows.{cells_of_rows}
use Rattle.bi_show.proofs.show.tables.pair_rows.Given as goal

-- The rows of the pairs before this one are there.
abbrev pub invariant-loop-word : goal.invariant-loop-word
invariant-loop-word l = cells_of_rows l.rows.items ≡ map (λ pair. pair.0.now ∷ pair.1.now ∷ []) (take l.word-index l.pairs)
