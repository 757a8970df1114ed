use Rattle.std.proofs.Common.{◌≡◌, ◌∷◌, codes, map, take}
use Rattle.bi_fit.specs.Names.{key_name}
use Rattle.bi_show.specs.Rows.{cells_of_row}
use Rattle.bi_show.proofs.show.configurations.heading.Given as goal

-- The cells of the keys before this one are there.
abbrev pub invariant-loop-key : goal.invariant-loop-key
invariant-loop-key l = cells_of_row l.row.items ≡ codes "configuration" ∷ map key_name (take l.key-index l.keys)
