use Rattle.std.proofs.Common.{◌≡◌, take}
use Rattle.bi_values.specs.ValueNames.{names_of_path}
use Rattle.bi_describe.proofs.ignored.inside.own_place.Given as goal

-- The names before this one were copied.
abbrev pub invariant-loop-name : goal.invariant-loop-name
invariant-loop-name l = names_of_path l.names.items ≡ names_of_path (take l.name-index l.name-items)
