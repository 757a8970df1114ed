use Rattle.std.proofs.Common.{◌↔◌, drop}
use Rattle.bi_edit.specs.Places.{AreChildNames}
use Rattle.bi_edit.specs.Places.{names_of_path}
use Rattle.bi_edit.proofs.places.are_child_names.Given as goal

abbrev pub invariant-loop-name : goal.invariant-loop-name
invariant-loop-name l = AreChildNames (names_of_path (drop l.name-index l.names)) ↔ AreChildNames (names_of_path l.names)
