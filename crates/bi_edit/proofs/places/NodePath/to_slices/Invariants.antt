use Rattle.std.proofs.Common.{◌≡◌, ◌++◌, drop}
use Rattle.bi_base.specs.Slices.{bytes_of}
use Rattle.bi_edit.specs.Places.{names_of_path}
use Rattle.bi_edit.proofs.places.NodePath.to_slices.Given as goal

abbrev pub invariant-loop-name : goal.invariant-loop-name
invariant-loop-name l =
    bytes_of l.names.items ++ names_of_path (drop l.name-index l.name-items) ≡ names_of_path l.name-items
