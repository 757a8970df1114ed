use Rattle.std.proofs.Common.{◌≡◌, ◌∷◌, ◌++◌, length, flat_map}
use Rattle.std.specs.Option.{option_map}
use Rattle.bi_edit.specs.Cuts.{from_byte}
use Rattle.bi_edit.specs.EditWords.{slash_and_name}
use Rattle.bi_edit.specs.Places.{IsNodePath}
use Rattle.bi_edit.specs.Places.{names_of_path}
use Rattle.bi_edit.proofs.words.paths.names_in.Given as goal

abbrev pub invariant-loop-left : goal.invariant-loop-left
invariant-loop-left l =
    IsNodePath (names_of_path l.names.items)
    × (flat_map slash_and_name (names_of_path l.names.items) ++ from_byte 47 (option_map (λ rest. rest.now) l.left) ≡ 47 ∷ l.text)

abbrev pub decreases-loop-left : goal.decreases-loop-left
decreases-loop-left l = length (from_byte 47 (option_map (λ rest. rest.now) l.left))
