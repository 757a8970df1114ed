use Rattle.std.proofs.Common.{◌≡◌, ◌∷◌, ◌++◌, take, flat_map}
use Rattle.bi_base.specs.Slices.{bytes_of}
use Rattle.bi_coverage.proofs.paths.path_text.Given as goal

abbrev pub invariant-loop-name : goal.invariant-loop-name
invariant-loop-name l =
    l.path.items ≡ l.initial.path.items ++ flat_map (λ name. 47 ∷ name) (bytes_of (take l.name-index l.names))
