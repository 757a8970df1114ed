use Rattle.std.proofs.Common.{◌≡◌, ◌∷◌, ◌++◌, map, take}
use Rattle.bi_fit.specs.Judgement.{listed_names}
use Rattle.bi_coverage.proofs.listed_paths.after_part.Given as goal

abbrev pub invariant-loop-path : goal.invariant-loop-path
invariant-loop-path l =
    listed_names l.value
    ≡ (l.part.path.items ∷ map (λ path. path.items) (take l.path-index l.part.below.items)) ++ listed_names l.rest
