use Rattle.std.proofs.Common.{◌≡◌, [], ◌∷◌, map, take}
use Rattle.bi_base.specs.Slices.{bytes_of}
use Rattle.bi_fit.specs.Names.{images_name}
use Rattle.bi_coverage.specs.Paths.{path_text}
use Rattle.bi_coverage.proofs.needed.image_part.Given as goal

abbrev pub invariant-loop-child : goal.invariant-loop-child
invariant-loop-child l =
    map (λ path. path.items) l.below.items
    ≡ map (λ child. path_text (images_name ∷ l.image ∷ child ∷ [])) (bytes_of (take l.child-index l.children))
