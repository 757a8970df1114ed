use Rattle.std.proofs.Common.{◌≡◌, ℕ, List, ◌++◌, codes, Option, Some, None, refl}
use Rattle.std.specs.FinMap.{empty, from_entries}
use Rattle.bi_fit.specs.Building.{cell_property}
use Rattle.bi_fit.specs.BuiltNodes.{with_cell_property}
use Rattle.bi_fit.specs.PropertyMapModels.{among}

-- The address properties of an image to be built are those of its load address and its entry point.

-- Its addresses.
pub addresses : (names : List (List ℕ)) (load entry : Option ℕ) →
    with_cell_property (codes "load") load (with_cell_property (codes "entry") entry (among names empty))
    ≡ among names (from_entries (cell_property (codes "load") load ++ cell_property (codes "entry") entry))
addresses names None None = refl
addresses names None (Some entry) = refl
addresses names (Some load) None = refl
addresses names (Some load) (Some entry) = refl
