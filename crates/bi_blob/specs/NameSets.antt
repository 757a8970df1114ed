use Rattle.std.specs.Prelude.{◌≡◌, ℕ, List, bytes_eq}
use Rattle.std.specs.List.{list_any}
use Rattle.std.specs.Ordering.{nat_cmp}
use Rattle.std.specs.Cmp.Lexicographic.{slice_cmp}
use Rattle.std.specs.BTreeSet.{BTreeSet, contains}
use denote.Ref.{Bor}

-- Sets of names.

-- A set has exactly these names.
pub record HoldsNames (set : BTreeSet (Bor (List ℕ))) (held : List (List ℕ)) : Type 0 where
  pub each : (name : Bor (List ℕ)) → contains (λ x y. slice_cmp nat_cmp x.now y.now) set name
      ≡ list_any (λ other. bytes_eq other name.now) held
