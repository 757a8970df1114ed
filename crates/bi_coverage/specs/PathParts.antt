use Rattle.std.specs.Prelude.{◌≡◌, ◌≢◌, ⊤, ℕ, List, [], ◌∷◌, ◌++◌}
use Rattle.std.specs.List.{AllByRecursion}

-- The parts of a path.

-- A path does not begin with a slash.
abbrev pub BeginsWithNoSlash : List ℕ → Type 0
BeginsWithNoSlash path = (names : List ℕ) → path ≢ 47 ∷ names

-- A path ends, or goes on with a slash.
abbrev pub IsRestOfPath : List ℕ → Type 0
IsRestOfPath [] = ⊤
IsRestOfPath (byte ∷ later) = byte ≡ 47

-- A path begins with this name, and these bytes follow it.
pub record BeginsWithNode (path name later : List ℕ) : Type 0 where
  pub is : path ≡ 47 ∷ (name ++ later)
  pub no_slash : AllByRecursion (λ byte. byte ≢ 47) name
  pub is_rest : IsRestOfPath later
