use Rattle.std.proofs.Common.{◌≡◌, ℕ, List, map, bytes_eq, refl, ap, [], ◌∷◌, ◌||◌, Bool}
use Rattle.std.specs.List.{list_any}
use Rattle.bi_fit.specs.Content.{FitModel}
use Rattle.bi_fit.specs.JudgementCalls.{ConfigurationModel}

-- One of some configurations has a name if one of their names is this one.

-- Whether one of these configurations has this name.
abbrev pub has_name : (name : List ℕ) → List ConfigurationModel → Bool
has_name name configurations = list_any (λ (configuration : ConfigurationModel). bytes_eq name configuration.name) configurations

-- It is whether the name is one of theirs.
pub has_name-names : (name : List ℕ) (content : FitModel) (found : List (List ℕ)) →
    has_name name (map (λ (other : List ℕ). record { content = content; name = other }) found) ≡ list_any (bytes_eq name) found
has_name-names name content [] = refl
has_name-names name content (other ∷ later) = ap (λ b. bytes_eq name other || b) (has_name-names name content later)
