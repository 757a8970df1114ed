use Rattle.std.specs.Prelude.{ℕ, List, refl}
use Rattle.std.specs.FinMap.{insert, code}
use Rattle.std.specs.Coded.{Coded, code_by, coded×, coded_list, coded_ℕ}
use Rattle.bi_blob.specs.Tree.{PropertyMap}

-- What a map of a node's properties shows.

-- The names of the properties that a text may have, and the properties by name.
pub record PropertyMapModel : Type 0 where
  pub names : List (List ℕ)
  pub by_name : PropertyMap

-- They are stored as a pair.
abbrev pub model_code : Coded PropertyMapModel
model_code =
    code_by (List (List ℕ) × PropertyMap)
    (coded× (coded_list (coded_list coded_ℕ)) (code (coded_list coded_ℕ) (coded_list coded_ℕ)))
    (λ properties. (properties.names, properties.by_name))
    (λ pair. record { names = pair.0; by_name = pair.1 })
    (λ _. refl)

-- These properties. Their names are among these names.
abbrev pub among : List (List ℕ) → PropertyMap → PropertyMapModel
among names properties = record { names = names; by_name = properties }

-- With one more property, or with a new value for the property with the given name.
abbrev pub with_property_value : (name value : List ℕ) → PropertyMapModel → PropertyMapModel
with_property_value name value properties = record properties {
  by_name = insert properties.by_name name value;
}
