use Rattle.std.specs.Prelude.{◌≡◌, List, [], ◌∷◌, Option, MatchOption}
use Rattle.bi_blob.specs.Tree.{FileProperty}
use Rattle.bi_fdt.specs.declared.table.Property.{Property}

-- The properties of a node of a blob.

-- A property of a file, as the definitions of blobs see it.
abbrev pub file_property_of : Property → FileProperty
file_property_of property =
    record { name = property.name.now; value = property.value.now; place = property.place }

-- A call that takes the first of some properties and leaves the others, or returns None if none are
-- left.
abbrev pub GivesProperty : List FileProperty → Option Property → List FileProperty → Type 0
GivesProperty old result new =
    MatchOption result ((old ≡ []) × (new ≡ [])) (λ property. old ≡ file_property_of property ∷ new)
