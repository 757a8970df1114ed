use Rattle.std.specs.Prelude.{ℕ, List, [], ◌∷◌, refl, map, bytes_eq, if◌then◌else◌}
use Rattle.std.specs.Coded.{Coded, code_by, coded×, coded_list, coded_ℕ}
use Rattle.std.specs.Cow.{cow_slice_items}
use Rattle.bi_blob.specs.Tree.{Property, Root}
use Rattle.bi_tree.specs.Changes.{with_change_at, with_node_at}
use Rattle.bi_tree.specs.declared.properties.TreeProperty.{TreeProperty}

-- The properties of a node of a tree that can be changed.

-- A property, with the number of its name.
pub record TreePropertyModel : Type 0 where
  pub name : List ℕ
  pub number : ℕ
  pub value : List ℕ

-- How a property is stored.
abbrev pub property_code : Coded TreePropertyModel
property_code =
    code_by (List ℕ × (ℕ × List ℕ))
    (coded× (coded_list coded_ℕ) (coded× coded_ℕ (coded_list coded_ℕ)))
    (λ property. (property.name, (property.number, property.value)))
    (λ parts. record { name = parts.0; number = parts.1.0; value = parts.1.1 })
    (λ _. refl)

-- A property, as the code has it.
abbrev pub tree_property : TreeProperty → TreePropertyModel
tree_property property = record {
  name = property.name.now;
  number = property.number;
  value = cow_slice_items property.value;
}

abbrev pub tree_properties : List TreeProperty → List TreePropertyModel
tree_properties properties = map tree_property properties

-- Properties without the numbers of their names.
abbrev pub without_numbers : List TreePropertyModel → List Property
without_numbers properties = map (λ property. (property.name, property.value)) properties

-- The names of properties.
abbrev pub own_property_names : List TreePropertyModel → List (List ℕ)
own_property_names properties = map (λ property. property.name) properties

-- Properties with this one instead of the first one with its name. If there is none, it is added as
-- the last.
abbrev pub with_property_in : TreePropertyModel → List TreePropertyModel → List TreePropertyModel
with_property_in new [] = new ∷ []
with_property_in new (first ∷ later) =
    if bytes_eq first.name new.name then new ∷ later
    else first ∷ with_property_in new later

-- Properties without the first one with this name.
abbrev pub without_property_in : (name : List ℕ) → List TreePropertyModel → List TreePropertyModel
without_property_in name [] = []
without_property_in name (first ∷ later) =
    if bytes_eq first.name name then later else first ∷ without_property_in name later

-- A node with this property, and one without a property.
abbrev pub with_own_property : TreePropertyModel → Root (List TreePropertyModel)
    → Root (List TreePropertyModel)
with_own_property new root = record root { own = with_property_in new root.own }

abbrev pub without_own_property : (name : List ℕ) → Root (List TreePropertyModel)
    → Root (List TreePropertyModel)
without_own_property name root = record root { own = without_property_in name root.own }

-- A tree with this property in the node at a path. The nodes of the path are added if they are not
-- there.
abbrev pub with_property_at : (path : List (List ℕ)) → TreePropertyModel
    → Root (List TreePropertyModel) → Root (List TreePropertyModel)
with_property_at path new root =
    with_change_at path (with_own_property new) (with_node_at [] path root)
