use Rattle.std.specs.Prelude.{◌≡◌, ◌≢◌, ◌≤◌, ◌&&◌, ℕ, Bool, false, List, [], ◌∷◌, Vec, bytes_eq}
use Rattle.std.specs.Prelude.{length, map}
use Rattle.std.specs.declared.alloc.Global.{Global}
use Rattle.std.specs.List.{AllByRecursion}
use Rattle.bi_base.specs.Cells.{AreBytes}
use Rattle.bi_blob.specs.Tree.{IsChildName, IsPropertyName}
use Rattle.bi_fit.specs.Names.{images_name, is_payload_name}

-- The places in a tree that edits are of: nodes, properties and images, by their names (profile of
-- this project).

-- Names, as the code has them.
abbrev pub names_of_path : List (Vec ℕ Global) → List (List ℕ)
names_of_path names = map (λ name. name.items) names

-- A name that a child may have, as bytes.
pub record IsChildNameOfBytes (name : List ℕ) : Type 0 where
  pub is_name : IsChildName name
  pub bytes : AreBytes name

-- Names that children may have, as bytes.
abbrev pub AreChildNames : List (List ℕ) → Type 0
AreChildNames names = AllByRecursion IsChildNameOfBytes names

-- Names that lead from the root to a node, the first of which is that of a child of the root. There
-- are at most 63 of them, since a tree has at most 64 nodes inside one another.
pub record IsNodePath (path : List (List ℕ)) : Type 0 where
  pub are_names : AreChildNames path
  pub few : length path ≤ 63

-- The path of the node that has the image nodes as children, and that of an image node.
abbrev pub images_path : List (List ℕ)
images_path = images_name ∷ []

abbrev pub image_path : List ℕ → List (List ℕ)
image_path image = images_name ∷ image ∷ []

-- The path of a node that can be removed: each flattened image tree has a root, and a node
-- `images`.
pub record IsRemovable (path : List (List ℕ)) : Type 0 where
  pub is_path : IsNodePath path
  pub not_root : path ≢ []
  pub not_images : path ≢ images_path

-- A property: the path of its node, and its name.
pub record PropertyPlaceModel : Type 0 where
  pub path : List (List ℕ)
  pub name : List ℕ

-- A name that a property may have, as bytes.
pub record IsPropertyNameOfBytes (name : List ℕ) : Type 0 where
  pub is_name : IsPropertyName name
  pub bytes : AreBytes name

-- Whether a path is that of an image node.
abbrev pub is_image_path : List (List ℕ) → Bool
is_image_path (first ∷ second ∷ []) = bytes_eq first images_name
is_image_path path = false

-- A property that can be set and removed: an image node has none of the four that hold a payload or
-- name its region.
pub record IsPlace (place : PropertyPlaceModel) : Type 0 where
  pub is_path : IsNodePath place.path
  pub is_name : IsPropertyNameOfBytes place.name
  pub no_payload : is_image_path place.path && is_payload_name place.name ≡ false
