use Rattle.std.specs.Prelude.{◌≡◌, ◌≢◌, ℕ, true, List, map, Option, Some, None}
use Rattle.std.specs.List.{AllByRecursion}
use Rattle.std.specs.FinMap.{get}
use Rattle.bi_blob.specs.Tree.{Nodes, Root, PropertyMap, IsTree}
use Rattle.bi_fit.specs.ImageTree.{ImageTree, each_own, image_nodes, nodes_or_none}
use Rattle.bi_fit.specs.ImageTree.{tree_without_payloads, with_image_nodes}
use Rattle.bi_fit.specs.ImageTree.{ArePropertiesByName, HaveByteNames}
use Rattle.bi_fit.specs.Names.{data_name, is_payload_name}
use Rattle.bi_fit.specs.Text.{with_payloads}

-- A flattened image tree as a plain tree, in which each image node has its payload as the value of
-- the property `data` (profile of this project).

-- The plain tree of a flattened image tree: that of its text in the form Embedded.
abbrev pub plain_root : ImageTree → Root PropertyMap
plain_root tree = with_image_nodes (with_payloads None 0 tree.payloads) tree.root

-- The payloads of a plain tree, by the order of its image nodes.
abbrev pub plain_payloads : Root PropertyMap → List (Option (List ℕ))
plain_payloads root = map (λ own. get own data_name) (each_own (nodes_or_none (image_nodes root)))

-- The flattened image tree that has this plain tree. The boot processor and the memory reservations
-- are those of another tree.
abbrev pub with_plain_root : Root PropertyMap → ImageTree → ImageTree
with_plain_root root tree =
    record tree { root = tree_without_payloads root; payloads = plain_payloads root }

-- Of the four properties that hold a payload or name its region, an image node has at most `data`.
abbrev pub HasOnlyData : PropertyMap → Type 0
HasOnlyData properties = (name : List ℕ) → is_payload_name name ≡ true → name ≢ data_name
    → get properties name ≡ None

-- What a tree must be so that it is the plain tree of a flattened image tree: names are names,
-- names and values are bytes, and there is a child `images`, whose children hold their payloads.
pub record IsPlainTree (root : Root PropertyMap) : Type 0 where
  pub is_tree : IsTree ArePropertiesByName root
  pub name_bytes : HaveByteNames root.children
  pub images : Nodes PropertyMap
  pub has_images : image_nodes root ≡ Some images
  pub embedded : AllByRecursion HasOnlyData (each_own images)
