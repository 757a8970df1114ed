use Rattle.std.specs.Prelude.{◌≡◌, ◌<◌, ◌+◌, ℕ, List, ◌++◌, None, Option, Some, flat_map, length}
use Rattle.std.specs.Prelude.{map}
use Rattle.std.specs.FinMap.{entries}
use Rattle.bi_base.specs.declared.fault.Error.{Error}
use Rattle.bi_base.specs.Errors.{IsFaultOrNoMemory}
use Rattle.bi_base.specs.Limits.{Limits}
use Rattle.bi_base.specs.Reading.{too_large}
use Rattle.bi_blob.specs.Blob.{IsBlob, IsWithin}
use Rattle.bi_blob.specs.Lookups.{node_named}
use Rattle.bi_blob.specs.Tree.{Nodes, none, node, Property, PropertyMap, tree_without_order}
use Rattle.bi_blob.specs.Tree.{tree_without_places, with_each}
use Rattle.bi_fdt.specs.Content.{Blob, root_of}
use Rattle.bi_fit.specs.LongNames.{name_if_long}
use Rattle.bi_fit.specs.Names.{images_name}
use Rattle.bi_describe.specs.ComparedNodes.{plain_compared}
use Rattle.bi_describe.specs.Devicetrees.{Devicetree}
use Rattle.bi_describe.specs.TreeEntries.{EntryModel, node_entries, property_entries}

-- Devicetrees inside payloads, as the code has them.

-- What a blob that is a devicetree means.
abbrev pub devicetree_of : Blob → Devicetree
devicetree_of blob = record {
  cpu = blob.cpu;
  reservations = blob.reservations;
  root = tree_without_order (tree_without_places (root_of blob));
}

-- The entries of its tree: the properties of the root, and the nodes below it.
abbrev pub devicetree_entries : Devicetree → List EntryModel
devicetree_entries tree =
    property_entries tree.root.own ++ node_entries (with_each plain_compared tree.root.children)

-- The blob is a devicetree inside a payload.
pub record IsBlobInside (limits : Limits) (payload : List ℕ) (blob : Blob) : Type 0 where
  pub is_file : blob.file ≡ payload
  pub is_blob : IsBlob payload blob.cpu blob.reservations (root_of blob)
  pub within : IsWithin limits payload (root_of blob)
  pub no_images : node_named (root_of blob).children images_name ≡ None

-- How many bytes the names of the properties of nodes have together, as far as they are long: of
-- one node, and of nodes with all nodes below them.
abbrev pub long_names_own : PropertyMap → ℕ
long_names_own properties =
    length (flat_map name_if_long (map (λ (property : Property). property.0) (entries properties)))

abbrev pub long_names_below : Nodes PropertyMap → ℕ
long_names_below none = 0
long_names_below (node name own children later) =
    long_names_own own + (long_names_below children + long_names_below later)

-- Those of a devicetree, if there is one.
abbrev pub long_names : Option Devicetree → ℕ
long_names None = 0
long_names (Some tree) = long_names_own tree.root.own + long_names_below tree.root.children

-- The error that counting long names can have, if there is room for so many bytes of them: TooLarge
-- at the limit if they have more, or that memory ran out.
abbrev pub IsNamesError : (limit room : ℕ) → (long : ℕ) → Error → Type 0
IsNamesError limit room long =
    IsFaultOrNoMemory (λ fault. (fault ≡ too_large limit) × (room < long))
