use Rattle.std.specs.Prelude.{ℕ, List, [], ◌∷◌, ◌++◌, Option}
use Rattle.bi_blob.specs.Tree.{Nodes, PropertyMap, FileNode, with_each}
use Rattle.bi_blob.specs.Lookups.{Sibling}
use Rattle.bi_fit.specs.NormalNodes.{nodes_by_name, properties_by_name}
use Rattle.bi_fit.specs.ImageTree.{with_children_of, without_payload, without_payloads}
use Rattle.bi_fit.specs.Names.{images_name}
use Rattle.bi_describe.specs.ComparedNodes.{compared_images, nodes_to_compare, plain_compared}
use Rattle.bi_describe.specs.TreeEntries.{EntryModel, NodeBegins, NodeEnds, PayloadEntry}
use Rattle.bi_describe.specs.TreeEntries.{node_entries, property_entries}

-- The entries of the nodes of a file.

-- The entries of nodes that are not image nodes.
abbrev pub plain_entries : Nodes FileNode → List EntryModel
plain_entries nodes = node_entries (with_each plain_compared (nodes_by_name nodes))

-- The entry with which a node begins, and those of its properties.
abbrev pub begin_entries : (name : List ℕ) → PropertyMap → List EntryModel
begin_entries name properties = NodeBegins name ∷ property_entries properties

-- The entries of an image node and of all nodes below it. The properties that hold a payload or
-- name its region are left out.
abbrev pub image_entries : Sibling FileNode → Option (List ℕ) → List EntryModel
image_entries image payload =
    NodeBegins image.name
    ∷ (PayloadEntry payload
    ∷ (property_entries (without_payload (properties_by_name image.own))
    ++ (plain_entries image.children ++ NodeEnds ∷ [])))

-- The entries of image nodes with these payloads.
abbrev pub images_entries : Nodes FileNode → List (Option (List ℕ)) → List EntryModel
images_entries nodes payloads =
    node_entries (compared_images (without_payloads (nodes_by_name nodes)) payloads)

-- The entries of the children of the root, and of all nodes below them.
abbrev pub root_children_entries : Nodes FileNode → List (Option (List ℕ)) → List EntryModel
root_children_entries nodes payloads =
    node_entries (nodes_to_compare
    (with_children_of images_name without_payloads (nodes_by_name nodes)) payloads)
