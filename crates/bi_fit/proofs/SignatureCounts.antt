use Rattle.std.proofs.Common.{◌≡◌, ℕ, ◌+◌, ◌<◌, ◌≤◌, ◌^◌, List, [], ◌∷◌, ◌++◌, length, map, flat_map, filter, rules}
use Rattle.std.proofs.Common.{refl, sym, ap, ap₂, ◌∙◌, arith, length-append}
use Rattle.std.specs.List.{AllZip}
use Rattle.bi_blob.specs.Tree.{Nodes, none, node, FileNode, PropertyMap, node_count, node_count_of}
use Rattle.bi_blob.specs.Lookups.{Sibling, siblings}
use Rattle.bi_blob.proofs.Blobs.NodeCounts.{fewer_nodes_than_bytes, siblings_and_children}
use Rattle.bi_fdt.specs.Content.{root_of}
use Rattle.bi_fit.specs.Names.{is_signature_name, images_name, configurations_name}
use Rattle.bi_fit.specs.ImageTree.{children_of, nodes_or_none}
use Rattle.bi_fit.specs.Content.{FitModel, ImageModel, IsReadImage, IsHeld, tree_of}
use Rattle.bi_fit.specs.Judgement.{images_with, signatures_in, signature_count}
use Rattle.bi_fit.specs.HashNodes.{file_images, file_configurations, file_signatures}
use Rattle.bi_fit.specs.ChildNodes.{children_of_each}
use Rattle.bi_fit.proofs.FileNodes.{bare_image, sibling_by_name, siblings-by_name, image_siblings, configuration_nodes_are}
use Rattle.bi_fit.specs.NormalNodes.{nodes_by_name}

-- The number of signature nodes of an image tree that was read is that of its image nodes and its configuration nodes together.

-- There are at most as many signature nodes as nodes.
few_of : (children : List (Sibling FileNode)) → length (filter (λ child. is_signature_name child.name) children) ≤ length children
few_of [] = omega arith
few_of (child ∷ later) = search (rules, few_of later)

pub few_signatures : (entries : List (Sibling FileNode)) → length (flat_map file_signatures entries) ≤ length (children_of_each entries)
few_signatures [] = omega arith
few_signatures (entry ∷ entries) = search (rules, few_of, length-append, few_signatures entries)

-- The nodes below the node of a name are among the nodes.
node_count-children_of : {Own : Type 0} (wanted : List ℕ) (nodes : Nodes Own) →
    node_count (nodes_or_none (children_of wanted nodes)) ≤ node_count nodes
node_count-children_of wanted none = omega arith
node_count-children_of {Own = Own} wanted (node name own children later) = search (rules, node_count-children_of wanted later)

-- The nodes below a node of the root have fewer than 2^31 children.
children_few : (content : FitModel) (name : List ℕ) → IsHeld content →
    length (children_of_each (siblings (nodes_or_none (children_of name (root_of content.blob).children)))) < 2 ^ 31
children_few content name held =
    let nodes = nodes_or_none (children_of name (root_of content.blob).children) in
    let all : node_count_of (root_of content.blob) < length content.blob.file =
    fewer_nodes_than_bytes content.blob.file content.blob.cpu content.blob.reservations (root_of content.blob) held.is_blob in
    let short : length content.blob.file ≤ 0x7fffffff = held.short in
    let inside : node_count nodes ≤ node_count (root_of content.blob).children = node_count-children_of name
    (root_of content.blob).children in
    let few : length (siblings nodes) + length (children_of_each (siblings nodes)) ≤ node_count nodes = siblings_and_children nodes in
    omega arith

-- So have the image nodes, and the configuration nodes.
pub image_children_few : (content : FitModel) → IsHeld content → length (children_of_each (siblings (file_images content.blob))) < 2 ^ 31
image_children_few content held = children_few content images_name held

pub configuration_children_few : (content : FitModel) → IsHeld content →
    length (children_of_each (siblings (file_configurations content.blob))) < 2 ^ 31
configuration_children_few content held = children_few content configurations_name held

-- Properties by name make no difference to the number of signature nodes.
signatures_same : (children : List (Sibling FileNode)) →
    length (filter (λ child. is_signature_name child.name) (map sibling_by_name children))
    ≡ length (filter (λ child. is_signature_name child.name) children)
signatures_same [] = refl
signatures_same (child ∷ later) = search (rules, signatures_same later)

signatures_by_name : (nodes : Nodes FileNode) →
    length (filter (λ child. is_signature_name child.name) (siblings (nodes_by_name nodes)))
    ≡ length (filter (λ child. is_signature_name child.name) (siblings nodes))
signatures_by_name nodes = search (rules, siblings-by_name, signatures_same)

-- The numbers of two lists after one another.
both : {A B : Type 0} (a c : List A) (b d : List B) → length a ≡ length b → length c ≡ length d → length (a ++ c) ≡ length (b ++ d)
both a c b d first later =
    length-append a c ∙ ap₂ (λ m n. m + n) first later ∙ sym (length-append b d)

in_images : (file : List ℕ) (entries : List (Sibling FileNode)) (images : List ImageModel) → AllZip (IsReadImage file) entries images →
    length (flat_map (λ image. signatures_in image.entry) (images_with (map bare_image entries) (map (λ image. image.payload) images)))
    ≡ length (flat_map file_signatures entries)
in_images file [] [] read = refl
in_images file [] (image ∷ images) read = absurd read
in_images file (entry ∷ entries) [] read = absurd read
in_images file (entry ∷ entries) (image ∷ images) read = search (rules, both, signatures_by_name, in_images file entries images read.1)

in_configurations : (entries : List (Sibling FileNode)) →
    length (flat_map signatures_in (map sibling_by_name entries)) ≡ length (flat_map file_signatures entries)
in_configurations [] = refl
in_configurations (entry ∷ entries) =
    both _ _ (file_signatures entry) (flat_map file_signatures entries) (signatures_by_name entry.children) (in_configurations entries)

-- The number of signature nodes.
pub signature_count_is : (content : FitModel) → IsHeld content →
    signature_count (tree_of content)
    ≡ length (flat_map file_signatures (siblings (file_images content.blob)))
    + length (flat_map file_signatures (siblings (file_configurations content.blob)))
signature_count_is content held =
    ap₂ (λ m n. m + n)
    (ap (λ (entries : List (Sibling PropertyMap)). length
    (flat_map (λ image. signatures_in image.entry)
    (images_with entries (map (λ image. image.payload) content.images)))) (image_siblings content)
    ∙ in_images content.blob.file (siblings (file_images content.blob)) content.images held.images)
    (ap (λ (nodes : Nodes PropertyMap). length (flat_map signatures_in (siblings nodes))) (configuration_nodes_are content)
    ∙ ap (λ (entries : List (Sibling PropertyMap)). length (flat_map signatures_in entries))
    (siblings-by_name (file_configurations content.blob))
    ∙ in_configurations (siblings (file_configurations content.blob)))
