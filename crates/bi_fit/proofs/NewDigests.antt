use Rattle.std.proofs.Common.{◌≡◌, ℕ, true, List, [], ◌∷◌, ◌++◌, map, flat_map, Option, Some, None, option_and_then, refl, ap, rules}
use Rattle.bi_base.specs.Strings.{text_before_nul}
use Rattle.bi_blob.specs.Tree.{Nodes, none, node, FileNode, properties_of}
use Rattle.bi_blob.specs.Lookups.{Sibling, siblings, value_named}
use Rattle.bi_hash.specs.declared.algo.Algo.{Algo}
use Rattle.bi_hash.specs.Algos.{find_algorithm}
use Rattle.bi_hash.specs.Digests.{digest_or_nothing}
use Rattle.bi_fit.specs.declared.changes.Changes.{Changes}
use Rattle.bi_fit.specs.Names.{algo_name, is_hash_name}
use Rattle.bi_fit.specs.ImageTree.{without_payloads}
use Rattle.bi_fit.specs.Content.{FitModel, ImageModel, tree_of}
use Rattle.bi_fit.specs.NewDigests.{hash_algorithm, digests_of_image, digests_of_images, new_digests}
use Rattle.bi_fit.specs.HashNodes.{file_images, flat_map_pairs}
use Rattle.bi_fit.specs.NormalNodes.{properties_by_name, nodes_by_name}
use Rattle.bi_fit.proofs.FileNodes.{get-by_name, image_nodes_named}

-- The digests that an update gives the hash nodes of an image tree that was read are those of the nodes in the tree.

-- The algorithm of a hash node is that of the name in its property `algo`.
pub algorithm_named : (name read : List ℕ) (own : FileNode) → read ≡ name → is_hash_name read ≡ true →
    hash_algorithm name (properties_by_name own)
    ≡ option_and_then find_algorithm (option_and_then text_before_nul (value_named (properties_of own) algo_name))
algorithm_named name read own same is = search (rules, option_and_then, get-by_name)

-- The digest of a payload by this algorithm, if there are both.
abbrev pub digest_if_both : Option (List ℕ) → Option Algo → List ℕ
digest_if_both payload None = []
digest_if_both payload (Some algo) = digest_or_nothing algo payload

-- The digests of a payload for the hash nodes among these nodes of a file.
abbrev pub file_digests : Option (List ℕ) → List (Sibling FileNode) → List ℕ
file_digests payload children =
    flat_map (λ child. digest_if_both payload (hash_algorithm child.name (properties_by_name child.own))) children

-- They are those for the nodes in the tree.
pub digests_are : (payload : Option (List ℕ)) (nodes : Nodes FileNode) →
    file_digests payload (siblings nodes) ≡ digests_of_image payload (nodes_by_name nodes)
digests_are None none = refl
digests_are None (node name own children later) = search (rules, digests_are None later)
digests_are (Some payload) none = refl
digests_are (Some payload) (node name own children later) = search (rules, digests_are (Some payload) later)

-- The digests for the hash nodes of an image node, of an image that was read.
abbrev pub file_image_digests : Sibling FileNode → ImageModel → List ℕ
file_image_digests entry image = digests_of_image image.payload (nodes_by_name entry.children)

-- Those of these image nodes.
abbrev pub file_new_digests : List (Sibling FileNode) → List ImageModel → List ℕ
file_new_digests entries images = flat_map_pairs file_image_digests entries images

-- They are those for the image nodes in the tree.
images_are : (nodes : Nodes FileNode) (images : List ImageModel) →
    digests_of_images (map (λ image. image.payload) images) (without_payloads (nodes_by_name nodes))
    ≡ file_new_digests (siblings nodes) images
images_are none [] = refl
images_are none (image ∷ images) = refl
images_are (node name own children later) [] = refl
images_are (node name own children later) (image ∷ images) =
    ap (λ rest. digests_of_image image.payload (nodes_by_name children) ++ rest) (images_are later images)

-- The digests are those of the tree.
pub new_digests_are : (content : FitModel) (changes : Changes) → changes.hashes ≡ true →
    new_digests changes (tree_of content) ≡ file_new_digests (siblings (file_images content.blob)) content.images
new_digests_are content changes is = search (rules, image_nodes_named, images_are)
