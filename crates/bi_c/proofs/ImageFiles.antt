use Rattle.std.proofs.Common.{◌≡◌, ℕ, List, [], ◌∷◌, Option, None, Some, refl, sym, ap, ◌∙◌}
use Rattle.std.specs.List.{AllZip}
use Rattle.bi_base.specs.Limits.{Limits, IsInRange}
use Rattle.bi_blob.specs.Lookups.{siblings}
use Rattle.bi_blob.specs.Tree.{Nodes, none, node, FileNode, Root}
use Rattle.bi_fdt.specs.Content.{root_of}
use Rattle.bi_fit.specs.Content.{FitModel, payloads_of_models, tree_of}
use Rattle.bi_fit.specs.ImageTree.{image_nodes, nodes_or_none, each_own}
use Rattle.bi_fit.specs.Names.{images_name}
use Rattle.bi_fit.specs.Payloads.{IsAtPlace, payload_place, source_of}
use Rattle.bi_fit.specs.Reading.{IsReadFit}
use Rattle.bi_fit.proofs.FilePayloads.{payloads_are_at_places}
use Rattle.bi_c.specs.declared.images.ImageElement.{ImageElement}
use Rattle.bi_c.specs.Answers.{IsThisOutput}
use Rattle.bi_c.specs.Arguments.{bounds}
use Rattle.bi_c.specs.ImageElements.{AreImageElements, HaveImageBytes, HasPayloadBytes, image_elements, image_payload_region}
use Rattle.bi_c.specs.TreeRegions.{HaveNodeBytes}
use Rattle.bi_c.proofs.FitFiles.{means_within}
use Rattle.bi_c.proofs.TreeRegions.{root_bytes, found_bytes}

-- The elements of the images that were read of a file are those of the images that the file means.

-- A payload that is at its place is in its region.
payload_bytes : (file : List ℕ) (place : Option ℕ) (payload : Option (List ℕ)) → IsAtPlace file place payload →
    HasPayloadBytes file (image_payload_region place payload) payload
payload_bytes file None None is = tt
payload_bytes file (Some place) None is = tt
payload_bytes file None (Some payload) is = absurd is
payload_bytes file (Some place) (Some payload) is = record { is_size = refl; is_there = is }

-- So are the names and the payloads of image nodes.
image_bytes : (file : List ℕ) (nodes : Nodes FileNode) (payloads : List (Option (List ℕ))) → HaveNodeBytes file nodes →
    AllZip (λ own payload. IsAtPlace file (payload_place file (source_of own)) payload) (each_own nodes) payloads →
    HaveImageBytes file (siblings nodes) payloads
image_bytes file none payloads have at = tt
image_bytes file (node name own children later) [] have at = tt
image_bytes file (node name own children later) (payload ∷ payloads) have at = (
  have.0,
  payload_bytes file (payload_place file (source_of own)) payload at.0,
  image_bytes file later payloads have.3 at.1,
)

-- So the elements are those of what the file means.
pub are_image_elements : (limit depth : ℕ) (file : List ℕ) (limits : Limits) (content : FitModel) (elements : List ImageElement) (value : ℕ)
    → IsInRange limit depth → limits ≡ bounds limit depth → IsReadFit limits file content →
    IsThisOutput (image_elements content.blob.file (siblings (nodes_or_none (image_nodes (root_of content.blob))))
    (payloads_of_models content.images)) 0 elements value →
    AreImageElements limit depth file elements value
are_image_elements limit depth file limits content elements value in_range same read just =
    let tree = tree_of content in
    let is = read.means.is_file in
    let nodes : nodes_or_none (image_nodes (root_of content.blob)) ≡ is.images =
    ap (λ (root : Root FileNode). nodes_or_none (image_nodes root)) (sym read.same_root) ∙ ap nodes_or_none is.has_images in
    record {
      limits = in_range;
      tree = tree;
      means = means_within limit depth file limits content same read;
      are_elements = just.is_text
          ∙ ap (λ (bytes : List ℕ). image_elements bytes (siblings (nodes_or_none (image_nodes (root_of content.blob)))) tree.payloads)
          read.is_file
          ∙ ap (λ (images : Nodes FileNode). image_elements file (siblings images) tree.payloads) nodes;
      have_bytes = image_bytes file is.images tree.payloads
          (found_bytes file images_name is.root.children is.images is.has_images
          (root_bytes file tree.cpu tree.reservations is.root is.blob).1)
          (payloads_are_at_places file tree is);
      no_value = just.is_number;
    }
