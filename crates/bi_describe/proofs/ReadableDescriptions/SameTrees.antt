use Rattle.std.proofs.Common.{ℕ, List, ap, ap₂}
use Rattle.bi_fit.specs.File.{IsFitFile}
use Rattle.bi_fit.specs.ImageTree.{ImageTree, ArePropertiesByName, IsImageTree}
use Rattle.bi_fit.proofs.TextLaws.{file_means_image_tree}
use Rattle.bi_describe.specs.DescriptionLaws.{AreSimilarTrees}
use Rattle.bi_describe.specs.Descriptions.{DescribedNode}
use Rattle.bi_describe.proofs.ReadableDescriptions.DescribedNodes.{HasImages, same_described}
use Rattle.bi_describe.proofs.ReadableDescriptions.ItemTrees.{SameParts}

-- Flattened image trees whose descriptions have the same parts are similar.

-- What a file means has image nodes with its payloads.
pub images_of_image_tree : (tree : ImageTree) → IsImageTree tree → HasImages ArePropertiesByName tree.root.children tree.payloads
images_of_image_tree tree is = record { are_nodes = is.is_tree.children; images = is.images; has_images = is.has_images; apart = is.apart }

pub similar_parts : (file other_file : List ℕ) (one other : ImageTree) → IsFitFile file one → IsFitFile other_file other →
    SameParts one other → AreSimilarTrees one other
similar_parts file other_file one other is also same =
    let content = same_described ArePropertiesByName one.root.children other.root.children one.payloads other.payloads
    (images_of_image_tree one (file_means_image_tree file one is))
    (images_of_image_tree other (file_means_image_tree other_file other also)) same.nodes in
    record {
      cpu = same.cpu;
      reservations = same.reservations;
      root = ap₂ (λ own children. record { own = own; children = children })
          (ap (λ (described : DescribedNode). described.properties) same.own) content.0;
      payloads = content.1;
    }
