use Rattle.std.proofs.Common.{◌≡◌, ◌+◌, ◌<◌, ℕ, suc, List, [], ◌∷◌, Option, Some, length, map, drop, get_or, refl, sym, ap, subst}
use Rattle.std.proofs.Common.{add-one, arith}
use Rattle.std.proofs.Common.{length-drop}
use Rattle.std.specs.List.{AllZip}
use Rattle.std.specs.Option.{option_map}
use Rattle.std.proofs.Math.ListN.{set}
use Rattle.std.proofs.Math.Seq.{drop-cons}
use Rattle.bi_blob.specs.Lookups.{Sibling, node_named}
use Rattle.bi_blob.specs.Tree.{Root, FileNode}
use Rattle.bi_fit.specs.declared.image.Image.{Image}
use Rattle.bi_fit.specs.Content.{ImageModel, IsReadImage, image_model, payloads_of_models}
use Rattle.bi_fit.specs.ImageTree.{image_nodes, nodes_or_none}
use Rattle.bi_fit.specs.Names.{images_name}
use Rattle.bi_c.specs.declared.images.ImageElement.{ImageElement}
use Rattle.bi_c.specs.ImageElements.{image_elements, element_of_image}
use Rattle.bi_c.proofs.ArrayFilling.{IsFilling, filling_goes_on}

-- The elements of image nodes are written one after the other.

-- The child `images` of a root has the image nodes.
pub images_children : (root : Root FileNode) (images : Sibling FileNode) → Some images ≡ node_named root.children images_name →
    nodes_or_none (image_nodes root) ≡ images.children
images_children root images is =
    ap (λ (found : Option (Sibling FileNode)). nodes_or_none (option_map (λ (it : Sibling FileNode). it.children) found)) (sym is)

-- There is an element for each image.
pub elements_count : (file : List ℕ) (nodes : List (Sibling FileNode)) (images : List ImageModel) → AllZip (IsReadImage file) nodes images →
    length (image_elements file nodes (payloads_of_models images)) ≡ length images
elements_count file [] [] read = refl
elements_count file [] (image ∷ images) read = absurd read
elements_count file (node ∷ nodes) [] read = absurd read
elements_count file (node ∷ nodes) (image ∷ images) read = ap suc (elements_count file nodes images read.1)

module _ (file : List ℕ) (all : List ImageElement) (images : List Image) (before : List ImageElement) where
  -- These image nodes are left, with the images from an index on.
  pub record AreElementsLeft (left : List (Sibling FileNode)) (index : ℕ) (now : List ImageElement) : Type 0 where
    pub read : AllZip (IsReadImage file) left (map image_model (drop index images))
    pub filling :
        IsFilling all (image_elements file left (payloads_of_models (map image_model (drop index images)))) index before now

  module _ (first : Sibling FileNode) (later : List (Sibling FileNode)) (index : ℕ) (now : List ImageElement)
      (are : AreElementsLeft (first ∷ later) index now) where
    -- There is an image for the next node.
    pub image_there : index < length images
    image_there = by (drop index images) refl are.read
      where
        by : (rest : List Image) → drop index images ≡ rest → AllZip (IsReadImage file) (first ∷ later) (map image_model rest) →
            index < length images
        by [] is read = absurd read
        by (image ∷ others) is read = omega (arith, length-drop index images, ap length is)

    module _ (default : Image) where
      abbrev image : Image
      image = get_or images index default

      around : drop index images ≡ image ∷ drop (index + 1) images
      around = rw add-one (drop-cons images index default image_there)

      read : AllZip (IsReadImage file) (first ∷ later) (image_model image ∷ map image_model (drop (index + 1) images))
      read = subst (λ (rest : List Image). AllZip (IsReadImage file) (first ∷ later) (map image_model rest)) around are.read

      abbrev others : List ImageElement
      others = image_elements file later (payloads_of_models (map image_model (drop (index + 1) images)))

      left : IsFilling all (element_of_image file first (image_model image).payload ∷ others) index before now
      left = subst (λ (rest : List Image). IsFilling all
          (image_elements file (first ∷ later) (payloads_of_models (map image_model rest))) index before now) around are.filling

      -- An image that was read from the node has its element there.
      pub one_more_image : (element : ImageElement) → (IsReadImage file first (image_model (get_or images index default))
          → element ≡ element_of_image file first (image_model (get_or images index default)).payload) →
          AreElementsLeft later (index + 1) (set now index element)
      one_more_image element same = record {
        read = read.1;
        filling = subst (λ (it : ImageElement). IsFilling all others (index + 1) before (set now index it)) (sym (same read.0))
            (filling_goes_on all others (element_of_image file first (image_model image).payload) index before now left);
      }
