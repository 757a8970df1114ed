use Rattle.std.proofs.Common.{◌≡◌, ◌+◌, ℕ, Bool, true, false, List, [], ◌∷◌, ◌++◌, Option, None, Some, length, option_and_then, refl, sym}
use Rattle.std.proofs.Common.{ap, subst, ◌∙◌, arith, length-append, bytes_eq, cond, map}
use Rattle.std.specs.List.{AllByRecursion, AllZip}
use Rattle.bi_base.specs.Limits.{Limits, IsInRange}
use Rattle.bi_base.specs.Strings.{text_before_nul}
use Rattle.bi_base.proofs.NulTexts.{text_then_zero}
use Rattle.bi_blob.specs.Lookups.{Sibling, property_named, siblings, value_named}
use Rattle.bi_blob.specs.Tree.{Nodes, none, node, FileNode, FileProperty, Root, property_of}
use Rattle.bi_blob.proofs.Blobs.Cells.{BytesAt, BytesAt-left}
use Rattle.bi_fit.specs.Content.{FitModel, ImageModel, payloads_of_models, tree_of}
use Rattle.bi_fit.specs.HashNodes.{file_hash, file_hashes, file_images, file_verdicts}
use Rattle.bi_fit.specs.ImageTree.{image_nodes, nodes_or_none}
use Rattle.bi_fit.specs.Judgement.{CheckedHash, verdicts_of}
use Rattle.bi_fit.specs.Names.{algo_name, images_name, is_hash_name, value_name}
use Rattle.bi_fit.specs.Reading.{IsReadFit}
use Rattle.bi_fit.proofs.FileVerdicts.{verdicts_are}
use Rattle.bi_c.specs.declared.verdicts.HashElement.{HashElement}
use Rattle.bi_c.specs.Arguments.{bounds}
use Rattle.bi_c.specs.ImageElements.{HasPayloadBytes}
use Rattle.bi_c.specs.TreeRegions.{HasNameBytes, HasPropertyBytes, HaveNodeBytes}
use Rattle.bi_c.specs.VerdictElements.{AreHashElements, IsHashElement, element_with_verdict, found_text_region, found_value_region}
use Rattle.bi_c.specs.VerdictElements.{hash_elements, hash_elements_among, text_region, verdict_on}
use Rattle.bi_c.proofs.FitFiles.{means_within}
use Rattle.bi_c.proofs.TreeRegions.{found_bytes, root_bytes}

-- The elements of the hash nodes that were read are those of what the file means.

-- The text at the beginning of a value is in the region of that text.
text_there : (file : List ℕ) (property : FileProperty) → HasPropertyBytes file property →
    HasPayloadBytes file (text_region property (text_before_nul property.value)) (text_before_nul property.value)
text_there file property has = by (text_before_nul property.value) refl
  where
    by : (text : Option (List ℕ)) → text_before_nul property.value ≡ text → HasPayloadBytes file (text_region property text) text
    by None is = tt
    by (Some text) is =
        let cut = text_then_zero property.value text is in
        let there = has.value.is_there in
        record {
          is_size = refl;
          is_there = record {
            in_file = omega (arith, there.in_file, ap length cut.1, length-append text (0 ∷ cut.0));
            is_slice = BytesAt-left file (property.place + 12) text (0 ∷ cut.0)
                (subst (BytesAt file (property.place + 12)) cut.1 there.is_slice);
          };
        }

-- A property that is found by its name, and its value, have what each property of the node has. Without a property there is no value.
of_named : (file : List ℕ) (Holds : Option FileProperty → Option (List ℕ) → Type 0) → Holds None None →
    ((property : FileProperty) → HasPropertyBytes file property → Holds (Some property) (Some property.value)) →
    (properties : List FileProperty) (name : List ℕ) → AllByRecursion (HasPropertyBytes file) properties →
    Holds (property_named properties name) (value_named (map property_of properties) name)
of_named file Holds nothing each [] name have = nothing
of_named file Holds nothing each (first ∷ later) name have =
    by (bytes_eq first.name name) (of_named file Holds nothing each later name have.1)
  where
    by : (b : Bool) → Holds (property_named later name) (value_named (map property_of later) name) →
        Holds (cond b (Some first) (property_named later name)) (cond b (Some first.value) (value_named (map property_of later) name))
    by true rest = each first have.0
    by false rest = rest

-- So a text at the beginning of its value is in its region.
pub named_text : (file : List ℕ) (properties : List FileProperty) (name : List ℕ) → AllByRecursion (HasPropertyBytes file) properties →
    HasPayloadBytes file (found_text_region (property_named properties name))
    (option_and_then text_before_nul (value_named (map property_of properties) name))
named_text file properties name have =
    of_named file (λ found value. HasPayloadBytes file (found_text_region found) (option_and_then text_before_nul value)) tt
    (λ property has. text_there file property has) properties name have

-- The element of a hash node has the verdict on that node.
pub is_element : (file : List ℕ) (image : Sibling FileNode) (payload : Option (List ℕ)) (hash : Sibling FileNode) →
    HasNameBytes file image → HasNameBytes file hash → AllByRecursion (HasPropertyBytes file) hash.own.properties →
    IsHashElement file (element_with_verdict image hash (verdict_on payload hash)) (file_hash image.name payload hash)
is_element file image payload hash image_there hash_there have = record {
  image = image_there;
  node = hash_there;
  algorithm = named_text file hash.own.properties algo_name have;
  value = of_named file (λ found value. HasPayloadBytes file (found_value_region found) value) tt
      (λ property has. has.value) hash.own.properties value_name have;
  verdict = refl;
}

-- The same holds of the hash nodes among the children of an image,
among_children : (file : List ℕ) (image : Sibling FileNode) (payload : Option (List ℕ)) (children : Nodes FileNode) →
    HasNameBytes file image → HaveNodeBytes file children →
    AllZip (IsHashElement file) (hash_elements_among image payload (siblings children))
    (file_hashes image.name payload (siblings children))
among_children file image payload none there have = tt
among_children file image payload (node name own inner later) there have =
    by (is_hash_name name) refl (among_children file image payload later there have.3)
  where
    this : Sibling FileNode
    this = record { name = name; own = own; children = inner; later = later }

    by : (b : Bool) → is_hash_name name ≡ b →
        AllZip (IsHashElement file) (hash_elements_among image payload (siblings later))
        (file_hashes image.name payload (siblings later)) →
        AllZip (IsHashElement file) (hash_elements_among image payload (siblings (node name own inner later)))
        (file_hashes image.name payload (siblings (node name own inner later)))
    by true is rest = rw is (is_element file image payload this there have.0 have.1, rest)
    by false is rest = rw is rest

-- and of those of all images.
both : (file : List ℕ) (elements others : List HashElement) (hashes more : List CheckedHash) →
    AllZip (IsHashElement file) elements hashes → AllZip (IsHashElement file) others more →
    AllZip (IsHashElement file) (elements ++ others) (hashes ++ more)
both file [] others [] more first second = second
both file [] others (hash ∷ hashes) more first second = absurd first
both file (element ∷ elements) others [] more first second = absurd first
both file (element ∷ elements) others (hash ∷ hashes) more first second = (first.0, both file elements others hashes more first.1 second)

of_images : (file : List ℕ) (nodes : Nodes FileNode) (images : List ImageModel) → HaveNodeBytes file nodes →
    AllZip (IsHashElement file) (hash_elements (siblings nodes) (payloads_of_models images)) (file_verdicts (siblings nodes) images)
of_images file none [] have = tt
of_images file none (image ∷ images) have = tt
of_images file (node name own inner later) [] have = tt
of_images file (node name own inner later) (image ∷ images) have =
    both file _ _ _ _
    (among_children file (record { name = name; own = own; children = inner; later = later }) image.payload inner have.0 have.2)
    (of_images file later images have.3)

-- The elements are those of what the file means.
pub are_hash_elements : (limit depth : ℕ) (file : List ℕ) (limits : Limits) (content : FitModel) (elements : List HashElement) →
    IsInRange limit depth → limits ≡ bounds limit depth → IsReadFit limits file content →
    elements ≡ hash_elements (siblings (file_images content.blob)) (payloads_of_models content.images) →
    AreHashElements limit depth file elements 0
are_hash_elements limit depth file limits content elements in_range same read are =
    let tree = tree_of content in
    let is = read.means.is_file in
    let nodes : file_images content.blob ≡ is.images =
    ap (λ (root : Root FileNode). nodes_or_none (image_nodes root)) (sym read.same_root) ∙ ap nodes_or_none is.has_images in
    let have : HaveNodeBytes file (file_images content.blob) =
    subst (HaveNodeBytes file) (sym nodes)
    (found_bytes file images_name is.root.children is.images is.has_images
    (root_bytes file tree.cpu tree.reservations is.root is.blob).1) in
    record {
      limits = in_range;
      tree = tree;
      means = means_within limit depth file limits content same read;
      are_elements = are ∙ ap (λ (images : Nodes FileNode). hash_elements (siblings images) tree.payloads) nodes;
      are_verdicts = subst (λ (l : List HashElement). AllZip (IsHashElement file) l (verdicts_of tree)) (sym are)
          (subst
          (AllZip (IsHashElement file) (hash_elements (siblings (file_images content.blob)) (payloads_of_models content.images)))
          (sym (verdicts_are content)) (of_images file (file_images content.blob) content.images have));
      no_value = refl;
    }
