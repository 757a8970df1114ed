use Rattle.std.specs.Prelude.{ℕ, ◌+◌, ◌≡◌, List, [], ◌∷◌, ◌++◌, length, map, filter, Option, None}
use Rattle.std.specs.Prelude.{Some}
use Rattle.std.specs.List.{AllZip}
use Rattle.bi_base.specs.Limits.{IsInRange}
use Rattle.bi_base.specs.Strings.{text_before_nul}
use Rattle.bi_blob.specs.Lookups.{Sibling, property_named, siblings, value_named}
use Rattle.bi_blob.specs.Tree.{FileNode, FileProperty, properties_of}
use Rattle.bi_fit.specs.File.{FitMeans}
use Rattle.bi_fit.specs.ImageTree.{ImageTree}
use Rattle.bi_fit.specs.Judgement.{CheckedHash, verdicts_of}
use Rattle.bi_fit.specs.Names.{algo_name, is_hash_name, value_name}
use Rattle.bi_hash.specs.Verdicts.{verdict_of}
use Rattle.bi_hash.specs.declared.verdicts.Verdict.{Verdict}
use Rattle.bi_hash.specs.declared.verdicts.Verdict.TheVariants.{Good, Bad, UnknownAlgo, NoPayload}
use Rattle.bi_hash.specs.declared.verdicts.Verdict.TheVariants.{Malformed}
use Rattle.bi_c.specs.Arguments.{bounds}
use Rattle.bi_c.specs.ImageElements.{HasPayloadBytes}
use Rattle.bi_c.specs.TreeRegions.{AreBytesAt, name_region_of, value_region}
use Rattle.bi_c.specs.declared.region.Region.{Region}
use Rattle.bi_c.specs.declared.verdicts.HashElement.{HashElement}

-- The verdicts on the hash nodes of a FIT, as a call from C returns them (profile of this project).

-- The number of a verdict.
abbrev pub verdict_number : Verdict → ℕ
verdict_number Good = 0
verdict_number Bad = 1
verdict_number UnknownAlgo = 2
verdict_number NoPayload = 3
verdict_number Malformed = 4

-- The region of a text that is not there.
abbrev pub nowhere : Region
nowhere = record { offset = 0; size = 0 }

-- Where the value of a property is, if there is one.
abbrev pub found_value_region : Option FileProperty → Region
found_value_region None = nowhere
found_value_region (Some property) = value_region property

-- Where this text at the beginning of the value of a property is, if there is one.
abbrev pub text_region : FileProperty → (text : Option (List ℕ)) → Region
text_region property None = nowhere
text_region property (Some text) = record { offset = property.place + 12; size = length text }

-- Where the bytes before the first zero in the value of a property are. There may be no property,
-- or no zero.
abbrev pub found_text_region : Option FileProperty → Region
found_text_region None = nowhere
found_text_region (Some property) = text_region property (text_before_nul property.value)

-- The element of a hash node of an image with this verdict.
abbrev pub element_with_verdict : (image hash : Sibling FileNode) → Verdict → HashElement
element_with_verdict image hash verdict = record {
  image = name_region_of image;
  node = name_region_of hash;
  algorithm = found_text_region (property_named hash.own.properties algo_name);
  value = found_value_region (property_named hash.own.properties value_name);
  verdict = verdict_number verdict;
}

-- The verdict on a hash node of an image with this payload.
abbrev pub verdict_on : (payload : Option (List ℕ)) → (hash : Sibling FileNode) → Verdict
verdict_on payload hash =
    verdict_of
    (value_named (properties_of hash.own) algo_name)
    (value_named (properties_of hash.own) value_name)
    payload

-- The elements of the hash nodes among children of an image with this payload.
abbrev pub hash_elements_among : (image : Sibling FileNode) → (payload : Option (List ℕ))
    → (children : List (Sibling FileNode)) → List HashElement
hash_elements_among image payload children =
    map (λ hash. element_with_verdict image hash (verdict_on payload hash))
    (filter (λ child. is_hash_name child.name) children)

-- The elements of the hash nodes of images with these payloads: image by image.
abbrev pub hash_elements : List (Sibling FileNode) → (payloads : List (Option (List ℕ)))
    → List HashElement
hash_elements (image ∷ later) (payload ∷ payloads) =
    hash_elements_among image payload (siblings image.children) ++ hash_elements later payloads
hash_elements images payloads = []

-- The element is that of a hash node with its verdict. Each text that is there is in its region.
pub record IsHashElement (file : List ℕ) (element : HashElement) (hash : CheckedHash) : Type 0 where
  pub image : AreBytesAt file element.image hash.image
  pub node : AreBytesAt file element.node hash.node_name
  pub algorithm : HasPayloadBytes file element.algorithm hash.algo
  pub value : HasPayloadBytes file element.value hash.value
  pub verdict : element.verdict ≡ verdict_number hash.verdict

-- The elements are those of the hash nodes of the FIT that the file means, in their order. The
-- verdicts are those of the tree.
pub record AreHashElements (limit depth : ℕ) (file : List ℕ) (elements : List HashElement)
    (value : ℕ) : Type 0
  where
    pub limits : IsInRange limit depth
    pub tree : ImageTree
    pub means : FitMeans (bounds limit depth) file tree
    pub are_elements : elements ≡ hash_elements (siblings means.is_file.images) tree.payloads
    pub are_verdicts : AllZip (IsHashElement file) elements (verdicts_of tree)
    pub no_value : value ≡ 0
