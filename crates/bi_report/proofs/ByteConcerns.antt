use Rattle.std.proofs.Common.{◌≡◌, ℕ, ◌+◌, ◌^◌, ◌<◌, Bool, true, false, cond, List, [], ◌∷◌, ◌++◌, filter, flat_map, map, codes, refl, sym}
use Rattle.std.proofs.Common.{subst, arith}
use Rattle.std.proofs.Common.{Option, Some, None}
use Rattle.std.specs.Prelude.{⊤, IfSome, nat_eq, not, option_and_then}
use Rattle.std.specs.FinMap.{get}
use Rattle.std.specs.List.{AllByRecursion, ends_with}
use Rattle.bi_base.specs.Cells.{AreBytes}
use Rattle.bi_base.proofs.ByteLists.{AreBytes-cons, AreBytes-flat_map, bytes_by_test}
use Rattle.bi_base.proofs.ListMembers.{each-append, each-contains, each-filter, each-map, each-weaker}
use Rattle.bi_blob.specs.Layout.{is_among}
use Rattle.bi_blob.specs.Lookups.{Sibling, siblings}
use Rattle.bi_blob.specs.Tree.{Nodes, none, node, PropertyMap, FileNode, Root, AreNodes, names}
use Rattle.bi_blob.proofs.Texts.FirstUse.{among_found}
use Rattle.bi_coverage.specs.Coverage.{SignatureConcern, NoNodes, NoImages, Uncovered, Foreign, Strings, SignatureCoverage}
use Rattle.bi_coverage.specs.Coverage.{ConfigurationCoverage}
use Rattle.bi_coverage.specs.Coverage.{concerns_of_paths, concerns_of_strings, foreign_paths, has_strings, hashed_strings_name}
use Rattle.bi_coverage.specs.Coverage.{reference_concerns}
use Rattle.bi_coverage.specs.Coverage.{is_covered, path_concerns, recorded_end, uncovered_concerns}
use Rattle.bi_coverage.specs.Paths.{each_once, path_text, with_all_new, with_new}
use Rattle.bi_coverage.specs.Signatures.{NeededPart, covered_below, hashed_nodes_name, image_part, images_in, is_signed, names_of_value}
use Rattle.bi_coverage.specs.Signatures.{names_of_configuration, needed_parts, paths_of_parts, recorded_paths, references, signed_nodes}
use Rattle.bi_fit.specs.ImageTree.{ImageTree, ArePropertiesByName, HaveByteNames, IsImageTree, image_nodes, nodes_or_none}
use Rattle.bi_fit.specs.Judgement.{configuration_nodes, listed_names}
use Rattle.bi_fit.specs.Names.{configurations_name, images_name}
use Rattle.bi_fit.proofs.TreeShapes.{bytes-children_of}
use Rattle.bi_report.specs.SignedTrees.{addresses_below, configuration_coverage_in, coverage_in, has_address, signature_coverage_in}
use Rattle.bi_report.specs.SignedTrees.{unit_addresses}
use Rattle.bi_report.proofs.AsciiListings.{configurations_are_nodes, listed_bytes, node_names_bytes}

-- The names and the paths in the concerns about signatures and unit addresses are bytes.

-- ---- names and paths

-- A path.
path_bytes : (names : List (List ℕ)) → AllByRecursion AreBytes names → AreBytes (path_text names)
path_bytes [] bytes = bytes_by_test (47 ∷ []) refl
path_bytes (first ∷ later) bytes =
    AreBytes-flat_map (λ name. 47 ∷ name) (first ∷ later)
    (each-weaker AreBytes (λ name. AreBytes (47 ∷ name)) (λ name is. AreBytes-cons 47 name (omega arith) is) (first ∷ later) bytes)

-- Names, each once.
one_new : (known : List (List ℕ)) (name : List ℕ) → AllByRecursion AreBytes known → AreBytes name →
    AllByRecursion AreBytes (with_new known name)
one_new known name are is = by (is_among name known)
  where
    by : (b : Bool) → AllByRecursion AreBytes (cond b known (known ++ name ∷ []))
    by true = are
    by false = each-append AreBytes known (name ∷ []) are (is, tt)

all_new : (known more : List (List ℕ)) → AllByRecursion AreBytes known → AllByRecursion AreBytes more →
    AllByRecursion AreBytes (with_all_new known more)
all_new known [] are bytes = are
all_new known (name ∷ later) are bytes = all_new (with_new known name) later (one_new known name are bytes.0) bytes.1

-- Names that are among others.
among_bytes : (known : List (List ℕ)) → AllByRecursion AreBytes known → (found : List (List ℕ)) →
    AllByRecursion AreBytes (filter (λ name. is_among name known) found)
among_bytes known are [] = tt
among_bytes known are (name ∷ later) = by (is_among name known) refl (among_bytes known are later)
  where
    by : (b : Bool) → is_among name known ≡ b → AllByRecursion AreBytes (filter (λ name. is_among name known) later) →
        AllByRecursion AreBytes (filter (λ name. is_among name known) (name ∷ later))
    by true is rest = rw is (each-contains AreBytes known name are (among_found known name is), rest)
    by false is rest = rw is rest

-- ---- nodes

-- A node whose names and properties are bytes, and so are those of the nodes below it.
abbrev IsByteNode : Sibling PropertyMap → Type 0
IsByteNode sibling =
    AreBytes sibling.name × ArePropertiesByName sibling.own × AreNodes ArePropertiesByName sibling.children × HaveByteNames sibling.children

each_node : (nodes : Nodes PropertyMap) → AreNodes ArePropertiesByName nodes → HaveByteNames nodes →
    AllByRecursion IsByteNode (siblings nodes)
each_node none are bytes = tt
each_node (node name own children later) are bytes = ((bytes.0, are.0.is_own, are.1, bytes.1), each_node later are.2 bytes.2)

-- The names of the images of a tree.
image_name_bytes : (tree : ImageTree) → IsImageTree tree → AllByRecursion AreBytes (names (images_in tree))
image_name_bytes tree is =
    subst (λ found. AllByRecursion AreBytes (names (nodes_or_none found))) (sym is.has_images)
    (node_names_bytes is.images (bytes-children_of images_name tree.root.children is.images is.has_images is.name_bytes))

-- The paths that a signature node records.
value_list : (value : List ℕ) → AreBytes value → IfSome (names_of_value value) (AllByRecursion AreBytes)
value_list value bytes = by (ends_with nat_eq value (0 ∷ []))
  where
    by : (b : Bool) → IfSome (cond b (Some (listed_names value)) None) (AllByRecursion AreBytes)
    by true = listed_bytes value bytes
    by false = tt

recorded_bytes : (own : PropertyMap) → ArePropertiesByName own →
    IfSome (option_and_then names_of_value (get own hashed_nodes_name)) (AllByRecursion AreBytes)
recorded_bytes own are = by (get own hashed_nodes_name) refl
  where
    by : (o : Option (List ℕ)) → get own hashed_nodes_name ≡ o → IfSome (option_and_then names_of_value o) (AllByRecursion AreBytes)
    by None there = tt
    by (Some value) there = value_list value (are hashed_nodes_name value there).value_bytes

-- ---- concerns about signatures

-- The path of a concern, if it has one.
abbrev pub HasBytePath : SignatureConcern → Type 0
HasBytePath NoNodes = ⊤
HasBytePath NoImages = ⊤
HasBytePath (Uncovered path) = AreBytes path
HasBytePath (Foreign path) = AreBytes path
HasBytePath Strings = ⊤

-- Those about a signature node, and about all of a configuration.
abbrev pub IsByteSignature : SignatureCoverage → Type 0
IsByteSignature signature = AreBytes signature.name × AllByRecursion HasBytePath signature.concerns

abbrev pub IsByteCoverage : ConfigurationCoverage → Type 0
IsByteCoverage configuration = AreBytes configuration.name × AllByRecursion IsByteSignature configuration.signatures

-- A needed part.
abbrev IsBytePart : NeededPart → Type 0
IsBytePart part = AreBytes part.path

images_are : (tree : ImageTree) (images : List (List ℕ)) → AllByRecursion AreBytes images →
    AllByRecursion IsBytePart (map (λ image. image_part image (covered_below tree image)) images)
images_are tree [] bytes = tt
images_are tree (image ∷ later) bytes =
    (path_bytes (images_name ∷ image ∷ []) (bytes_by_test images_name refl, (bytes.0, tt)), images_are tree later bytes.1)

no_image : (images : List (List ℕ)) → AllByRecursion HasBytePath (reference_concerns images)
no_image [] = (tt, tt)
no_image (first ∷ later) = tt

paths_are : (images : List (List ℕ)) (parts : List NeededPart) (recorded : Option (List (List ℕ))) → AllByRecursion IsBytePart parts →
    IfSome recorded (AllByRecursion AreBytes) → AllByRecursion HasBytePath (concerns_of_paths images parts recorded)
paths_are images parts None are bytes = (tt, tt)
paths_are images parts (Some recorded) are bytes =
    let uncovered = uncovered_concerns recorded parts in
    let foreign = foreign_paths (each_once recorded) (paths_of_parts parts) in
    each-append HasBytePath (reference_concerns images) (uncovered ++ map Foreign foreign) (no_image images)
    (each-append HasBytePath uncovered (map Foreign foreign)
    (each-map HasBytePath (λ part. Uncovered part.path) (filter (λ part. not (is_covered recorded part)) parts)
    (each-filter IsBytePart (λ part. not (is_covered recorded part)) parts are))
    (each-map HasBytePath Foreign foreign
    (each-filter AreBytes (λ path. not (is_among path (paths_of_parts parts))) (each_once recorded) (all_new [] recorded tt bytes))))

strings_are : (file : List ℕ) (root : Root FileNode) (value : Option (List ℕ)) (recorded : Option (List (List ℕ))) →
    AllByRecursion HasBytePath (concerns_of_strings file root value recorded)
strings_are file root value None = tt
strings_are file root value (Some recorded) = by (has_strings value (recorded_end file root recorded))
  where
    by : (b : Bool) → AllByRecursion HasBytePath (cond b [] (Strings ∷ []))
    by true = tt
    by false = (tt, tt)

module _ (file : List ℕ) (root : Root FileNode) (tree : ImageTree) (is : IsImageTree tree) where
  parts_are : (configuration : Sibling PropertyMap) → IsByteNode configuration → AllByRecursion IsBytePart (needed_parts tree configuration)
  parts_are configuration bytes = (
    bytes_by_test (47 ∷ []) refl,
    (
      path_bytes (configurations_name ∷ configuration.name ∷ []) (bytes_by_test configurations_name refl, (bytes.0, tt)),
      images_are tree (references tree configuration)
          (all_new [] _ tt (among_bytes (names (images_in tree)) (image_name_bytes tree is) (names_of_configuration configuration))),
    ),
  )

  signature_is : (configuration : Sibling PropertyMap) → IsByteNode configuration → (signature : Sibling PropertyMap) →
      IsByteNode signature → IsByteSignature (signature_coverage_in file root tree configuration signature)
  signature_is configuration bytes signature own = (
    own.0,
    each-append HasBytePath (path_concerns tree configuration signature)
        (concerns_of_strings file root (get signature.own hashed_strings_name) (recorded_paths signature))
        (paths_are (references tree configuration) (needed_parts tree configuration) (recorded_paths signature)
        (parts_are configuration bytes) (recorded_bytes signature.own own.1))
        (strings_are file root (get signature.own hashed_strings_name) (recorded_paths signature)),
  )

  configuration_is : (configuration : Sibling PropertyMap) → IsByteNode configuration →
      IsByteCoverage (configuration_coverage_in file root tree configuration)
  configuration_is configuration bytes = (
    bytes.0,
    each-map IsByteSignature (signature_coverage_in file root tree configuration) (signed_nodes configuration)
        (each-weaker IsByteNode (λ signature. IsByteSignature (signature_coverage_in file root tree configuration signature))
        (signature_is configuration bytes) (signed_nodes configuration)
        (each-filter IsByteNode is_signed (siblings configuration.children) (each_node configuration.children bytes.2 bytes.3))),
  )

  -- What the signatures of a tree cover.
  pub coverage_bytes : AllByRecursion IsByteCoverage (coverage_in file root tree)
  coverage_bytes =
      let nodes = configuration_nodes tree in
      let are = configurations_are_nodes tree is in
      each-map IsByteCoverage (configuration_coverage_in file root tree) (siblings nodes)
      (each-weaker IsByteNode (λ configuration. IsByteCoverage (configuration_coverage_in file root tree configuration)) configuration_is
      (siblings nodes) (each_node nodes are.0 are.1))

-- ---- unit addresses

below_are : {Own : Type 0} (parent : List (List ℕ)) (nodes : Nodes Own) → AllByRecursion AreBytes parent → HaveByteNames nodes →
    AllByRecursion (AllByRecursion AreBytes) (addresses_below parent nodes)
below_are parent none are bytes = tt
below_are parent (node name own children later) are bytes =
    each-append (AllByRecursion AreBytes) _ (addresses_below path children ++ addresses_below parent later) (own_is (has_address name))
    (each-append (AllByRecursion AreBytes) (addresses_below path children) (addresses_below parent later)
    (below_are path children path_is bytes.1) (below_are parent later are bytes.2))
  where
    path : List (List ℕ)
    path = parent ++ name ∷ []

    path_is : AllByRecursion AreBytes path
    path_is = each-append AreBytes parent (name ∷ []) are (bytes.0, tt)

    own_is : (b : Bool) → AllByRecursion (AllByRecursion AreBytes) (cond b (path ∷ []) [])
    own_is true = (path_is, tt)
    own_is false = tt

-- The names on the paths of the nodes with unit addresses.
pub addresses_bytes : (tree : ImageTree) → IsImageTree tree → AllByRecursion (AllByRecursion AreBytes) (unit_addresses tree.root)
addresses_bytes tree is = below_are [] tree.root.children tt is.name_bytes
