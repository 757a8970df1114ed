use Rattle.std.specs.Prelude.{◌≡◌, ℕ, true, List, [], ◌∷◌, ◌++◌, Some, codes}
use Rattle.bi_base.specs.Cells.{cell}
use Rattle.bi_blob.specs.Layout.{text_of_tree, tree_with_places}
use Rattle.bi_blob.specs.Tree.{Nodes, none, node, Property, Root, tree_without_order}
use Rattle.bi_blob.specs.Tree.{tree_without_places}
use Rattle.bi_coverage.specs.Coverage.{hashed_strings_name}
use Rattle.bi_coverage.specs.KnownCoverage.{list_value}
use Rattle.bi_coverage.specs.Signatures.{hashed_nodes_name}
use Rattle.bi_fit.specs.ImageTree.{ImageTree, tree_without_payloads}
use Rattle.bi_fit.specs.Names.{algo_name, configurations_name, data_name, default_name, images_name}
use Rattle.bi_fit.specs.Names.{value_name}
use Rattle.bi_hash.specs.KnownVerdicts.{sha256_of_abc}
use Rattle.bi_common.specs.declared.format.Format.TheVariants.{Lines, Json}
use Rattle.bi_common.specs.KnownWords.{lines}
use Rattle.bi_report.specs.declared.check.Allowed.{Allowed}
use Rattle.bi_report.specs.CheckedFiles.{concerns_text}
use Rattle.bi_report.specs.Checking.{Concern, allowed_by_default, ignore_name, tree_concerns}
use Rattle.bi_report.specs.SignedTrees.{coverage_in}

-- A signed file of three images with the concerns about it, by which a reader can judge the
-- definitions.

-- The properties of a hash node with the SHA-256 of `abc`.
abbrev pub sha256_properties : List Property
sha256_properties = (algo_name, codes "sha256" ++ 0 ∷ []) ∷ (value_name, sha256_of_abc) ∷ []

-- An image node with the payload `abc`, and a hash node with these properties, before later nodes.
abbrev pub digested_image : (name : List ℕ) → (hash : List Property) → Nodes (List Property)
    → Nodes (List Property)
digested_image name hash later =
    node name ((data_name, codes "abc") ∷ []) (node (codes "hash-1") hash none none) later

-- The properties of the configuration: it names an image with this name as its kernel, and two
-- others.
abbrev pub three_lists : (kernel : List ℕ) → List Property
three_lists kernel =
    (codes "kernel", list_value (kernel ∷ []))
    ∷ (codes "fdt", list_value (codes "fdt-1" ∷ []))
    ∷ (codes "ramdisk", list_value (codes "ramdisk-1" ∷ []))
    ∷ []

-- The name of the configuration.
abbrev pub default_configuration : List Property
default_configuration = (default_name, codes "conf-1" ++ 0 ∷ []) ∷ []

-- A tree with three images, of which the first has this name and a hash node with these
-- properties, and a configuration with this signature node.
abbrev pub signed_root : (kernel : List ℕ) → (hash signature : List Property)
    → Root (List Property)
signed_root kernel hash signature = record {
  own = [];
  children = node images_name []
      (digested_image kernel hash
      (digested_image (codes "fdt-1") sha256_properties
      (digested_image (codes "ramdisk-1") sha256_properties none)))
      (node configurations_name default_configuration
      (node (codes "conf-1") (three_lists kernel)
      (node (codes "signature-1") signature none none) none)
      none);
}

-- What a file with this tree means.
abbrev pub signed_meaning : Root (List Property) → ImageTree
signed_meaning root = record {
  cpu = 0;
  reservations = [];
  root = tree_without_payloads
      (tree_without_order (tree_without_places (tree_with_places [] root)));
  payloads = Some (codes "abc") ∷ Some (codes "abc") ∷ Some (codes "abc") ∷ [];
}

-- The concerns about it.
abbrev pub signed_concerns : Root (List Property) → List Concern
signed_concerns root =
    tree_concerns (signed_meaning root)
    (coverage_in (text_of_tree 4 0 [] root) (tree_with_places [] root) (signed_meaning root))

-- A signature with these later properties.
abbrev pub signature_and : List Property → List Property
signature_and later =
    (algo_name, codes "sha256,rsa2048" ++ 0 ∷ [])
    ∷ (codes "key-name-hint", codes "dev" ++ 0 ∷ [])
    ∷ (value_name, cell 1)
    ∷ later

-- One that records these paths, and covers this much of the strings block.
abbrev pub recording : (paths : List (List ℕ)) → (size : ℕ) → List Property
recording paths size =
    signature_and
    ((hashed_nodes_name, list_value paths) ∷ (hashed_strings_name, cell 0 ++ cell size) ∷ [])

-- All needed paths but those of the third image.
abbrev pub first_needed_paths : (kernel : List ℕ) → List (List ℕ)
first_needed_paths kernel =
    codes "/"
    ∷ codes "/configurations/conf-1"
    ∷ (codes "/images/" ++ kernel)
    ∷ (codes "/images/" ++ kernel ++ codes "/hash-1")
    ∷ codes "/images/fdt-1"
    ∷ codes "/images/fdt-1/hash-1"
    ∷ []

-- All needed paths.
abbrev pub all_paths : List (List ℕ)
all_paths =
    first_needed_paths (codes "kernel-1")
    ++ codes "/images/ramdisk-1" ∷ codes "/images/ramdisk-1/hash-1" ∷ []

-- The text of the concerns about the file with this signature, as lines.
abbrev pub lines_with : List Property → List ℕ
lines_with signature =
    concerns_text Lines allowed_by_default
    (signed_concerns (signed_root (codes "kernel-1") sha256_properties signature))

-- The line that the third image is not covered.
abbrev pub third_line : List ℕ
third_line = codes "uncovered conf-1 signature-1 /images/ramdisk-1"

-- The file whose signature records this property of the hash node of the first image, too.
abbrev pub ignoring : (ignore : List ℕ) → List ℕ
ignoring ignore =
    concerns_text Lines allowed_by_default
    (signed_concerns
    (signed_root (codes "kernel-1") (sha256_properties ++ (ignore_name, ignore) ∷ [])
    (recording (first_needed_paths (codes "kernel-1")) 98)))

-- What is said of the file: the third image is not covered, as long as one of its paths is not
-- recorded. If all are, nothing is. The strings block has 85 bytes, or 98 with `uboot-ignore`.
pub record SignedFileIsKnown : Type 0 where
  pub uncovered : lines_with (recording (first_needed_paths (codes "kernel-1")) 85)
      ≡ lines (third_line ∷ [])
  pub image_alone :
      lines_with
      (recording (first_needed_paths (codes "kernel-1") ++ codes "/images/ramdisk-1" ∷ []) 85)
      ≡ lines (third_line ∷ [])
  pub covered : lines_with (recording all_paths 85) ≡ []
  pub no_strings : lines_with (signature_and ((hashed_nodes_name, list_value all_paths) ∷ []))
      ≡ lines (codes "strings conf-1 signature-1" ∷ [])
  pub foreign : lines_with (recording (all_paths ++ codes "/images/x" ∷ []) 85)
      ≡ lines (codes "foreign conf-1 signature-1 /images/x" ∷ [])
  pub no_nodes : lines_with (signature_and []) ≡ lines (codes "no-nodes conf-1 signature-1" ∷ [])
  pub json : concerns_text Json allowed_by_default
      (signed_concerns
      (signed_root (codes "kernel-1") sha256_properties
      (recording (first_needed_paths (codes "kernel-1")) 85)))
      ≡ lines
      ((codes "{\"concerns\":[{\"concern\":\"uncovered\",\"configuration\":\"conf-1\","
      ++ codes "\"signature\":\"signature-1\",\"path\":\"/images/ramdisk-1\"}]}")
      ∷ [])
  pub allowed : concerns_text Lines (record allowed_by_default { uncovered = true })
      (signed_concerns
      (signed_root (codes "kernel-1") sha256_properties
      (recording (first_needed_paths (codes "kernel-1")) 85)))
      ≡ []
  pub skipped : ignoring (cell 1)
      ≡ lines
      (codes "skipped-hash kernel-1 hash-1" ∷ codes "unhashed kernel-1" ∷ third_line ∷ [])
  pub not_skipped : ignoring (cell 0) ≡ lines (third_line ∷ [])
  pub three_bytes : ignoring (0 ∷ 0 ∷ 1 ∷ []) ≡ lines (third_line ∷ [])
  pub unit_address : concerns_text Lines allowed_by_default
      (signed_concerns
      (signed_root (codes "kernel@1") sha256_properties
      (recording (first_needed_paths (codes "kernel@1")) 85)))
      ≡ lines (third_line ∷ codes "unit-address /images/kernel@1" ∷ [])
