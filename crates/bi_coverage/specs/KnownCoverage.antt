use Rattle.std.specs.Prelude.{◌≡◌, ℕ, List, [], ◌∷◌, ◌++◌, length, map, flat_map, codes}
use Rattle.std.specs.Prelude.{None, Some}
use Rattle.bi_base.specs.Cells.{cell}
use Rattle.bi_blob.specs.Tree.{Nodes, none, node, FileNode, Root, Property}
use Rattle.bi_blob.specs.Events.{file_events_of}
use Rattle.bi_blob.specs.Layout.{text_of_tree, tree_with_places}
use Rattle.bi_fdt.specs.TableItems.{items_of}
use Rattle.bi_fit.specs.declared.image.Place.TheVariants as place
use Rattle.bi_fit.specs.Content.{FitModel, tree_of}
use Rattle.bi_fit.specs.Names.{images_name, configurations_name, value_name, data_name}
use Rattle.bi_fit.specs.Names.{data_size_name}
use Rattle.bi_coverage.specs.Coverage.{ConfigurationCoverage, SignatureConcern, NoNodes}
use Rattle.bi_coverage.specs.Coverage.{Uncovered, Foreign, Strings, coverage_of}
use Rattle.bi_coverage.specs.Coverage.{concerns_of_paths, concerns_of_strings, hashed_strings_name}
use Rattle.bi_coverage.specs.Signatures.{NeededPart, all_needed_length, covered_names}
use Rattle.bi_coverage.specs.Signatures.{hashed_nodes_name}
use Rattle.bi_coverage.specs.Signatures.{image_part, single_part}

-- A small file whose configuration is signed, with what its signature covers, by which a reader can
-- judge the definitions.

-- A value that lists these names.
abbrev pub list_value : List (List ℕ) → List ℕ
list_value names = flat_map (λ name. name ++ 0 ∷ []) names

-- An image node with a hash node.
abbrev pub hash_image : (name : List ℕ) → (later : Nodes (List Property)) → Nodes (List Property)
hash_image name later = node name [] (node (codes "hash-1") [] none none) later

-- The properties of the configuration: it names three images. Its other properties name none.
abbrev pub configuration_properties : List Property
configuration_properties =
    (codes "kernel", list_value (codes "kernel-1" ∷ []))
    ∷ (codes "fdt", list_value (codes "fdt-1" ∷ codes "none" ∷ codes "fdt-1" ∷ []))
    ∷ (codes "ramdisk", list_value (codes "ramdisk-1" ∷ []))
    ∷ (codes "description", list_value (codes "other-1" ∷ []))
    ∷ (data_size_name, cell 1)
    ∷ []

-- A tree with four images, and a configuration with this signature node.
abbrev pub coverage_tree : (signature : List Property) → Root (List Property)
coverage_tree signature = record {
  own = [];
  children = node images_name []
      (hash_image (codes "kernel-1")
      (node (codes "fdt-1") [] (node (codes "cipher") [] none (node (codes "hash-1") [] none none))
      (hash_image (codes "ramdisk-1") (hash_image (codes "other-1") none))))
      (node configurations_name []
      (node (codes "conf-1") configuration_properties
      (node (codes "signature-1") signature none none) none)
      none);
}

-- What a file with this tree holds.
abbrev pub signed_content : Root (List Property) → FitModel
signed_content root = record {
  blob = record {
    file = text_of_tree 4 0 [] root;
    cpu = 0;
    total_size = length (text_of_tree 4 0 [] root);
    reservations = [];
    table = items_of 0 (file_events_of (tree_with_places [] root));
  };
  images = map (λ name. record { name = name; payload = None; place = place.Absent })
      (codes "kernel-1" ∷ codes "fdt-1" ∷ codes "ramdisk-1" ∷ codes "other-1" ∷ []);
}

-- A signature with a value, which records these paths and reaches this end of the strings.
abbrev pub signature_of : (recorded : List (List ℕ)) → (end : ℕ) → List Property
signature_of recorded end =
    (value_name, cell 1)
    ∷ (hashed_nodes_name, list_value recorded)
    ∷ (hashed_strings_name, cell 0 ++ cell end)
    ∷ []

-- All that the configuration needs, but what is below its third image.
abbrev pub most_paths : List (List ℕ)
most_paths =
    codes "/"
    ∷ codes "/configurations/conf-1"
    ∷ codes "/images/fdt-1"
    ∷ codes "/images/fdt-1/hash-1"
    ∷ codes "/images/fdt-1/cipher"
    ∷ codes "/images/kernel-1"
    ∷ codes "/images/kernel-1/hash-1"
    ∷ codes "/images/ramdisk-1"
    ∷ []

-- The last path that it needs.
abbrev pub last_path : List ℕ
last_path = codes "/images/ramdisk-1/hash-1"

-- The concerns about the signature.
abbrev pub known_coverage : List SignatureConcern → List ConfigurationCoverage
known_coverage concerns =
    record {
      name = codes "conf-1";
      signatures = record { name = codes "signature-1"; concerns = concerns } ∷ [];
    } ∷ []

-- What a signature of a configuration `c` needs that names one image, with a hash node and a child
-- `cipher`.
abbrev pub coverage_parts : List NeededPart
coverage_parts =
    single_part []
    ∷ single_part (configurations_name ∷ codes "c" ∷ [])
    ∷ image_part (codes "a")
    (covered_names (codes "cipher" ∷ codes "other" ∷ codes "hash-1" ∷ []))
    ∷ []

-- The concerns about the paths that it records.
abbrev pub concerns_about_paths : (recorded : List (List ℕ)) → List SignatureConcern
concerns_about_paths recorded =
    concerns_of_paths (codes "a" ∷ []) coverage_parts (Some recorded)

-- All that it needs, but the last path.
abbrev pub first_paths : List (List ℕ)
first_paths =
    codes "/images/a/hash-1" ∷ codes "/" ∷ codes "/images/a" ∷ codes "/configurations/c" ∷ []

-- The tokens of two properties. The name of the first is at 5 in the strings block, and that of the
-- second, which is `data`, is at 50.
abbrev pub tokens_file : List ℕ
tokens_file =
    cell 3 ++ (cell 0 ++ (cell 5 ++ (cell 3 ++ (cell 0 ++ cell 50))))

-- The root of that file: it has these properties.
abbrev pub tokens_root : Root FileNode
tokens_root = record {
  own = record {
    place = 0;
    properties = record { name = codes "ab"; value = []; place = 0 }
        ∷ record { name = data_name; value = []; place = 12 }
        ∷ [];
  };
  children = none;
}

-- The concern about the strings of a signature that records these paths and reaches this end.
abbrev pub concerns_about_strings : (recorded : List (List ℕ)) → (end : ℕ)
    → List SignatureConcern
concerns_about_strings recorded end =
    concerns_of_strings tokens_file tokens_root (Some (cell 0 ++ cell end)) (Some recorded)

-- The concerns about signatures. The name of the recorded property ends at 8 in the strings block.
-- That of `data` does not count.
pub record CoverageIsKnown : Type 0 where
  pub covered : concerns_about_paths (codes "/images/a/cipher" ∷ first_paths) ≡ []
  pub uncovered : concerns_about_paths first_paths ≡ Uncovered (codes "/images/a") ∷ []
  pub foreign :
      concerns_about_paths
      (codes "/images/x" ∷ codes "/images/a/cipher" ∷ codes "/x" ∷ codes "/images/x" ∷ first_paths)
      ≡ Foreign (codes "/images/x") ∷ Foreign (codes "/x") ∷ []
  pub enough_strings : concerns_about_strings (codes "/" ∷ []) 8 ≡ []
  pub short_strings : concerns_about_strings (codes "/" ∷ []) 7 ≡ Strings ∷ []
  pub other_strings : concerns_about_strings (codes "/x" ∷ []) 0 ≡ []
  pub all_uncovered :
      coverage_of (signed_content (coverage_tree (signature_of (last_path ∷ []) 0)))
      ≡ known_coverage
      (Uncovered (codes "/")
      ∷ Uncovered (codes "/configurations/conf-1")
      ∷ Uncovered (codes "/images/fdt-1")
      ∷ Uncovered (codes "/images/kernel-1")
      ∷ Uncovered (codes "/images/ramdisk-1")
      ∷ [])
  pub no_list :
      coverage_of
      (signed_content
      (coverage_tree ((value_name, cell 1) ∷ (hashed_nodes_name, codes "/") ∷ [])))
      ≡ known_coverage (NoNodes ∷ [])
  pub unsigned :
      coverage_of
      (signed_content
      (coverage_tree ((value_name, []) ∷ (hashed_nodes_name, list_value most_paths) ∷ [])))
      ≡ record { name = codes "conf-1"; signatures = [] } ∷ []
  pub needed :
      all_needed_length (tree_of (signed_content (coverage_tree (signature_of most_paths 31))))
      ≡ 156
