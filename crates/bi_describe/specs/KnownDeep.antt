use Rattle.std.specs.Prelude.{◌≡◌, ℕ, List, [], ◌∷◌, ◌++◌, codes, map, None, Option, Some}
use Rattle.std.specs.Prelude.{if◌then◌else◌}
use Rattle.std.specs.FinMap.{empty, from_sorted}
use Rattle.bi_base.specs.Limits.{widest}
use Rattle.bi_blob.specs.KnownTexts.{smallest_text}
use Rattle.bi_blob.specs.Layout.{text_of_tree}
use Rattle.bi_blob.specs.Tree.{none, node, Property, Root, tree_without_order}
use Rattle.bi_fit.specs.ImageTree.{ImageTree}
use Rattle.bi_fit.specs.Names.{images_name}
use Rattle.bi_norm.specs.Meaning.{OfLegacy, OfFit}
use Rattle.bi_common.specs.KnownWords.{lines}
use Rattle.bi_describe.specs.DeepComparing.{deep_comparison_without}
use Rattle.bi_describe.specs.DeepDescriptions.{deep_lines}
use Rattle.bi_describe.specs.DeepJson.{deep_json}
use Rattle.bi_describe.specs.Devicetrees.{DeepMeaning, Devicetree, HasInside, Insides}
use Rattle.bi_describe.specs.Differences.{line_bytes, text_of_differences}
use Rattle.bi_describe.specs.Ignoring.{Ignored, IgnoredNode, IgnoredProperty, IgnoredTime}
use Rattle.bi_describe.specs.Ignoring.{OfImageNamed, OfPart, PayloadPlace}
use Rattle.bi_describe.specs.KnownDescriptions.{sha256_digits}
use Rattle.bi_describe.specs.KnownDifferences.{differences_of}
use Rattle.bi_describe.specs.KnownIgnored.{image_a, inside_a, known_legacy, part_text}
use Rattle.bi_describe.specs.OpenedPayloads.{AreSameDeep, is_same_payload}

-- Small boot images with devicetrees inside, their deep descriptions, and what differs between
-- them. A reader can judge the definitions by them.

-- A devicetree whose root has one property, `model`, with this value, and one node `chosen`.
abbrev pub only_model : (value : List ℕ) → List Property
only_model value = (codes "model", value ++ 0 ∷ []) ∷ []

abbrev pub model_tree : (value : List ℕ) → Devicetree
model_tree value = record {
  cpu = 3;
  reservations = record { address = 0x1000; size = 0x20 } ∷ [];
  root = record {
    own = from_sorted (only_model value);
    children = node (codes "chosen") empty (node (codes "-") empty none none) none;
  };
}

-- This is inside the payload at one place, and nothing is inside any other.
abbrev pub inside_one : (payload : PayloadPlace) → Devicetree → Insides
inside_one payload tree place = if is_same_payload payload place then Some tree else None

-- A flattened image tree with one image, `a`, which has a property, and whose payload is said to be
-- the devicetree with this model.
abbrev pub only_load_address : List Property
only_load_address = (codes "load", 0 ∷ 0 ∷ 0 ∷ 2 ∷ []) ∷ []

abbrev pub tree_of_one : (payload : List ℕ) → ImageTree
tree_of_one payload = record {
  cpu = 0;
  reservations = [];
  root = record {
    own = empty;
    children = node images_name empty (node (codes "a") (from_sorted only_load_address) none none)
        none;
  };
  payloads = Some payload ∷ [];
}

abbrev pub deep_tree : (value : List ℕ) → DeepMeaning
deep_tree value = record {
  meaning = OfFit (tree_of_one value);
  insides = inside_one (OfImageNamed (codes "a")) (model_tree value);
}

-- A legacy image with two parts, the second of which is said to be a devicetree.
abbrev pub deep_parts : DeepMeaning
deep_parts = record {
  meaning = OfLegacy (known_legacy 7 (codes "a"));
  insides = inside_one (OfPart 1) (model_tree (codes "m"));
}

abbrev pub deep_texts : DeepMeaning → List (List ℕ)
deep_texts deep = map line_bytes (deep_lines deep)

-- The lines of the payload and of what is inside come before the properties of the image.
pub record DeepDescriptionsAreKnown : Type 0 where
  pub image : deep_texts (deep_tree (codes "m"))
      ≡ codes "kind fit"
      ∷ codes "boot-cpu 0"
      ∷ codes "node /"
      ∷ codes "node /images"
      ∷ codes "node /images/a"
      ∷ (codes "payload /images/a size 1 sha256 " ++ sha256_digits (codes "m"))
      ∷ codes "inside /images/a boot-cpu 3"
      ∷ codes "inside /images/a reservation 0x0000000000001000 0x0000000000000020"
      ∷ codes "node /images/a//"
      ∷ codes "property /images/a// model \"m\""
      ∷ codes "node /images/a//chosen"
      ∷ codes "node /images/a//chosen/%2D"
      ∷ codes "property /images/a load 0x00000002"
      ∷ []
  pub part : deep_texts deep_parts
      ≡ codes "kind legacy"
      ∷ codes "name k"
      ∷ codes "time 7"
      ∷ codes "load 0x00000000"
      ∷ codes "entry 0x00000000"
      ∷ codes "os linux"
      ∷ codes "arch arm"
      ∷ codes "type multi"
      ∷ codes "compression none"
      ∷ part_text (codes "0") (codes "a")
      ∷ part_text (codes "1") (codes "b")
      ∷ codes "inside part-1 boot-cpu 3"
      ∷ codes "inside part-1 reservation 0x0000000000001000 0x0000000000000020"
      ∷ codes "node part-1//"
      ∷ codes "property part-1// model \"m\""
      ∷ codes "node part-1//chosen"
      ∷ codes "node part-1//chosen/%2D"
      ∷ []
  pub json : deep_json (deep_tree (codes "m"))
      ≡ codes "{\"kind\":\"fit\",\"boot_cpu\":0,\"reservations\":[],\"root\":{\"properties\":["
      ++ (codes "],\"children\":[{\"name\":\"images\",\"properties\":[],\"children\":[{"
      ++ (codes "\"name\":\"a\",\"payload\":{\"size\":1,\"sha256\":\""
      ++ (sha256_digits (codes "m")
      ++ (codes "\",\"devicetree\":{\"boot_cpu\":3,\"reservations\":[{"
      ++ (codes "\"address\":\"0x0000000000001000\",\"size\":\"0x0000000000000020\"}],"
      ++ (codes "\"root\":{\"properties\":[{\"name\":\"model\",\"strings\":[\"m\"]}],"
      ++ (codes "\"children\":[{\"name\":\"chosen\",\"properties\":[],\"children\":[{"
      ++ (codes "\"name\":\"%2D\",\"properties\":[],\"children\":[]}]}]}}},"
      ++ (codes "\"properties\":[{\"name\":\"load\",\"hex\":\"00000002\"}],\"children\":[]}]}]}}"
      ++ codes "\n")))))))))

-- The models of the two devicetrees differ, and so do the bytes.
abbrev pub SameModels : List Ignored → Type 0
SameModels words = AreSameDeep words (deep_tree (codes "m")) (deep_tree (codes "n"))

abbrev pub differing_models : List Ignored → List ℕ
differing_models words =
    text_of_differences
    (deep_comparison_without words (deep_tree (codes "m")) (deep_tree (codes "n")))

-- The property `model` inside, and a node that is not there.
abbrev pub inner_model : Ignored
inner_model = IgnoredProperty (inside_a []) (codes "model")

abbrev pub inner_node : Ignored
inner_node = IgnoredNode (inside_a (codes "none" ∷ []))

pub record DeepComparisonsAreKnown : Type 0 where
  pub model : SameModels (inner_model ∷ [])
  pub root : SameModels (IgnoredNode (inside_a []) ∷ [])
  pub image : SameModels (IgnoredNode image_a ∷ [])
  pub nothing : SameModels [] → ⊥
  pub time : SameModels (IgnoredTime ∷ []) → ⊥
  pub other_node : SameModels (inner_node ∷ []) → ⊥
  -- A word for something inside opens the payload, even if it is not there.
  pub opened : differing_models (inner_node ∷ [])
      ≡ lines
      (codes "-property /images/a// model \"m\"" ∷ codes "+property /images/a// model \"n\"" ∷ [])

-- A line of the boot processor inside has a counterpart, and one of a reservation has none.
pub record InsideKeysAreKnown : Type 0 where
  pub cpu : differences_of
      (codes "inside /images/a boot-cpu 1" ∷ codes "inside /images/b boot-cpu 1" ∷ [])
      (codes "inside /images/a boot-cpu 2" ∷ [])
      ≡ lines
      (codes "-inside /images/a boot-cpu 1"
      ∷ codes "+inside /images/a boot-cpu 2"
      ∷ codes "-inside /images/b boot-cpu 1"
      ∷ [])
  pub reservation : differences_of
      (codes "inside /images/a reservation 0x1000 0x20" ∷ [])
      (codes "inside /images/a reservation 0x1000 0x40" ∷ [])
      ≡ lines
      (codes "-inside /images/a reservation 0x1000 0x20"
      ∷ codes "+inside /images/a reservation 0x1000 0x40"
      ∷ [])

-- A small tree. A payload that begins with a blob of it is a devicetree.
abbrev pub small_tree : Root (List Property)
small_tree = record { own = only_model (codes "m"); children = node (codes "chosen") [] none none }

-- A payload that is no blob, and one that is a flattened image tree, are no devicetrees.
pub record DevicetreesAreKnown : Type 0 where
  pub tree : HasInside widest (text_of_tree 4 0 [] small_tree ++ codes "more")
      (Some (record { cpu = 0; reservations = []; root = tree_without_order small_tree }))
  pub no_blob : HasInside widest (codes "abc") None
  pub image_tree : HasInside widest smallest_text None
