use Rattle.std.specs.Prelude.{ℕ, ◌+◌, ◌^◌, ◌<◌, IsTrue, List, [], ◌∷◌, ◌++◌, map, flat_map}
use Rattle.std.specs.Prelude.{Option, Some, None, IfSome, codes, filter, bytes_eq, length}
use Rattle.std.specs.Fmt.{decimal}
use Rattle.std.specs.List.{AllByRecursion}
use Rattle.std.specs.FinMap.{empty, from_entries}
use Rattle.bi_base.specs.Cells.{cell, AreBytes}
use Rattle.bi_blob.specs.Tree.{Nodes, none, node, Property, PropertyMap, HasNoZero, IsChildName}
use Rattle.bi_blob.specs.Tree.{AreDistinct}
use Rattle.bi_blob.specs.Layout.{strings_of, is_among}
use Rattle.bi_hash.specs.declared.algo.Algo.{Algo}
use Rattle.bi_hash.specs.Algos.{algorithm_name}
use Rattle.bi_hash.specs.Digests.{digest_of}
use Rattle.bi_fit.specs.declared.key.Key.{Key}
use Rattle.bi_fit.specs.declared.key.Key.TheVariants.{Kernel, Fdt, Ramdisk, Firmware, Loadables}
use Rattle.bi_fit.specs.declared.key.Key.TheVariants.{Script}
use Rattle.bi_fit.specs.Names.{images_name, configurations_name, algo_name, value_name}
use Rattle.bi_fit.specs.Names.{default_name, timestamp_name, key_name, all_keys}
use Rattle.bi_fit.specs.ImageTree.{ImageTree}

-- The flattened image tree that is built from a description, a list of images, and a plan of the
-- configurations and the hash nodes (Flattened Image Tree Specification; what is built is profile
-- of this project).

-- What a built tree has in addition to its images: a description and a time. Numbers become cells,
-- modulo 2^32.
pub record HeadModel : Type 0 where
  pub description : List ℕ
  pub time : ℕ

-- An image to be built: its name, its own description, if it has one, the names of its type,
-- architecture, operating system and compression, where it is loaded and entered, if that is given,
-- and its payload.
pub record ImageSpecModel : Type 0 where
  pub name : List ℕ
  pub description : Option (List ℕ)
  pub image_type : List ℕ
  pub arch : List ℕ
  pub os : List ℕ
  pub compression : List ℕ
  pub load : Option ℕ
  pub entry : Option ℕ
  pub payload : List ℕ

-- A configuration to be built: its name, its own description, if it has one, the boards that it is
-- compatible with, and the names of the images that it lists under each key.
pub record ConfigurationSpecModel : Type 0 where
  pub name : List ℕ
  pub description : Option (List ℕ)
  pub compatible : List (List ℕ)
  pub lists : Key → List (List ℕ)

-- What is built of images: the configurations, the name of the default one, and the algorithms of
-- the hash nodes that each image has.
pub record PlanModel : Type 0 where
  pub configurations : List ConfigurationSpecModel
  pub default : List ℕ
  pub algorithms : List Algo

-- A text as the value of a property: a zero follows it (Devicetree Specification, 2.2.4.2).
abbrev pub text_value : List ℕ → List ℕ
text_value text = text ++ 0 ∷ []

-- The type of the images that are listed under a key, by its name (U-Boot, boot/image.c:
-- uimage_type).
abbrev pub type_name : Key → List ℕ
type_name Kernel = codes "kernel"
type_name Fdt = codes "flat_dt"
type_name Ramdisk = codes "ramdisk"
type_name Firmware = codes "firmware"
type_name Loadables = codes "standalone"
type_name Script = codes "script"

-- A property of one cell, if its number is given.
abbrev pub cell_property : List ℕ → Option ℕ → List Property
cell_property name None = []
cell_property name (Some number) = (name, cell number) ∷ []

-- The description of an image or a configuration: its own, or else that of the tree.
abbrev pub description_of : HeadModel → Option (List ℕ) → List ℕ
description_of head None = head.description
description_of head (Some text) = text

-- The properties of the root.
abbrev pub built_root_properties : HeadModel → List Property
built_root_properties head =
    (codes "#address-cells", cell 1)
    ∷ (codes "description", text_value head.description)
    ∷ (timestamp_name, cell head.time)
    ∷ []

-- The properties of an image node.
abbrev pub built_image_properties : HeadModel → ImageSpecModel → List Property
built_image_properties head image =
    (codes "arch", text_value image.arch)
    ∷ (codes "compression", text_value image.compression)
    ∷ (codes "description", text_value (description_of head image.description))
    ∷ (codes "os", text_value image.os)
    ∷ (codes "type", text_value image.image_type)
    ∷ (cell_property (codes "load") image.load ++ cell_property (codes "entry") image.entry)

-- The properties of a hash node with this algorithm and this digest.
abbrev pub built_hash_properties : Algo → (digest : List ℕ) → List Property
built_hash_properties algo digest =
    (algo_name, text_value (algorithm_name algo)) ∷ (value_name, digest) ∷ []

-- The name of the hash node with this number: `hash-1`, `hash-2`, and so on.
abbrev pub hash_node_name : (number : ℕ) → List ℕ
hash_node_name number = codes "hash-" ++ decimal number

-- The hash nodes of a payload: one with each of these algorithms, in their order. The first has
-- this number.
abbrev pub built_hash_nodes : (number : ℕ) → List Algo → (payload : List ℕ) → Nodes PropertyMap
built_hash_nodes number [] payload = none
built_hash_nodes number (algo ∷ later) payload =
    node (hash_node_name number)
    (from_entries (built_hash_properties algo (digest_of algo payload))) none
    (built_hash_nodes (number + 1) later payload)

-- The image nodes, with hash nodes with these algorithms.
abbrev pub built_images : HeadModel → List Algo → List ImageSpecModel → Nodes PropertyMap
built_images head algorithms [] = none
built_images head algorithms (image ∷ later) =
    node image.name (from_entries (built_image_properties head image))
    (built_hash_nodes 1 algorithms image.payload)
    (built_images head algorithms later)

-- The property with this name that lists these texts, if there is at least one.
abbrev pub list_property : (name : List ℕ) → List (List ℕ) → List Property
list_property name [] = []
list_property name (text ∷ later) = (name, strings_of (text ∷ later)) ∷ []

-- The properties of a configuration.
abbrev pub built_configuration_properties : HeadModel → ConfigurationSpecModel → List Property
built_configuration_properties head configuration =
    (codes "description", text_value (description_of head configuration.description))
    ∷ (list_property (codes "compatible") configuration.compatible
    ++ flat_map (λ key. list_property (key_name key) (configuration.lists key)) all_keys)

-- The configuration nodes.
abbrev pub built_configurations : HeadModel → List ConfigurationSpecModel → Nodes PropertyMap
built_configurations head [] = none
built_configurations head (configuration ∷ later) =
    node configuration.name (from_entries (built_configuration_properties head configuration)) none
    (built_configurations head later)

-- The nodes below the root: `images`, and `configurations` with the name of the default one.
abbrev pub built_nodes : HeadModel → PlanModel → List ImageSpecModel → Nodes PropertyMap
built_nodes head plan images =
    node images_name empty (built_images head plan.algorithms images)
    (node configurations_name (from_entries ((default_name, text_value plan.default) ∷ []))
    (built_configurations head plan.configurations)
    none)

-- The tree that is built. The payloads are those of the images, in their order.
abbrev pub built_tree : HeadModel → PlanModel → List ImageSpecModel → ImageTree
built_tree head plan images = record {
  cpu = 0;
  reservations = [];
  root = record {
    own = from_entries (built_root_properties head);
    children = built_nodes head plan images;
  };
  payloads = map (λ image. Some image.payload) images;
}

-- The names of the images with this type, in their order.
abbrev pub names_of_type : (image_type : List ℕ) → List ImageSpecModel → List (List ℕ)
names_of_type image_type images =
    map (λ image. image.name) (filter (λ image. bytes_eq image.image_type image_type) images)

-- The name of the configuration that lists images by their types.
abbrev pub configuration_name : List ℕ
configuration_name = codes "conf-1"

-- The configuration that lists each of these images under the key for its type. An image with
-- another type is not listed.
abbrev pub configuration_by_types : List ImageSpecModel → ConfigurationSpecModel
configuration_by_types images = record {
  name = configuration_name;
  description = None;
  compatible = [];
  lists = λ key. names_of_type (type_name key) images;
}

-- The plan of this one configuration, and of hash nodes with these algorithms.
abbrev pub plan_by_types : List Algo → List ImageSpecModel → PlanModel
plan_by_types algorithms images = record {
  configurations = configuration_by_types images ∷ [];
  default = configuration_name;
  algorithms = algorithms;
}

-- A text that can be the value of a property: bytes, none of them zero.
pub record IsText (text : List ℕ) : Type 0 where
  pub bytes : AreBytes text
  pub no_zero : HasNoZero text

-- An image that can be built.
pub record IsImageSpec (image : ImageSpecModel) : Type 0 where
  pub is_name : IsChildName image.name
  pub name_bytes : AreBytes image.name
  pub description : IfSome image.description IsText
  pub image_type : IsText image.image_type
  pub arch : IsText image.arch
  pub os : IsText image.os
  pub compression : IsText image.compression
  pub payload_bytes : AreBytes image.payload

-- The names of images.
abbrev pub names_of_images : List ImageSpecModel → List (List ℕ)
names_of_images images = map (λ image. image.name) images

-- Images that can be built under a head: each one can, no two of them have the same name, and the
-- description is a text.
pub record CanBeBuilt (head : HeadModel) (images : List ImageSpecModel) : Type 0 where
  pub description : IsText head.description
  pub each : AllByRecursion IsImageSpec images
  pub distinct : AreDistinct (names_of_images images)

-- A configuration that can be built of images with these names: it lists no other names.
pub record IsConfigurationSpec (image_names : List (List ℕ))
    (configuration : ConfigurationSpecModel) : Type 0 where
  pub is_name : IsChildName configuration.name
  pub name_bytes : AreBytes configuration.name
  pub description : IfSome configuration.description IsText
  pub compatible : AllByRecursion IsText configuration.compatible
  pub of_images : (key : Key)
      → AllByRecursion (λ name. IsTrue (is_among name image_names)) (configuration.lists key)

-- The names of configurations.
abbrev pub configuration_names : List ConfigurationSpecModel → List (List ℕ)
configuration_names configurations = map (λ configuration. configuration.name) configurations

-- A plan for images with these names: each configuration can be built of them, no two
-- configurations have the same name, and the default is one of them. The hash nodes of an image are
-- so few that each has a number of its own.
pub record IsPlanFor (image_names : List (List ℕ)) (plan : PlanModel) : Type 0 where
  pub each : AllByRecursion (IsConfigurationSpec image_names) plan.configurations
  pub distinct : AreDistinct (configuration_names plan.configurations)
  pub default : IsTrue (is_among plan.default (configuration_names plan.configurations))
  pub few : length plan.algorithms < 2 ^ 64
