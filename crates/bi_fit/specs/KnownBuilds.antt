use Rattle.std.specs.Prelude.{◌≡◌, ℕ, List, [], ◌∷◌, ◌++◌, length, map, flat_map, codes, Some, None}
use Rattle.bi_base.specs.Cells.{cell}
use Rattle.bi_blob.specs.Tree.{Nodes, none, node, Root, Property, names}
use Rattle.bi_blob.specs.Blob.{off_dt_strings, size_dt_struct, size_dt_strings}
use Rattle.bi_hash.specs.declared.algo.Algo.TheVariants.{Crc32, Sha256}
use Rattle.bi_hash.specs.Digests.{digest_of}
use Rattle.bi_fit.specs.declared.form.Form.TheVariants.{Embedded}
use Rattle.bi_fit.specs.declared.key.Key.{Key}
use Rattle.bi_fit.specs.declared.key.Key.TheVariants.{Kernel, Fdt, Ramdisk, Firmware, Loadables}
use Rattle.bi_fit.specs.declared.key.Key.TheVariants.{Script}
use Rattle.bi_fit.specs.Names.{key_name, all_keys}
use Rattle.bi_fit.specs.Text.{normal_tree, fit_text}
use Rattle.bi_fit.specs.ImageTree.{ImageTree}
use Rattle.bi_fit.specs.Judgement.{ListedImage, ListedImages, NoKey, listed_of, default_of}
use Rattle.bi_fit.specs.Building.{HeadModel, ImageSpecModel, ConfigurationSpecModel, PlanModel}
use Rattle.bi_fit.specs.Building.{text_value, type_name, cell_property, list_property}
use Rattle.bi_fit.specs.Building.{built_image_properties}
use Rattle.bi_fit.specs.Building.{built_hash_nodes, hash_node_name, built_tree, plan_by_types}
use Rattle.bi_fit.specs.Building.{built_configuration_properties, configuration_by_types}

-- Small built trees with their nodes and properties, by which a reader can judge the definitions.

-- The description `k`, and time 1.
abbrev pub known_head : HeadModel
known_head = record { description = codes "k"; time = 1 }

-- A kernel with a load address and another entry point, and a ramdisk without either.
abbrev pub known_kernel : ImageSpecModel
known_kernel = record {
  name = codes "kernel-1";
  description = None;
  image_type = codes "kernel";
  arch = codes "arm";
  os = codes "linux";
  compression = codes "none";
  load = Some 0x8000;
  entry = Some 0x8040;
  payload = codes "hello";
}

abbrev pub known_ramdisk : ImageSpecModel
known_ramdisk = record {
  name = codes "ramdisk-1";
  description = None;
  image_type = codes "ramdisk";
  arch = codes "arm";
  os = codes "linux";
  compression = codes "none";
  load = None;
  entry = None;
  payload = codes "abc";
}

-- The plan with one configuration that lists images by their types, and a SHA-256 in each image.
abbrev pub known_plan : List ImageSpecModel → PlanModel
known_plan images = plan_by_types (Sha256 ∷ []) images

-- Both images.
abbrev pub known_images : List ImageSpecModel
known_images = known_kernel ∷ known_ramdisk ∷ []

-- A hash node with this digest.
abbrev pub known_hash : List ℕ → Nodes (List Property)
known_hash digest =
    node (codes "hash-1")
    ((codes "algo", text_value (codes "sha256")) ∷ (codes "value", digest) ∷ [])
    none none

-- The tree in byte order, with these digests.
abbrev pub known_tree : (kernel_digest ramdisk_digest : List ℕ) → Root (List Property)
known_tree kernel_digest ramdisk_digest = record {
  own =
      (codes "#address-cells", cell 1)
      ∷ (codes "description", text_value (codes "k"))
      ∷ (codes "timestamp", cell 1)
      ∷ [];
  children =
      node (codes "images") []
      (node (codes "kernel-1")
      ((codes "arch", text_value (codes "arm"))
      ∷ (codes "compression", text_value (codes "none"))
      ∷ (codes "data", codes "hello")
      ∷ (codes "description", text_value (codes "k"))
      ∷ (codes "entry", cell 0x8040)
      ∷ (codes "load", cell 0x8000)
      ∷ (codes "os", text_value (codes "linux"))
      ∷ (codes "type", text_value (codes "kernel"))
      ∷ [])
      (known_hash kernel_digest)
      (node (codes "ramdisk-1")
      ((codes "arch", text_value (codes "arm"))
      ∷ (codes "compression", text_value (codes "none"))
      ∷ (codes "data", codes "abc")
      ∷ (codes "description", text_value (codes "k"))
      ∷ (codes "os", text_value (codes "linux"))
      ∷ (codes "type", text_value (codes "ramdisk"))
      ∷ [])
      (known_hash ramdisk_digest)
      none))
      (node (codes "configurations")
      ((codes "default", text_value (codes "conf-1")) ∷ [])
      (node (codes "conf-1")
      ((codes "description", text_value (codes "k"))
      ∷ (codes "kernel", text_value (codes "kernel-1"))
      ∷ (codes "ramdisk", text_value (codes "ramdisk-1"))
      ∷ [])
      none none)
      none);
}

-- Its text.
abbrev pub known_text : List ℕ
known_text = fit_text Embedded (built_tree known_head (known_plan known_images) known_images)

-- The built tree is this one with the SHA-256 of each payload, and its text has 824 bytes: the
-- structure block has 656, and the strings block (at 712) has 112.
pub record BuiltIsKnown : Type 0 where
  pub is_tree :
      normal_tree Embedded (built_tree known_head (known_plan known_images) known_images)
      ≡ known_tree (digest_of Sha256 (codes "hello")) (digest_of Sha256 (codes "abc"))
  pub is_length : length known_text ≡ 824
  pub structure_size : size_dt_struct known_text ≡ 656
  pub strings_begin : off_dt_strings known_text ≡ 712
  pub strings_size : size_dt_strings known_text ≡ 112

-- An image with this name and the type of a key, otherwise like the ramdisk.
abbrev pub known_image_of : Key → List ℕ → ImageSpecModel
known_image_of key name = record known_ramdisk { name = name; image_type = type_name key }

-- An image of the type of each key, and two of one of the types, in another order than that of the
-- keys, and an image of a type that has no key.
abbrev pub images_of_each_key : List ImageSpecModel
images_of_each_key =
    known_image_of Script (codes "a")
    ∷ known_image_of Loadables (codes "b")
    ∷ known_image_of Firmware (codes "c")
    ∷ known_image_of Ramdisk (codes "d")
    ∷ known_image_of Loadables (codes "e")
    ∷ record known_ramdisk { name = codes "z"; image_type = codes "kernel_noload" }
    ∷ known_image_of Fdt (codes "f")
    ∷ known_image_of Kernel (codes "g")
    ∷ []

-- The names of the keys in their order, the types of the images that are listed under them, and
-- the lists of a configuration by types in the order of the keys. The images of one type stay in
-- their order.
pub record EachKeyIsKnown : Type 0 where
  pub names : map key_name all_keys
      ≡ codes "kernel" ∷ codes "fdt" ∷ codes "ramdisk"
      ∷ codes "firmware" ∷ codes "loadables" ∷ codes "script" ∷ []
  pub types : map type_name all_keys
      ≡ codes "kernel" ∷ codes "flat_dt" ∷ codes "ramdisk"
      ∷ codes "firmware" ∷ codes "standalone" ∷ codes "script" ∷ []
  pub lists :
      built_configuration_properties known_head (configuration_by_types images_of_each_key)
      ≡ (codes "description", text_value (codes "k"))
      ∷ (codes "kernel", text_value (codes "g"))
      ∷ (codes "fdt", text_value (codes "f"))
      ∷ (codes "ramdisk", text_value (codes "d"))
      ∷ (codes "firmware", text_value (codes "c"))
      ∷ (codes "loadables", text_value (codes "b") ++ text_value (codes "e"))
      ∷ (codes "script", text_value (codes "a"))
      ∷ []

-- A devicetree for a board, with this name and this payload.
abbrev pub board_devicetree : (name payload : List ℕ) → ImageSpecModel
board_devicetree name payload = record known_ramdisk {
  name = name;
  image_type = codes "flat_dt";
  payload = payload;
}

-- The kernel of both boards.
abbrev pub kernel_of_boards : ImageSpecModel
kernel_of_boards = record known_kernel {
  name = codes "k";
  entry = Some 0x8000;
  payload = codes "x";
}

-- The kernel and two devicetrees.
abbrev pub images_of_boards : List ImageSpecModel
images_of_boards =
    kernel_of_boards
    ∷ board_devicetree (codes "d") (codes "y")
    ∷ board_devicetree (codes "e") (codes "z")
    ∷ []

-- What the configuration of the first board lists, and that of the second.
abbrev pub lists_of_first : Key → List (List ℕ)
lists_of_first Kernel = codes "k" ∷ []
lists_of_first Fdt = codes "d" ∷ []
lists_of_first key = []

abbrev pub lists_of_second : Key → List (List ℕ)
lists_of_second Kernel = codes "k" ∷ []
lists_of_second Fdt = codes "e" ∷ codes "d" ∷ []
lists_of_second key = []

-- Both configurations.
abbrev pub first_board : ConfigurationSpecModel
first_board = record {
  name = codes "a";
  description = None;
  compatible = [];
  lists = lists_of_first;
}

abbrev pub second_board : ConfigurationSpecModel
second_board = record {
  name = codes "b";
  description = None;
  compatible = [];
  lists = lists_of_second;
}

-- Two boards with the same kernel, of which the second is the default. Each image has a CRC-32 and
-- a SHA-256.
abbrev pub plan_of_boards : PlanModel
plan_of_boards = record {
  configurations = first_board ∷ second_board ∷ [];
  default = codes "b";
  algorithms = Crc32 ∷ Sha256 ∷ [];
}

-- The tree of both boards.
abbrev pub tree_of_boards : ImageTree
tree_of_boards = built_tree known_head plan_of_boards images_of_boards

-- The two hash nodes of a payload, with the properties of each in byte order.
abbrev pub hashes_of_board : (payload : List ℕ) → Nodes (List Property)
hashes_of_board payload =
    node (codes "hash-1")
    ((codes "algo", text_value (codes "crc32"))
    ∷ (codes "value", digest_of Crc32 payload)
    ∷ [])
    none
    (node (codes "hash-2")
    ((codes "algo", text_value (codes "sha256"))
    ∷ (codes "value", digest_of Sha256 payload)
    ∷ [])
    none none)

-- The properties of the devicetree of a board with this payload, in byte order.
abbrev pub properties_of_devicetree : (payload : List ℕ) → List Property
properties_of_devicetree payload =
    (codes "arch", text_value (codes "arm"))
    ∷ (codes "compression", text_value (codes "none"))
    ∷ (codes "data", payload)
    ∷ (codes "description", text_value (codes "k"))
    ∷ (codes "os", text_value (codes "linux"))
    ∷ (codes "type", text_value (codes "flat_dt"))
    ∷ []

-- The tree of both boards, with the properties of each node in byte order.
abbrev pub known_tree_of_boards : Root (List Property)
known_tree_of_boards = record {
  own =
      (codes "#address-cells", cell 1)
      ∷ (codes "description", text_value (codes "k"))
      ∷ (codes "timestamp", cell 1)
      ∷ [];
  children =
      node (codes "images") []
      (node (codes "k")
      ((codes "arch", text_value (codes "arm"))
      ∷ (codes "compression", text_value (codes "none"))
      ∷ (codes "data", codes "x")
      ∷ (codes "description", text_value (codes "k"))
      ∷ (codes "entry", cell 0x8000)
      ∷ (codes "load", cell 0x8000)
      ∷ (codes "os", text_value (codes "linux"))
      ∷ (codes "type", text_value (codes "kernel"))
      ∷ [])
      (hashes_of_board (codes "x"))
      (node (codes "d") (properties_of_devicetree (codes "y")) (hashes_of_board (codes "y"))
      (node (codes "e") (properties_of_devicetree (codes "z")) (hashes_of_board (codes "z"))
      none)))
      (node (codes "configurations")
      ((codes "default", text_value (codes "b")) ∷ [])
      (node (codes "a")
      ((codes "description", text_value (codes "k"))
      ∷ (codes "fdt", text_value (codes "d"))
      ∷ (codes "kernel", text_value (codes "k"))
      ∷ [])
      none
      (node (codes "b")
      ((codes "description", text_value (codes "k"))
      ∷ (codes "fdt", text_value (codes "e") ++ text_value (codes "d"))
      ∷ (codes "kernel", text_value (codes "k"))
      ∷ [])
      none none))
      none);
}

-- A listed image.
abbrev pub board_image : (name payload : List ℕ) → ListedImage
board_image name payload = record { name = name; payload = Some payload }

-- The built tree of both boards is this one. Each configuration lists the images that it names, in
-- the order in which it names them, and the second configuration is the default.
pub record BoardsAreKnown : Type 0 where
  pub is_tree : normal_tree Embedded tree_of_boards ≡ known_tree_of_boards
  pub first_fdt : listed_of tree_of_boards (codes "a") Fdt
      ≡ ListedImages (board_image (codes "d") (codes "y") ∷ [])
  pub first_ramdisk : listed_of tree_of_boards (codes "a") Ramdisk ≡ NoKey
  pub second_kernel : listed_of tree_of_boards (codes "b") Kernel
      ≡ ListedImages (board_image (codes "k") (codes "x") ∷ [])
  pub second_fdt : listed_of tree_of_boards (codes "b") Fdt
      ≡ ListedImages
      (board_image (codes "e") (codes "z") ∷ board_image (codes "d") (codes "y") ∷ [])
  pub default : default_of tree_of_boards ≡ Some (codes "b")

-- An image without an algorithm has no hash node. An algorithm that is given twice has two of them,
-- and the tenth hash node has a number of two digits.
pub record HashNodesAreKnown : Type 0 where
  pub no_algorithm : built_hash_nodes 1 [] (codes "x") ≡ none
  pub twice : names (built_hash_nodes 1 (Crc32 ∷ Crc32 ∷ []) (codes "x"))
      ≡ codes "hash-1" ∷ codes "hash-2" ∷ []
  pub tenth : hash_node_name 10 ≡ codes "hash-10"

-- The kernel of both boards with a description of its own, the first board with two names of what
-- it is compatible with, and the second with a description of its own.
abbrev pub described_kernel : ImageSpecModel
described_kernel = record kernel_of_boards { description = Some (codes "Kernel") }

abbrev pub compatible_board : ConfigurationSpecModel
compatible_board =
    record first_board { compatible = codes "acme,one" ∷ codes "acme,two" ∷ [] }

abbrev pub described_board : ConfigurationSpecModel
described_board = record second_board { description = Some (codes "second") }

-- An own description is in place of that of the tree, and `compatible` has its texts in their
-- order. Without any of them nothing is in place of the description of the tree, and there is no
-- `compatible`.
pub record OwnTextsAreKnown : Type 0 where
  pub image : built_image_properties known_head described_kernel
      ≡ (codes "arch", text_value (codes "arm"))
      ∷ (codes "compression", text_value (codes "none"))
      ∷ (codes "description", text_value (codes "Kernel"))
      ∷ (codes "os", text_value (codes "linux"))
      ∷ (codes "type", text_value (codes "kernel"))
      ∷ (codes "load", cell 0x8000)
      ∷ (codes "entry", cell 0x8000)
      ∷ []
  pub compatible : built_configuration_properties known_head compatible_board
      ≡ (codes "description", text_value (codes "k"))
      ∷ (codes "compatible", text_value (codes "acme,one") ++ text_value (codes "acme,two"))
      ∷ (codes "kernel", text_value (codes "k"))
      ∷ (codes "fdt", text_value (codes "d"))
      ∷ []
  pub configuration : built_configuration_properties known_head described_board
      ≡ (codes "description", text_value (codes "second"))
      ∷ (codes "kernel", text_value (codes "k"))
      ∷ (codes "fdt", text_value (codes "e") ++ text_value (codes "d"))
      ∷ []
  pub plain_image : (head : HeadModel) (image : ImageSpecModel) → image.description ≡ None
      → built_image_properties head image
      ≡ (codes "arch", text_value image.arch)
      ∷ (codes "compression", text_value image.compression)
      ∷ (codes "description", text_value head.description)
      ∷ (codes "os", text_value image.os)
      ∷ (codes "type", text_value image.image_type)
      ∷ (cell_property (codes "load") image.load ++ cell_property (codes "entry") image.entry)
  pub plain_configuration : (head : HeadModel) (configuration : ConfigurationSpecModel)
      → configuration.description ≡ None → configuration.compatible ≡ []
      → built_configuration_properties head configuration
      ≡ (codes "description", text_value head.description)
      ∷ flat_map (λ key. list_property (key_name key) (configuration.lists key)) all_keys
