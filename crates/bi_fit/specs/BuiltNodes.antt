use Rattle.std.specs.Prelude.{◌≡◌, ℕ, ◌+◌, List, [], ◌∷◌, map, flat_map, Option, None, Some}
use Rattle.std.specs.Prelude.{string_bytes}
use Rattle.std.specs.List.{AllZip}
use Rattle.std.specs.Ordering.{nat_cmp}
use Rattle.std.specs.Cmp.Lexicographic.{slice_cmp}
use Rattle.std.specs.FinMap.{entries, from_entries}
use Rattle.bi_base.specs.Cells.{cell}
use Rattle.bi_base.specs.Slices.{bytes_of}
use Rattle.bi_blob.specs.Tree.{Nodes, none, node, Property, PropertyMap, with_each}
use Rattle.bi_blob.specs.Layout.{strings_of}
use Rattle.bi_hash.specs.declared.algo.Algo.{Algo}
use Rattle.bi_hash.specs.Digests.{digest_of}
use Rattle.bi_fit.specs.declared.form.Form.{Form}
use Rattle.bi_fit.specs.declared.key.Key.TheVariants.{Kernel, Fdt, Ramdisk, Firmware, Loadables}
use Rattle.bi_fit.specs.declared.key.Key.TheVariants.{Script}
use Rattle.bi_fit.specs.Building.{HeadModel, ImageSpecModel, ConfigurationSpecModel, PlanModel}
use Rattle.bi_fit.specs.Building.{CanBeBuilt, IsPlanFor, names_of_images, text_value}
use Rattle.bi_fit.specs.Building.{type_name, names_of_type, hash_node_name, built_hash_nodes}
use Rattle.bi_fit.specs.Building.{built_hash_properties, built_images, built_configurations}
use Rattle.bi_fit.specs.Building.{built_configuration_properties}
use Rattle.bi_fit.specs.Names.{images_name, configurations_name, default_name}
use Rattle.bi_fit.specs.Text.{alignment_of, with_payloads}
use Rattle.bi_fit.specs.declared.building.by_types.TypeLists.{TypeLists}
use Rattle.bi_fit.specs.declared.building.document.BuiltParts.{BuiltParts}
use Rattle.bi_fit.specs.declared.building.lists.ListValues.{ListValues}
use Rattle.bi_fit.specs.NamedImages.{head_model, named_models, configuration_spec_models}
use Rattle.bi_fit.specs.NamedImages.{plan_model}
use Rattle.bi_fit.specs.PropertyMapModels.{PropertyMapModel, with_property_value}

-- What is added to the document of a tree to be built, node by node.

-- These values have the texts of a configuration under `compatible`, and the names that it lists
-- under each key.
pub record AreListValues (configuration : ConfigurationSpecModel) (lists : ListValues)
    : Type 0 where
  pub compatible : lists.compatible.items ≡ strings_of configuration.compatible
  pub kernel : lists.kernel.items ≡ strings_of (configuration.lists Kernel)
  pub fdt : lists.fdt.items ≡ strings_of (configuration.lists Fdt)
  pub ramdisk : lists.ramdisk.items ≡ strings_of (configuration.lists Ramdisk)
  pub firmware : lists.firmware.items ≡ strings_of (configuration.lists Firmware)
  pub loadables : lists.loadables.items ≡ strings_of (configuration.lists Loadables)
  pub script : lists.script.items ≡ strings_of (configuration.lists Script)

-- These lists have the names of the images with the type of each key.
pub record AreTypeLists (images : List ImageSpecModel) (lists : TypeLists) : Type 0 where
  pub kernel : bytes_of lists.kernel.items ≡ names_of_type (type_name Kernel) images
  pub fdt : bytes_of lists.fdt.items ≡ names_of_type (type_name Fdt) images
  pub ramdisk : bytes_of lists.ramdisk.items ≡ names_of_type (type_name Ramdisk) images
  pub firmware : bytes_of lists.firmware.items ≡ names_of_type (type_name Firmware) images
  pub loadables : bytes_of lists.loadables.items ≡ names_of_type (type_name Loadables) images
  pub script : bytes_of lists.script.items ≡ names_of_type (type_name Script) images

-- Properties in byte order of their names.
abbrev pub in_order : List Property → List Property
in_order properties = entries {R = slice_cmp nat_cmp} (from_entries properties)

-- The payloads of images.
abbrev pub built_payloads : List ImageSpecModel → List (Option (List ℕ))
built_payloads images = map (λ image. Some image.payload) images

-- The digests of a payload with these algorithms, one after another.
abbrev pub built_digests : List Algo → (payload : List ℕ) → List ℕ
built_digests algorithms payload = flat_map (λ algo. digest_of algo payload) algorithms

-- The names of the hash nodes with these algorithms. The first has this number.
abbrev pub hash_node_names : (number : ℕ) → List Algo → List (List ℕ)
hash_node_names number [] = []
hash_node_names number (algo ∷ later) = hash_node_name number ∷ hash_node_names (number + 1) later

-- The hash nodes of a payload with these algorithms: the name and the properties of each. The first
-- has this number.
abbrev pub built_hash_leaves : (number : ℕ) → List Algo → (payload : List ℕ)
    → List (List ℕ × PropertyMap)
built_hash_leaves number [] payload = []
built_hash_leaves number (algo ∷ later) payload =
    (hash_node_name number, from_entries (built_hash_properties algo (digest_of algo payload)))
    ∷ built_hash_leaves (number + 1) later payload

-- The configurations: the name and the properties of each.
abbrev pub built_configuration_leaves : HeadModel → List ConfigurationSpecModel
    → List (List ℕ × PropertyMap)
built_configuration_leaves head configurations =
    map
    (λ configuration. (
      configuration.name,
      from_entries (built_configuration_properties head configuration),
    ))
    configurations

-- The hash nodes of a payload, with the properties of each in byte order.
abbrev pub built_image_children : List Algo → (payload : List ℕ) → Nodes (List Property)
built_image_children algorithms payload = with_each entries (built_hash_nodes 1 algorithms payload)

-- Image nodes, if the payloads before theirs end at `end`.
abbrev pub built_image_nodes : Form → (end : ℕ) → HeadModel → List Algo → List ImageSpecModel
    → Nodes (List Property)
built_image_nodes form end head algorithms images =
    with_each entries
    (with_payloads (alignment_of form) end (built_payloads images)
    (built_images head algorithms images))

-- The node `images`, without its siblings.
abbrev pub built_images_node : Form → HeadModel → List Algo → List ImageSpecModel
    → Nodes (List Property)
built_images_node form head algorithms images =
    node images_name (in_order []) (built_image_nodes form 0 head algorithms images) none

-- Configuration nodes.
abbrev pub built_configuration_nodes : HeadModel → List ConfigurationSpecModel
    → Nodes (List Property)
built_configuration_nodes head configurations =
    with_each entries (built_configurations head configurations)

-- The node `configurations`, without its siblings.
abbrev pub built_configurations_node : HeadModel → PlanModel → Nodes (List Property)
built_configurations_node head plan =
    node configurations_name (in_order ((default_name, text_value plan.default) ∷ []))
    (built_configuration_nodes head plan.configurations) none

-- Properties with one of one cell, if its number is given.
abbrev pub with_cell_property : List ℕ → Option ℕ → PropertyMapModel → PropertyMapModel
with_cell_property name None properties = properties
with_cell_property name (Some number) properties = with_property_value name (cell number) properties

-- What the document of a tree borrows is prepared: the tree can be built, and the digests, the
-- names of hash nodes and the lists are those of the images and the plan.
pub record ArePrepared (parts : BuiltParts) : Type 0 where
  pub can : CanBeBuilt (head_model parts.head) (named_models parts.images.now)
  pub is_plan : IsPlanFor (names_of_images (named_models parts.images.now)) (plan_model parts.plan)
  pub digests : map (λ digests. digests.items) parts.digests.now
      ≡ map (λ image. built_digests parts.plan.algorithms.now image.payload.now) parts.images.now
  pub hash_names : map string_bytes parts.hash_names.now
      ≡ hash_node_names 1 parts.plan.algorithms.now
  pub lists : AllZip AreListValues (configuration_spec_models parts.plan.configurations.now)
      parts.lists.now
