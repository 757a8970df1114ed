use Rattle.std.proofs.Common.{◌≡◌, ℕ, ◌+◌, ◌<◌, ◌^◌, Bool, true, false, not, List, [], ◌∷◌, ◌++◌, map, flat_map, filter, length, Option}
use Rattle.std.proofs.Common.{Some, None, rules}
use Rattle.std.proofs.Common.{bytes_eq, codes, refl, sym, ap, ap₂, ◌∙◌, nat_cmp, option_and_then, append-nil}
use Rattle.std.specs.Prelude.{nat_eq, ◌||◌, IsTrue}
use Rattle.std.specs.List.{AllByRecursion, list_all, ends_with}
use Rattle.std.specs.Cmp.Lexicographic.{slice_cmp}
use Rattle.std.specs.FinMap.{get, from_entries, find, get-from_entries}
use Rattle.std.proofs.lemmas.Bool.{and_parts, not-true}
use Rattle.std.proofs.lemmas.Bool.Decides.{Decides-not}
use Rattle.std.proofs.lemmas.Cmp.{nat_list_cmp_total}
use Rattle.std.proofs.lemmas.Slice.Eq.{bytes_eq-Decides}
use Rattle.std.proofs.lemmas.Map.Text.{is_eq-slice_cmp}
use Rattle.bi_base.specs.Strings.{text_before_nul}
use Rattle.bi_base.proofs.ListMembers.{each-filter, each-weaker, each-map}
use Rattle.bi_blob.specs.Tree.{Nodes, none, HasNoZero, IsNew, AreDistinct, Property, PropertyMap}
use Rattle.bi_blob.specs.Layout.{strings_of, is_among}
use Rattle.bi_blob.specs.Lookups.{Sibling, siblings, node_named}
use Rattle.bi_hash.specs.declared.algo.Algo.{Algo}
use Rattle.bi_fit.specs.declared.key.Key.{Key}
use Rattle.bi_fit.specs.declared.key.Key.TheVariants.{Kernel, Fdt, Ramdisk, Firmware, Loadables, Script}
use Rattle.bi_fit.specs.Names.{key_name, all_keys, default_name}
use Rattle.bi_fit.specs.Judgement.{Image, images_with, ListedImages, image_named, list_images, listed_at, listed_under, listed_of}
use Rattle.bi_fit.specs.Building.{HeadModel, ImageSpecModel, ConfigurationSpecModel, PlanModel, text_value, description_of}
use Rattle.bi_fit.specs.Building.{built_image_properties}
use Rattle.bi_fit.specs.Building.{built_hash_nodes, built_images, list_property, built_configuration_properties, built_configurations}
use Rattle.bi_fit.specs.Building.{built_tree, configuration_name, configuration_by_types, plan_by_types, type_name}
use Rattle.bi_fit.specs.Building.{names_of_images, configuration_names, IsImageSpec, CanBeBuilt, IsConfigurationSpec, IsPlanFor}
use Rattle.bi_fit.specs.Laws.{listed_by_name, list_by_names, HasConfigurations, BuiltHasConfigurations, list_of_built}
use Rattle.bi_fit.specs.Laws.{BuiltByTypesHasConfiguration}
use Rattle.bi_fit.proofs.BuiltTrees.{among_each, names-built_configurations, tested_child, text_before_nul-text_value}
use Rattle.bi_fit.proofs.NameLists.{ends_later, list_of_names}
use Rattle.bi_fit.proofs.TreeContents.{tested_name}

-- A built tree has the configurations of its plan. Each lists the images that it names, in their order, and the default is that of the
-- plan. The configuration by types lists the images of each type.

-- A new name has other bytes than each.
other_name : (name other : List ℕ) → ¬ (other ≡ name) → bytes_eq name other ≡ false
other_name name other new = not-true _ ((Decides-not _ (bytes_eq-Decides name other)).1 (λ same. new (sym same)))

-- A list of names has a first byte.
first_byte : (name : List ℕ) (names : List (List ℕ)) → (byte : ℕ) × (later : List ℕ) × (strings_of (name ∷ names) ≡ byte ∷ later)
first_byte [] names = (0, strings_of names, refl)
first_byte (byte ∷ name) names = (byte, (name ++ 0 ∷ []) ++ strings_of names, refl)

-- A value ends as the last part of it does.
ends_as_last : (front : List ℕ) (byte : ℕ) (later : List ℕ) →
    ends_with nat_eq (front ++ byte ∷ later) (0 ∷ []) ≡ ends_with nat_eq (byte ∷ later) (0 ∷ [])
ends_as_last [] byte later = refl
ends_as_last (first ∷ []) byte later = ends_later first byte later
ends_as_last (first ∷ second ∷ front) byte later =
    ends_later first second (front ++ byte ∷ later) ∙ ends_as_last (second ∷ front) byte later

-- Names with a zero after each end with a zero.
ends_with_zero : (name : List ℕ) (names : List (List ℕ)) → ends_with nat_eq (strings_of (name ∷ names)) (0 ∷ []) ≡ true
ends_with_zero name [] =
    ap (λ l. ends_with nat_eq l (0 ∷ [])) (append-nil (name ++ 0 ∷ [])) ∙ ends_as_last name 0 []
ends_with_zero name (second ∷ names) =
    let rest = first_byte second names in
    ap (λ l. ends_with nat_eq ((name ++ 0 ∷ []) ++ l) (0 ∷ [])) rest.2
    ∙ ends_as_last (name ++ 0 ∷ []) rest.0 rest.1
    ∙ sym (ap (λ l. ends_with nat_eq l (0 ∷ [])) rest.2)
    ∙ ends_with_zero second names

-- The value that lists these names, where there is one at least.
abbrev list_value : List (List ℕ) → Option (List ℕ)
list_value [] = None
list_value (name ∷ later) = Some (strings_of (name ∷ later))

-- The property of another key is not found under this one.
skip : (key other : Key) → bytes_eq (key_name key) (key_name other) ≡ false → (names : List (List ℕ)) (rest : List Property) →
    find (slice_cmp nat_cmp) (key_name key) (list_property (key_name other) names ++ rest) ≡ find (slice_cmp nat_cmp) (key_name key) rest
skip key other differ [] rest = refl
skip key other differ (name ∷ later) rest = rw (is_eq-slice_cmp (key_name key) (key_name other), differ) refl

-- The property of a key is found under it.
hit : (key : Key) (names : List (List ℕ)) (rest : List Property) → find (slice_cmp nat_cmp) (key_name key) rest ≡ None →
    find (slice_cmp nat_cmp) (key_name key) (list_property (key_name key) names ++ rest) ≡ list_value names
hit key [] rest nothing = nothing
hit key (name ∷ later) rest nothing =
    rw (is_eq-slice_cmp (key_name key) (key_name key), (bytes_eq-Decides (key_name key) (key_name key)).1 refl) refl

module _ (configuration : ConfigurationSpecModel) where
  -- The properties of these keys.
  abbrev lists_of : List Key → List Property
  lists_of keys = flat_map (λ key. list_property (key_name key) (configuration.lists key)) keys

  -- No property of other keys is found under a key.
  none_of : (key : Key) (keys : List Key) → list_all (λ other. not (bytes_eq (key_name key) (key_name other))) keys ≡ true →
      find (slice_cmp nat_cmp) (key_name key) (lists_of keys) ≡ None
  none_of key [] differ = refl
  none_of key (other ∷ later) differ =
      let both = and_parts (not (bytes_eq (key_name key) (key_name other)))
      (list_all (λ other. not (bytes_eq (key_name key) (key_name other))) later) differ in
      skip key other (not-true (bytes_eq (key_name key) (key_name other)) both.0) (configuration.lists other) (lists_of later)
      ∙ none_of key later both.1

  -- The property of a key is found among those of all keys.
  found_key : (key : Key) → find (slice_cmp nat_cmp) (key_name key) (lists_of all_keys) ≡ list_value (configuration.lists key)
  found_key Kernel = hit Kernel (configuration.lists Kernel) (lists_of (Fdt ∷ Ramdisk ∷ Firmware ∷ Loadables ∷ Script ∷ []))
      (none_of Kernel (Fdt ∷ Ramdisk ∷ Firmware ∷ Loadables ∷ Script ∷ []) refl)
  found_key Fdt = search (rules, skip, hit, none_of)
  found_key Ramdisk = search (rules, skip, hit, none_of)
  found_key Firmware = search (rules, skip, hit, none_of)
  found_key Loadables = search (rules, skip, hit, none_of)
  found_key Script = search (rules, skip, hit)

-- The properties of a configuration by name.
abbrev configuration_by_name : HeadModel → ConfigurationSpecModel → PropertyMap
configuration_by_name head configuration = from_entries (built_configuration_properties head configuration)

-- The property of another name is not found under a key.
other_property : (key : Key) (name value : List ℕ) (rest : List Property) → bytes_eq (key_name key) name ≡ false →
    find (slice_cmp nat_cmp) (key_name key) ((name, value) ∷ rest) ≡ find (slice_cmp nat_cmp) (key_name key) rest
other_property key name value rest differ = rw (is_eq-slice_cmp (key_name key) name, differ) refl

-- The description and the boards are not a list of images.
description_differs : (key : Key) → bytes_eq (key_name key) (codes "description") ≡ false
description_differs Kernel = refl
description_differs Fdt = refl
description_differs Ramdisk = refl
description_differs Firmware = refl
description_differs Loadables = refl
description_differs Script = refl

compatible_differs : (key : Key) → bytes_eq (key_name key) (codes "compatible") ≡ false
compatible_differs Kernel = refl
compatible_differs Fdt = refl
compatible_differs Ramdisk = refl
compatible_differs Firmware = refl
compatible_differs Loadables = refl
compatible_differs Script = refl

after_texts : (key : Key) (value : List ℕ) (texts : List (List ℕ)) (rest : List Property) →
    find (slice_cmp nat_cmp) (key_name key) ((codes "description", value) ∷ (list_property (codes "compatible") texts ++ rest))
    ≡ find (slice_cmp nat_cmp) (key_name key) rest
after_texts key value [] rest = other_property key (codes "description") value rest (description_differs key)
after_texts key value (text ∷ later) rest =
    other_property key (codes "description") value ((codes "compatible", strings_of (text ∷ later)) ∷ rest) (description_differs key)
    ∙ other_property key (codes "compatible") (strings_of (text ∷ later)) rest (compatible_differs key)

-- What a configuration has under a key.
has_under : (head : HeadModel) (configuration : ConfigurationSpecModel) (key : Key) →
    get (configuration_by_name head configuration) (key_name key) ≡ list_value (configuration.lists key)
has_under head configuration key =
    get-from_entries nat_list_cmp_total (built_configuration_properties head configuration) (key_name key)
    ∙ after_texts key (text_value (description_of head configuration.description)) configuration.compatible
    (lists_of configuration all_keys)
    ∙ found_key configuration key

-- ---- the images that are listed

-- The images of a built tree.
abbrev images_in : HeadModel → List Algo → List ImageSpecModel → List Image
images_in head algorithms images =
    images_with (siblings (built_images head algorithms images)) (map (λ image. Some image.payload) images)

-- An image is found by this name, with its payload.
abbrev IsFoundIn : List Image → List ImageSpecModel → List ℕ → Type 0
IsFoundIn images specs name =
    (found : Image) × (image_named name images ≡ Some found) × (found.payload ≡ (listed_by_name specs name).payload)

-- The first image of a built tree.
abbrev first_image : HeadModel → List Algo → ImageSpecModel → List ImageSpecModel → Image
first_image head algorithms image later = record {
  entry = record {
    name = image.name;
    own = from_entries (built_image_properties head image);
    children = built_hash_nodes 1 algorithms image.payload;
    later = built_images head algorithms later;
  };
  payload = Some image.payload;
}

-- Each name of an image is found.
name_found : (head : HeadModel) (algorithms : List Algo) (images : List ImageSpecModel) (name : List ℕ) →
    is_among name (names_of_images images) ≡ true → IsFoundIn (images_in head algorithms images) images name
name_found head algorithms [] name among = absurd cc
name_found head algorithms (image ∷ later) name among =
    where_first (bytes_eq image.name name) refl among (λ rest. name_found head algorithms later name rest)
  where
    where_first : (b : Bool) → bytes_eq image.name name ≡ b → (b || is_among name (names_of_images later)) ≡ true →
        (is_among name (names_of_images later) ≡ true → IsFoundIn (images_in head algorithms later) later name) →
        IsFoundIn (images_in head algorithms (image ∷ later)) (image ∷ later) name
    where_first true is rest found = rw is (first_image head algorithms image later, refl, refl)
    where_first false is rest found = rw is (found rest)

-- The images of names that are found are listed.
images_listed : (images : List Image) (specs : List ImageSpecModel) (index : ℕ) (names : List (List ℕ)) →
    AllByRecursion (IsFoundIn images specs) names → list_images images index names ≡ ListedImages (map (listed_by_name specs) names)
images_listed images specs index [] found = refl
images_listed images specs index (name ∷ later) found = search (rules, images_listed images specs (index + 1) later found.1)

-- What the value of a key lists.
value_lists : (images : List Image) (specs : List ImageSpecModel) (names : List (List ℕ)) → AllByRecursion (IsFoundIn images specs) names →
    AllByRecursion HasNoZero names → listed_at images (list_value names) ≡ list_by_names specs names
value_lists images specs [] found no_zero = refl
value_lists images specs (name ∷ later) found no_zero =
    rw (ends_with_zero name later, list_of_names (name ∷ later) no_zero) (images_listed images specs 0 (name ∷ later) found)

-- ---- the configurations

-- The node of a configuration is found by its name.
abbrev IsNodeIn : HeadModel → Nodes PropertyMap → ConfigurationSpecModel → Type 0
IsNodeIn head nodes configuration =
    (found : Sibling PropertyMap) × (node_named nodes configuration.name ≡ Some found) ×
    (found.own ≡ configuration_by_name head configuration)

-- What is found among later configurations is found among all, where the first has another name.
node_found_later : (head : HeadModel) (configuration : ConfigurationSpecModel) (later some : List ConfigurationSpecModel) →
    AllByRecursion (IsNodeIn head (built_configurations head later)) some → IsNew configuration.name (configuration_names some) →
    AllByRecursion (IsNodeIn head (built_configurations head (configuration ∷ later))) some
node_found_later head configuration later [] found new = tt
node_found_later head configuration later (other ∷ some) found new = (
  (found.0.0, rw differ found.0.1, found.0.2),
  node_found_later head configuration later some found.1 new.1,
)
  where
    differ : bytes_eq configuration.name other.name ≡ false
    differ = other_name configuration.name other.name new.0

-- Configurations with distinct names are all found.
nodes_found : (head : HeadModel) (configurations : List ConfigurationSpecModel) → AreDistinct (configuration_names configurations) →
    AllByRecursion (IsNodeIn head (built_configurations head configurations)) configurations
nodes_found head [] distinct = tt
nodes_found head (configuration ∷ later) distinct = (
  (
    record {
      name = configuration.name;
      own = configuration_by_name head configuration;
      children = none;
      later = built_configurations head later;
    },
    rw ((bytes_eq-Decides configuration.name configuration.name).1 refl) refl,
    refl,
  ),
  node_found_later head configuration later later (nodes_found head later distinct.1) distinct.0,
)

-- What a node lists that was found.
node_lists : (head : HeadModel) (images : List Image) (configuration : ConfigurationSpecModel) (nodes : Nodes PropertyMap) (key : Key) →
    IsNodeIn head nodes configuration →
    listed_under images (node_named nodes configuration.name) key ≡ listed_at images (list_value (configuration.lists key))
node_lists head images configuration nodes key found = search (rules, has_under)

module _ (head : HeadModel) (plan : PlanModel) (images : List ImageSpecModel) (can : CanBeBuilt head images)
    (each : AllByRecursion (IsConfigurationSpec (names_of_images images)) plan.configurations) where
  -- What the configurations list.
  abbrev Lists : ConfigurationSpecModel → Type 0
  Lists configuration =
      (key : Key) → listed_of (built_tree head plan images) configuration.name key ≡ list_by_names images (configuration.lists key)

  -- No name of an image has a zero.
  name_no_zero : (name : List ℕ) → is_among name (names_of_images images) ≡ true → HasNoZero name
  name_no_zero name among =
      among_each HasNoZero (names_of_images images) name
      (each-map HasNoZero (λ (image : ImageSpecModel). image.name) images
      (each-weaker IsImageSpec (λ image. HasNoZero image.name) (λ image is. is.is_name.no_zero) images can.each)) among

  -- A configuration that is found lists its images.
  lists : (configuration : ConfigurationSpecModel) → IsNodeIn head (built_configurations head plan.configurations) configuration →
      IsConfigurationSpec (names_of_images images) configuration → Lists configuration
  lists configuration found is key =
      node_lists head (images_in head plan.algorithms images) configuration (built_configurations head plan.configurations) key found
      ∙ value_lists (images_in head plan.algorithms images) images (configuration.lists key)
      (each-weaker (λ name. IsTrue (is_among name (names_of_images images))) (IsFoundIn (images_in head plan.algorithms images) images)
      (λ name among. name_found head plan.algorithms images name among) (configuration.lists key) (is.of_images key))
      (each-weaker (λ name. IsTrue (is_among name (names_of_images images))) HasNoZero name_no_zero (configuration.lists key)
      (is.of_images key))

  -- So do all that are found.
  all_list : (some : List ConfigurationSpecModel) →
      AllByRecursion (IsNodeIn head (built_configurations head plan.configurations)) some →
      AllByRecursion (IsConfigurationSpec (names_of_images images)) some → AllByRecursion Lists some
  all_list [] found are = tt
  all_list (configuration ∷ later) found are = (lists configuration found.0 are.0, all_list later found.1 are.1)

  -- A tree of configurations with distinct names, of which one is the default, has these configurations.
  has_configurations : AreDistinct (configuration_names plan.configurations) →
      is_among plan.default (configuration_names plan.configurations) ≡ true → HasConfigurations head plan images
  has_configurations distinct default = record {
    are_all = names-built_configurations head plan.configurations;
    listed = all_list plan.configurations (nodes_found head plan.configurations distinct) each;
    default = ap (option_and_then text_before_nul) default_is ∙ text_before_nul-text_value plan.default default_no_zero;
  }
    where
      default_by_name : PropertyMap
      default_by_name = from_entries ((default_name, text_value plan.default) ∷ [])

      default_is : get default_by_name default_name ≡ Some (text_value plan.default)
      default_is = get-from_entries nat_list_cmp_total ((default_name, text_value plan.default) ∷ []) default_name

      default_no_zero : HasNoZero plan.default
      default_no_zero =
          among_each HasNoZero (configuration_names plan.configurations) plan.default
          (each-map HasNoZero (λ (configuration : ConfigurationSpecModel). configuration.name) plan.configurations
          (each-weaker (IsConfigurationSpec (names_of_images images)) (λ configuration. HasNoZero configuration.name)
          (λ configuration is. is.is_name.no_zero) plan.configurations each)) default

pub built_has_configurations : BuiltHasConfigurations
built_has_configurations head plan images can is = has_configurations head plan images can is.each is.distinct is.default

-- ---- the configuration by types

-- What is among later names is among all.
among_later : (first name : List ℕ) (names : List (List ℕ)) → is_among name names ≡ true → is_among name (first ∷ names) ≡ true
among_later first name names among = search rules

-- The name of each image is among the names.
each_among : (images : List ImageSpecModel) → AllByRecursion (λ image. IsTrue (is_among image.name (names_of_images images))) images
each_among [] = tt
each_among (image ∷ later) = search (rules, bytes_eq-Decides, each-weaker, among_later, each_among later)

-- The configuration that lists images by their types lists only these.
by_types_is : (images : List ImageSpecModel) → IsConfigurationSpec (names_of_images images) (configuration_by_types images)
by_types_is images = record {
  is_name = tested_child _ _ refl refl;
  name_bytes = (tested_name configuration_name refl).0;
  description = tt;
  compatible = tt;
  of_images = λ key.
      each-map (λ name. IsTrue (is_among name (names_of_images images))) (λ (image : ImageSpecModel). image.name)
      (filter (λ image. bytes_eq image.image_type (type_name key)) images)
      (each-filter (λ image. IsTrue (is_among image.name (names_of_images images))) (λ image. bytes_eq image.image_type (type_name key))
      images (each_among images));
}

-- The plan by types is one for these images.
pub by_types_is_plan : (algorithms : List Algo) (images : List ImageSpecModel) → length algorithms < 2 ^ 64 →
    IsPlanFor (names_of_images images) (plan_by_types algorithms images)
by_types_is_plan algorithms images few =
    record { each = (by_types_is images, tt); distinct = (tt, tt); default = refl; few = few }

-- An image has this payload under its name.
abbrev HasOwnPayload : List ImageSpecModel → ImageSpecModel → Type 0
HasOwnPayload images image = (listed_by_name images image.name).payload ≡ Some image.payload

-- What later images have they have among all, where the first has another name.
own_payload_later : (image : ImageSpecModel) (later some : List ImageSpecModel) → AllByRecursion (HasOwnPayload later) some →
    IsNew image.name (names_of_images some) → AllByRecursion (HasOwnPayload (image ∷ later)) some
own_payload_later image later [] have new = tt
own_payload_later image later (other ∷ some) have new = search (rules, other_name, own_payload_later image later some have.1 new.1)

-- Images with distinct names have their payloads under their names.
own_payloads : (images : List ImageSpecModel) → AreDistinct (names_of_images images) → AllByRecursion (HasOwnPayload images) images
own_payloads [] distinct = tt
own_payloads (image ∷ later) distinct = search (rules, bytes_eq-Decides, own_payload_later, own_payloads later distinct.1)

-- Images are listed by their names as they are.
listed_as_they_are : (images some : List ImageSpecModel) → AllByRecursion (HasOwnPayload images) some →
    map (listed_by_name images) (names_of_images some) ≡ map (λ image. record { name = image.name; payload = Some image.payload }) some
listed_as_they_are images [] have = refl
listed_as_they_are images (image ∷ some) have =
    ap₂ (λ payload l. record { name = image.name; payload = payload } ∷ l) have.0 (listed_as_they_are images some have.1)

list_of_own : (images some : List ImageSpecModel) → AllByRecursion (HasOwnPayload images) some →
    list_by_names images (names_of_images some) ≡ list_of_built some
list_of_own images [] have = refl
list_of_own images (image ∷ some) have = ap ListedImages (listed_as_they_are images (image ∷ some) have)

pub built_by_types_has_configuration : BuiltByTypesHasConfiguration
built_by_types_has_configuration head algorithms images can =
    let has = has_configurations head (plan_by_types algorithms images) images can (by_types_is images, tt) (tt, tt) refl in
    record {
      listed = λ key.
          has.listed.0 key
          ∙ list_of_own images (filter (λ image. bytes_eq image.image_type (type_name key)) images)
          (each-filter (HasOwnPayload images) (λ image. bytes_eq image.image_type (type_name key)) images
          (own_payloads images can.distinct));
      default = has.default;
    }
