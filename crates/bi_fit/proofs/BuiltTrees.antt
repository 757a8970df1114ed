use Rattle.std.proofs.Common.{◌≡◌, ◌≢◌, ℕ, ◌+◌, ◌<◌, ◌≤◌, ◌^◌, Bool, true, false, not, List, [], ◌∷◌, map, flat_map, codes, bytes_eq, rules}
use Rattle.std.proofs.Common.{length}
use Rattle.std.proofs.Common.{Option, Some, None, refl, sym, ap, subst, ◌∙◌, arith, true≢false, nat_cmp}
use Rattle.std.specs.Prelude.{◌==◌, IsTrue, IfSome}
use Rattle.std.specs.List.{AllByRecursion, AllZip, list_all}
use Rattle.std.specs.Cmp.Lexicographic.{slice_cmp}
use Rattle.std.specs.FinMap.{find, get-from_entries}
use Rattle.std.proofs.lemmas.Cmp.{nat_list_cmp_total}
use Rattle.std.proofs.lemmas.Bool.{and_parts, not-true, eqb-false}
use Rattle.std.proofs.lemmas.List.Folds.{list_any-append}
use Rattle.std.proofs.lemmas.Slice.Eq.{bytes_eq-Decides}
use Rattle.std.proofs.lemmas.Map.Text.{is_eq-slice_cmp}
use Rattle.bi_base.specs.Cells.{cell, AreBytes}
use Rattle.bi_base.specs.Strings.{text_before_nul}
use Rattle.bi_base.proofs.NulLaws.{before_nul-append}
use Rattle.bi_base.proofs.ByteLists.{AreBytes-none, AreBytes-cons, AreBytes-append, AreBytes-cell}
use Rattle.bi_base.proofs.EqualBytes.{other_bytes}
use Rattle.bi_base.proofs.ListMembers.{each-append, each-map, each-weaker, each-contains}
use Rattle.bi_blob.specs.Tree.{Property, names, depth, depth_of, HasNoZero, IsChildName, IsNew, AreDistinct, AreNodes}
use Rattle.bi_blob.specs.Layout.{strings_of, is_among}
use Rattle.bi_blob.proofs.Texts.FirstUse.{among_found}
use Rattle.bi_blob.proofs.Texts.TextBytes.{AreBytes-strings_of}
use Rattle.bi_hash.specs.declared.algo.Algo.{Algo}
use Rattle.bi_hash.specs.declared.algo.Algo.TheVariants.{Crc32, Md5, Sha1, Sha256, Sha384, Sha512}
use Rattle.bi_hash.specs.Algos.{algorithm_name}
use Rattle.bi_hash.specs.Digests.{digest_of}
use Rattle.bi_hash.proofs.DigestBytes.{AreBytes-digest_of}
use Rattle.bi_fit.specs.declared.key.Key.{Key}
use Rattle.bi_fit.specs.declared.key.Key.TheVariants.{Kernel, Fdt, Ramdisk, Firmware, Loadables, Script}
use Rattle.bi_fit.specs.Names.{is_payload_name, key_name, all_keys, images_name, configurations_name, default_name}
use Rattle.bi_fit.specs.ImageTree.{IsProperty, ArePropertiesByName, HaveByteNames, IsApart, IsImageTree, each_own}
use Rattle.bi_fit.specs.Building.{HeadModel, ImageSpecModel, ConfigurationSpecModel, PlanModel, text_value, description_of, cell_property}
use Rattle.bi_fit.specs.Building.{built_root_properties, built_image_properties, built_hash_properties, built_hash_nodes, built_images}
use Rattle.bi_fit.specs.Building.{list_property, built_configuration_properties, built_configurations, built_tree}
use Rattle.bi_fit.specs.Building.{names_of_images, configuration_names, IsText, IsImageSpec, CanBeBuilt, IsConfigurationSpec, IsPlanFor}
use Rattle.bi_fit.proofs.HashNames.{bytes-hash_node_name, hash_node_name_is_child, new_hash_node_name}
use Rattle.bi_fit.proofs.TreeContents.{may_be_in_name, tested_name, tested_property, AreBlobProperties, properties-empty}
use Rattle.bi_fit.proofs.TreeContents.{properties-from_entries}

-- A built tree is an image tree.

-- Bytes that pass the test for other bytes than a slash are other bytes.
no_slash : (name : List ℕ) → list_all (λ byte. not (byte == 47)) name ≡ true → AllByRecursion (λ byte. byte ≢ 47) name
no_slash [] passes = tt
no_slash (byte ∷ later) passes =
    let both = and_parts (not (byte == 47)) (list_all (λ byte. not (byte == 47)) later) passes in
    (eqb-false byte 47 (not-true (byte == 47) both.0), no_slash later both.1)

-- A name that passes the tests may be that of a child.
pub tested_child : (byte : ℕ) (later : List ℕ) → list_all may_be_in_name (byte ∷ later) ≡ true →
    list_all (λ byte. not (byte == 47)) (byte ∷ later) ≡ true → IsChildName (byte ∷ later)
tested_child byte later passes slash =
    record { some = λ e. absurd cc; no_zero = (tested_name (byte ∷ later) passes).1; no_slash = no_slash (byte ∷ later) slash }

-- A text as a value is bytes.
pub bytes-text_value : (text : List ℕ) → AreBytes text → AreBytes (text_value text)
bytes-text_value text bytes = AreBytes-append text (0 ∷ []) bytes (AreBytes-cons 0 [] (omega arith) AreBytes-none)

-- The text of such a value is the text.
pub text_before_nul-text_value : (text : List ℕ) → HasNoZero text → text_before_nul (text_value text) ≡ Some text
unfolding text_before_nul
text_before_nul-text_value text no_zero = search (rules, list_any-append, before_nul-append)

-- A name that passes the test is bytes.
tested_bytes : (name : List ℕ) → list_all may_be_in_name name ≡ true → AreBytes name
tested_bytes name passes = (tested_name name passes).0

-- The properties of the root are good.
good_root : (head : HeadModel) → IsText head.description → AreBlobProperties (built_root_properties head)
good_root head is = search (rules, tested_property, AreBytes-cell, bytes-text_value)

-- So is a property of one cell, where there is one.
good_load : (number : Option ℕ) → AreBlobProperties (cell_property (codes "load") number)
good_load None = tt
good_load (Some number) = (tested_property _ _ (cell number) refl (AreBytes-cell number), tt)

good_entry : (number : Option ℕ) → AreBlobProperties (cell_property (codes "entry") number)
good_entry None = tt
good_entry (Some number) = (tested_property _ _ (cell number) refl (AreBytes-cell number), tt)

-- A description is bytes.
bytes-description_of : (head : HeadModel) (own : Option (List ℕ)) → IsText head.description → IfSome own IsText →
    AreBytes (description_of head own)
bytes-description_of head None description is = description.bytes
bytes-description_of head (Some text) description is = is.bytes

-- The properties of an image node are good.
good_image : (head : HeadModel) (image : ImageSpecModel) → IsText head.description → IsImageSpec image →
    AreBlobProperties (built_image_properties head image)
good_image head image description is = (
  tested_property _ _ (text_value image.arch) refl (bytes-text_value image.arch is.arch.bytes),
  (
    tested_property _ _ (text_value image.compression) refl (bytes-text_value image.compression is.compression.bytes),
    (
      tested_property _ _ (text_value (description_of head image.description)) refl
          (bytes-text_value (description_of head image.description)
          (bytes-description_of head image.description description is.description)),
      (
        tested_property _ _ (text_value image.os) refl (bytes-text_value image.os is.os.bytes),
        (
          tested_property _ _ (text_value image.image_type) refl (bytes-text_value image.image_type is.image_type.bytes),
          each-append (λ property. IsProperty property.0 property.1) (cell_property (codes "load") image.load)
              (cell_property (codes "entry") image.entry)
              (good_load image.load) (good_entry image.entry),
        ),
      ),
    ),
  ),
)

-- The name of an algorithm is bytes, and none of them is zero.
pub algorithm_text : (algo : Algo) → AreBytes (algorithm_name algo) × HasNoZero (algorithm_name algo)
algorithm_text Crc32 = tested_name _ refl
algorithm_text Md5 = tested_name _ refl
algorithm_text Sha1 = tested_name _ refl
algorithm_text Sha256 = tested_name _ refl
algorithm_text Sha384 = tested_name _ refl
algorithm_text Sha512 = tested_name _ refl

-- The properties of a hash node are good.
good_hash_properties : (algo : Algo) (payload : List ℕ) → AreBlobProperties (built_hash_properties algo (digest_of algo payload))
good_hash_properties algo payload = search (rules, tested_property, bytes-text_value, algorithm_text, AreBytes-digest_of)

-- Hash nodes are nodes.
hash_nodes_are : (number : ℕ) (algorithms : List Algo) (payload : List ℕ) → number + length algorithms ≤ 2 ^ 64 →
    AreNodes ArePropertiesByName (built_hash_nodes number algorithms payload)
hash_nodes_are number [] payload fits = tt
hash_nodes_are number (algo ∷ later) payload fits = (
  record {
    is_name = hash_node_name_is_child number (omega arith);
    is_own = properties-from_entries (built_hash_properties algo (digest_of algo payload)) (good_hash_properties algo payload);
    is_new = new_hash_node_name number (number + 1) later payload (omega arith) (omega arith);
  },
  tt,
  hash_nodes_are (number + 1) later payload (omega arith),
)

-- Their names are bytes.
hash_nodes_bytes : (number : ℕ) (algorithms : List Algo) (payload : List ℕ) → number + length algorithms ≤ 2 ^ 64 →
    HaveByteNames (built_hash_nodes number algorithms payload)
hash_nodes_bytes number [] payload fits = tt
hash_nodes_bytes number (algo ∷ later) payload fits =
    (bytes-hash_node_name number (omega arith), tt, hash_nodes_bytes (number + 1) later payload (omega arith))

-- What holds of each name holds of one of them.
pub among_each : (P : List ℕ → Type 0) (names : List (List ℕ)) (name : List ℕ) → AllByRecursion P names →
    is_among name names ≡ true → P name
among_each P names name each among = each-contains P names name each (among_found names name among)

-- Names of images are listed in bytes.
listed_bytes : (images : List ImageSpecModel) → AllByRecursion IsImageSpec images → (listed : List (List ℕ)) →
    AllByRecursion (λ name. IsTrue (is_among name (names_of_images images))) listed → AreBytes (strings_of listed)
listed_bytes images each listed are =
    AreBytes-strings_of listed
    (each-weaker (λ name. IsTrue (is_among name (names_of_images images))) AreBytes
    (λ name among. among_each AreBytes (names_of_images images) name
    (each-map AreBytes (λ (image : ImageSpecModel). image.name) images
    (each-weaker IsImageSpec (λ image. AreBytes image.name) (λ image is. is.name_bytes) images each)) among) listed are)

-- A property that lists texts is good if its name passes the test.
good_list : (byte : ℕ) (later : List ℕ) (texts : List (List ℕ)) → list_all may_be_in_name (byte ∷ later) ≡ true →
    AreBytes (strings_of texts) → AreBlobProperties (list_property (byte ∷ later) texts)
good_list byte later [] passes bytes = tt
good_list byte later (text ∷ texts) passes bytes = (tested_property byte later (strings_of (text ∷ texts)) passes bytes, tt)

-- So the property of a key is good.
good_key : (key : Key) (listed : List (List ℕ)) → AreBytes (strings_of listed) → AreBlobProperties (list_property (key_name key) listed)
good_key Kernel listed bytes = good_list _ _ listed refl bytes
good_key Fdt listed bytes = good_list _ _ listed refl bytes
good_key Ramdisk listed bytes = good_list _ _ listed refl bytes
good_key Firmware listed bytes = good_list _ _ listed refl bytes
good_key Loadables listed bytes = good_list _ _ listed refl bytes
good_key Script listed bytes = good_list _ _ listed refl bytes

-- The properties of these keys are good.
good_lists : (keys : List Key) (images : List ImageSpecModel) (configuration : ConfigurationSpecModel) →
    AllByRecursion IsImageSpec images → IsConfigurationSpec (names_of_images images) configuration →
    AreBlobProperties (flat_map (λ key. list_property (key_name key) (configuration.lists key)) keys)
good_lists [] images configuration each is = tt
good_lists (key ∷ later) images configuration each is =
    each-append (λ property. IsProperty property.0 property.1) (list_property (key_name key) (configuration.lists key))
    (flat_map (λ key. list_property (key_name key) (configuration.lists key)) later)
    (good_key key (configuration.lists key) (listed_bytes images each (configuration.lists key) (is.of_images key)))
    (good_lists later images configuration each is)

-- The properties of a configuration are good.
good_configuration : (head : HeadModel) (images : List ImageSpecModel) (configuration : ConfigurationSpecModel) → CanBeBuilt head images →
    IsConfigurationSpec (names_of_images images) configuration → AreBlobProperties (built_configuration_properties head configuration)
good_configuration head images configuration can is = (
  tested_property _ _ (text_value (description_of head configuration.description)) refl
      (bytes-text_value (description_of head configuration.description)
      (bytes-description_of head configuration.description can.description is.description)),
  each-append (λ property. IsProperty property.0 property.1) (list_property (codes "compatible") configuration.compatible)
      (flat_map (λ key. list_property (key_name key) (configuration.lists key)) all_keys)
      (good_list _ _ configuration.compatible refl (AreBytes-strings_of configuration.compatible
      (each-weaker IsText AreBytes (λ text is. is.bytes) configuration.compatible is.compatible)))
      (good_lists all_keys images configuration can.each is),
)

-- The names of the configuration nodes are those of the configurations.
pub names-built_configurations : (head : HeadModel) (configurations : List ConfigurationSpecModel) →
    names (built_configurations head configurations) ≡ configuration_names configurations
names-built_configurations head [] = refl
names-built_configurations head (configuration ∷ later) = ap (λ l. configuration.name ∷ l) (names-built_configurations head later)

-- The configuration nodes are nodes.
configurations_are : (head : HeadModel) (images : List ImageSpecModel) (configurations : List ConfigurationSpecModel) →
    CanBeBuilt head images → AllByRecursion (IsConfigurationSpec (names_of_images images)) configurations →
    AreDistinct (configuration_names configurations) → AreNodes ArePropertiesByName (built_configurations head configurations)
configurations_are head images [] can each distinct = tt
configurations_are head images (configuration ∷ later) can each distinct = (
  record {
    is_name = each.0.is_name;
    is_own = properties-from_entries (built_configuration_properties head configuration)
        (good_configuration head images configuration can each.0);
    is_new = subst (IsNew configuration.name) (sym (names-built_configurations head later)) distinct.0;
  },
  tt,
  configurations_are head images later can each.1 distinct.1,
)

-- Their names are bytes.
configurations_bytes : (head : HeadModel) (image_names : List (List ℕ)) (configurations : List ConfigurationSpecModel) →
    AllByRecursion (IsConfigurationSpec image_names) configurations → HaveByteNames (built_configurations head configurations)
configurations_bytes head image_names [] each = tt
configurations_bytes head image_names (configuration ∷ later) each =
    (each.0.name_bytes, tt, configurations_bytes head image_names later each.1)

-- The name of the default configuration is bytes.
default_bytes : (image_names : List (List ℕ)) (plan : PlanModel) → IsPlanFor image_names plan → AreBytes plan.default
default_bytes image_names plan is =
    among_each AreBytes (configuration_names plan.configurations) plan.default
    (each-map AreBytes (λ (configuration : ConfigurationSpecModel). configuration.name) plan.configurations
    (each-weaker (IsConfigurationSpec image_names) (λ configuration. AreBytes configuration.name) (λ configuration is. is.name_bytes)
    plan.configurations is.each)) is.default

-- The names of the image nodes are those of the images.
names-built_images : (head : HeadModel) (algorithms : List Algo) (images : List ImageSpecModel) →
    names (built_images head algorithms images) ≡ names_of_images images
names-built_images head algorithms [] = refl
names-built_images head algorithms (image ∷ later) = ap (λ l. image.name ∷ l) (names-built_images head algorithms later)

-- The image nodes are nodes.
built_images_are : (head : HeadModel) (algorithms : List Algo) (images : List ImageSpecModel) → length algorithms < 2 ^ 64 →
    IsText head.description → AllByRecursion IsImageSpec images → AreDistinct (names_of_images images) →
    AreNodes ArePropertiesByName (built_images head algorithms images)
built_images_are head algorithms [] few description each distinct = tt
built_images_are head algorithms (image ∷ later) few description each distinct = (
  record {
    is_name = each.0.is_name;
    is_own = properties-from_entries (built_image_properties head image) (good_image head image description each.0);
    is_new = subst (IsNew image.name) (sym (names-built_images head algorithms later)) distinct.0;
  },
  hash_nodes_are 1 algorithms image.payload (omega (arith, few)),
  built_images_are head algorithms later few description each.1 distinct.1,
)

-- Their names are bytes.
built_images_bytes : (head : HeadModel) (algorithms : List Algo) (images : List ImageSpecModel) → length algorithms < 2 ^ 64 →
    AllByRecursion IsImageSpec images → HaveByteNames (built_images head algorithms images)
built_images_bytes head algorithms [] few each = tt
built_images_bytes head algorithms (image ∷ later) few each = (
  each.0.name_bytes,
  hash_nodes_bytes 1 algorithms image.payload (omega (arith, few)),
  built_images_bytes head algorithms later few each.1,
)

-- No property is found under a name that passes a test which no property passes.
pub none_found : (test : List ℕ → Bool) (name : List ℕ) (properties : List Property) → test name ≡ true →
    AllByRecursion (λ property. test property.0 ≡ false) properties → find (slice_cmp nat_cmp) name properties ≡ None
none_found test name [] passes fail = refl
none_found test name (property ∷ later) passes fail =
    rw (is_eq-slice_cmp name property.0, differ) (none_found test name later passes fail.1)
  where
    differ : bytes_eq name property.0 ≡ false
    differ = where_same (bytes_eq name property.0) refl
      where
        where_same : (b : Bool) → bytes_eq name property.0 ≡ b → bytes_eq name property.0 ≡ false
        where_same true is = absurd (true≢false (sym passes ∙ ap test ((bytes_eq-Decides name property.0).0 is) ∙ fail.0))
        where_same false is = is

-- A property of one cell holds no payload.
pub load_is_no_payload : (number : Option ℕ) →
    AllByRecursion (λ property. is_payload_name property.0 ≡ false) (cell_property (codes "load") number)
load_is_no_payload None = tt
load_is_no_payload (Some number) = (refl, tt)

pub entry_is_no_payload : (number : Option ℕ) →
    AllByRecursion (λ property. is_payload_name property.0 ≡ false) (cell_property (codes "entry") number)
entry_is_no_payload None = tt
entry_is_no_payload (Some number) = (refl, tt)

-- The image nodes and their payloads are apart.
built_images_apart : (head : HeadModel) (algorithms : List Algo) (images : List ImageSpecModel) → AllByRecursion IsImageSpec images →
    AllZip IsApart (each_own (built_images head algorithms images)) (map (λ image. Some image.payload) images)
built_images_apart head algorithms [] each = tt
built_images_apart head algorithms (image ∷ later) each = (
  record {
    no_payload_name = λ name is.
        get-from_entries nat_list_cmp_total (built_image_properties head image) name
        ∙ none_found is_payload_name name (built_image_properties head image) is (
          refl,
          (
            refl,
            (
              refl,
              (
                refl,
                (
                  refl,
                  each-append (λ property. is_payload_name property.0 ≡ false) (cell_property (codes "load") image.load)
                      (cell_property (codes "entry") image.entry) (load_is_no_payload image.load) (entry_is_no_payload image.entry),
                ),
              ),
            ),
          ),
        );
    bytes = each.0.payload_bytes;
  },
  built_images_apart head algorithms later each.1,
)

-- What can be built is an image tree.
pub built_is_image_tree : (head : HeadModel) (plan : PlanModel) (images : List ImageSpecModel) → CanBeBuilt head images →
    IsPlanFor (names_of_images images) plan → IsImageTree (built_tree head plan images)
built_is_image_tree head plan images can is = record {
  cpu_fits = omega arith;
  are_reservations = tt;
  is_tree = record {
    is_own = properties-from_entries (built_root_properties head) (good_root head can.description);
    children = (
      record {
        is_name = tested_child _ _ refl refl;
        is_own = properties-empty;
        is_new = (other_bytes configurations_name images_name refl, tt);
      },
      built_images_are head plan.algorithms images is.few can.description can.each can.distinct,
      (
        record {
          is_name = tested_child _ _ refl refl;
          is_own = properties-from_entries ((default_name, text_value plan.default) ∷ []) (
            tested_property _ _ (text_value plan.default) refl
                (bytes-text_value plan.default (default_bytes (names_of_images images) plan is)),
            tt,
          );
          is_new = tt;
        },
        configurations_are head images plan.configurations can is.each is.distinct,
        tt,
      ),
    );
  };
  name_bytes = (
    tested_bytes _ refl,
    built_images_bytes head plan.algorithms images is.few can.each,
    (tested_bytes _ refl, configurations_bytes head (names_of_images images) plan.configurations is.each, tt),
  );
  images = built_images head plan.algorithms images;
  has_images = refl;
  apart = built_images_apart head plan.algorithms images can.each;
}

-- Hash nodes are one deep,
depth-built_hash_nodes : (number : ℕ) (algorithms : List Algo) (payload : List ℕ) → depth (built_hash_nodes number algorithms payload) ≤ 1
depth-built_hash_nodes number [] payload = omega arith
depth-built_hash_nodes number (algo ∷ later) payload = let rest : depth (built_hash_nodes (number + 1) later payload) ≤ 1 =
    depth-built_hash_nodes (number + 1) later payload in omega (arith, rest)

-- so that image nodes and their hash nodes are two deep.
depth-built_images : (head : HeadModel) (algorithms : List Algo) (images : List ImageSpecModel) →
    depth (built_images head algorithms images) ≤ 2
depth-built_images head algorithms [] = omega arith
depth-built_images head algorithms (image ∷ later) = search (rules, depth-built_hash_nodes, depth-built_images head algorithms later)

-- Configuration nodes are one deep.
depth-built_configurations : (head : HeadModel) (configurations : List ConfigurationSpecModel) →
    depth (built_configurations head configurations) ≤ 1
depth-built_configurations head [] = omega arith
depth-built_configurations head (configuration ∷ later) =
    let rest : depth (built_configurations head later) ≤ 1 = depth-built_configurations head later in omega (arith, rest)

-- A built tree is four deep at most.
pub depth-built : (head : HeadModel) (plan : PlanModel) (images : List ImageSpecModel) →
    depth_of (built_tree head plan images).root ≤ 4
depth-built head plan images =
    omega (arith, depth-built_images head plan.algorithms images, depth-built_configurations head plan.configurations)
