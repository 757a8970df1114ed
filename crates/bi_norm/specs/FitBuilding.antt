use Rattle.std.specs.Prelude.{ℕ, ◌≡◌, ◌≢◌, ◌+◌, ◌≤◌, ⊤, IsTrue, List, [], ◌∷◌, ◌++◌, length, map}
use Rattle.std.specs.Prelude.{Option, None, Some, IsSome, IfSome, unwrap_or, option_to_list}
use Rattle.std.specs.Prelude.{drop, get_or}
use Rattle.std.specs.Borrow.{Bor}
use Rattle.std.specs.List.{AllByRecursion}
use Rattle.std.specs.Option.{option_map}
use Rattle.bi_base.specs.Errors.{FailsWith}
use Rattle.bi_base.specs.declared.fault.Fault.{Fault}
use Rattle.bi_base.specs.declared.fault.Cause.TheVariants.{TooLarge, NoCodeName, BadField}
use Rattle.bi_base.specs.declared.fault.Cause.TheVariants.{DuplicateNode}
use Rattle.bi_base.specs.declared.fault.Error.{Error}
use Rattle.bi_base.specs.Checks.{IsFirstFault, HasNoFault}
use Rattle.bi_base.specs.Limits.{Limits}
use Rattle.bi_blob.specs.Layout.{is_among}
use Rattle.bi_blob.specs.Tree.{HasNoZero, IsChildName, IsNew}
use Rattle.bi_hash.specs.declared.algo.Algo.{Algo}
use Rattle.bi_hash.specs.declared.algo.Algo.TheVariants.{Sha256}
use Rattle.bi_fit.specs.declared.form.Form.{Form}
use Rattle.bi_fit.specs.declared.key.Key.{Key}
use Rattle.bi_fit.specs.Building.{ImageSpecModel, ConfigurationSpecModel, PlanModel, built_tree}
use Rattle.bi_fit.specs.Building.{plan_by_types, configuration_names}
use Rattle.bi_fit.specs.ImageTree.{ImageTree}
use Rattle.bi_fit.specs.NamedImages.{head_model, configuration_spec_models}
use Rattle.bi_fit.specs.Laws.{IsAcceptedAs, HasGoodPayloads, HasConfigurations}
use Rattle.bi_fit.specs.Laws.{HasConfigurationByTypes}
use Rattle.bi_fit.specs.Text.{fit_text}
use Rattle.bi_legacy.specs.Codes.{os_names, arch_names, type_names, compression_names}
use Rattle.bi_legacy.specs.Codes.{name_of_code}
use Rattle.bi_fit.specs.declared.building.Head.{Head}
use Rattle.bi_norm.specs.declared.fit_building.ImageSpec.{ImageSpec}
use Rattle.bi_norm.specs.declared.fit_building.ImageTexts.{ImageTexts}
use Rattle.bi_norm.specs.declared.fit_building.PlanSpec.{PlanSpec}
use Rattle.bi_norm.specs.Converting.{code_name}

-- Building a flattened image tree from images with the codes of legacy headers or with texts, and
-- from a plan of its configurations and hash nodes (profile of this project).

-- The texts in an image node: the names of its codes, or texts that are given instead.
pub record ImageTextsModel : Type 0 where
  pub image_type : List ℕ
  pub arch : List ℕ
  pub os : List ℕ
  pub compression : List ℕ

abbrev pub image_texts_model : ImageTexts → ImageTextsModel
image_texts_model texts = record {
  image_type = texts.image_type.now;
  arch = texts.arch.now;
  os = texts.os.now;
  compression = texts.compression.now;
}

-- What a caller plans: configurations, the name of the default one, if it is given, the algorithms
-- of the hash nodes of each image, and for each image, in order, the texts that are given instead
-- of its codes, if any, and its own description, if it has one.
pub record PlanSpecModel : Type 0 where
  pub configurations : List ConfigurationSpecModel
  pub default : Option (List ℕ)
  pub algorithms : List Algo
  pub texts : List (Option ImageTextsModel)
  pub descriptions : List (Option (List ℕ))

abbrev pub texts_models : List (Option ImageTexts) → List (Option ImageTextsModel)
texts_models texts = map (option_map image_texts_model) texts

abbrev pub descriptions_models : List (Option (Bor (List ℕ))) → List (Option (List ℕ))
descriptions_models descriptions = map (option_map (λ text. text.now)) descriptions

abbrev pub plan_spec_model : PlanSpec → PlanSpecModel
plan_spec_model plan = record {
  configurations = configuration_spec_models plan.configurations.now;
  default = option_map (λ name. name.now) plan.default;
  algorithms = plan.algorithms.now;
  texts = texts_models plan.texts.now;
  descriptions = descriptions_models plan.descriptions.now;
}

-- The plan in which nothing is given but the SHA-256 of each image.
abbrev pub plain_plan : PlanSpecModel
plain_plan = record {
  configurations = [];
  default = None;
  algorithms = Sha256 ∷ [];
  texts = [];
  descriptions = [];
}

-- An image to be built, with the texts that are given instead of its codes, if there are any, and
-- its own description, if it has one.
pub record GivenImage : Type 0 where
  pub spec : ImageSpec
  pub texts : Option ImageTextsModel
  pub description : Option (List ℕ)

-- Images with their texts and descriptions. None are given for the images after the last of either,
-- and those after the last image are not looked at.
abbrev pub given_images : List (Option ImageTextsModel) → List (Option (List ℕ)) → List ImageSpec
    → List GivenImage
given_images texts descriptions [] = []
given_images texts descriptions (spec ∷ later) =
    record {
      spec = spec;
      texts = get_or texts 0 None;
      description = get_or descriptions 0 None;
    }
    ∷ given_images (drop 1 texts) (drop 1 descriptions) later

-- The images that a plan is for, with what it gives for them.
abbrev pub planned_images : PlanSpecModel → List ImageSpec → List GivenImage
planned_images plan images = given_images plan.texts plan.descriptions images

-- The names of the codes of an image.
abbrev pub names_of_codes : ImageSpec → ImageTextsModel
names_of_codes spec = record {
  image_type = code_name type_names spec.image_type;
  arch = code_name arch_names spec.arch;
  os = code_name os_names spec.os;
  compression = code_name compression_names spec.compression;
}

-- The texts in the node of an image: those given, or the names of its codes.
abbrev pub texts_for : GivenImage → ImageTextsModel
texts_for given = unwrap_or given.texts (names_of_codes given.spec)

-- The image to be built, with its texts and its description.
abbrev pub spec_model : GivenImage → ImageSpecModel
spec_model given = record {
  name = given.spec.name.now;
  description = given.description;
  image_type = (texts_for given).image_type;
  arch = (texts_for given).arch;
  os = (texts_for given).os;
  compression = (texts_for given).compression;
  load = given.spec.load;
  entry = given.spec.entry;
  payload = given.spec.payload.now;
}

-- The images that are built.
abbrev pub spec_models : PlanSpecModel → List ImageSpec → List ImageSpecModel
spec_models plan images = map spec_model (planned_images plan images)

-- The plan of the tree. If no configuration is given, one lists the images by their types. If no
-- default is given, it is the first configuration.
abbrev pub whole_plan : List ConfigurationSpecModel → (default : Option (List ℕ)) → List Algo
    → List ImageSpecModel → PlanModel
whole_plan [] default algorithms images = plan_by_types algorithms images
whole_plan (first ∷ later) default algorithms images = record {
  configurations = first ∷ later;
  default = unwrap_or default first.name;
  algorithms = algorithms;
}

abbrev pub plan_for : PlanSpecModel → List ImageSpecModel → PlanModel
plan_for plan images = whole_plan plan.configurations plan.default plan.algorithms images

abbrev pub plan_of_tree : PlanSpecModel → List ImageSpec → PlanModel
plan_of_tree plan images = plan_for plan (spec_models plan images)

-- The tree that is built.
abbrev pub tree_of_images : Head → PlanSpecModel → List ImageSpec → ImageTree
tree_of_images head plan images =
    built_tree (head_model head) (plan_of_tree plan images) (spec_models plan images)

-- An image to be built, its index, and the names of the images before it.
pub record IndexedImage : Type 0 where
  pub index : ℕ
  pub earlier : List (List ℕ)
  pub image : GivenImage

-- A configuration to be built, its index, the names of the configurations before it, and those of
-- all images.
pub record IndexedConfiguration : Type 0 where
  pub index : ℕ
  pub earlier : List (List ℕ)
  pub image_names : List (List ℕ)
  pub configuration : ConfigurationSpecModel

-- The texts that only one image or one configuration has, and its index.
pub record IndexedTexts : Type 0 where
  pub index : ℕ
  pub texts : List (List ℕ)

-- The checks of what is to be built.
pub data BuildCheck : Type 0 where
  HasFewImages : BuildCheck
  HasFewConfigurations : BuildCheck
  HasTextDescription : BuildCheck
  HasFields : IndexedImage → BuildCheck
  HasCodeNames : IndexedImage → BuildCheck
  HasNewName : IndexedImage → BuildCheck
  ListsImages : IndexedConfiguration → BuildCheck
  HasNewConfigurationName : IndexedConfiguration → BuildCheck
  HasDefault : BuildCheck
  HasOwnTexts : IndexedTexts → BuildCheck
  FitsLimit : BuildCheck

-- The code of multi-file images (U-Boot, include/image.h: IH_TYPE_MULTI).
abbrev pub multi : ℕ
multi = 4

-- No text has a zero byte.
pub record AreTexts (texts : ImageTextsModel) : Type 0 where
  pub image_type : HasNoZero texts.image_type
  pub arch : HasNoZero texts.arch
  pub os : HasNoZero texts.os
  pub compression : HasNoZero texts.compression

-- The texts that are given for an image have no zero byte. If none are given, it is not a
-- multi-file image.
abbrev pub HasTypeOrTexts : ImageSpec → Option ImageTextsModel → Type 0
HasTypeOrTexts spec None = spec.image_type ≢ multi
HasTypeOrTexts spec (Some texts) = AreTexts texts

-- Each code of an image has a name.
pub record HasNames (spec : ImageSpec) : Type 0 where
  pub arch : IsSome (name_of_code arch_names spec.arch)
  pub os : IsSome (name_of_code os_names spec.os)
  pub image_type : IsSome (name_of_code type_names spec.image_type)
  pub compression : IsSome (name_of_code compression_names spec.compression)

-- Each code has a name, if no texts are given instead of the codes.
abbrev pub HasNamesIfNeeded : ImageSpec → Option ImageTextsModel → Type 0
HasNamesIfNeeded spec None = HasNames spec
HasNamesIfNeeded spec (Some texts) = ⊤

-- Each name that a configuration lists is that of an image.
abbrev pub ListsOnly : (image_names : List (List ℕ)) → ConfigurationSpecModel → Type 0
ListsOnly image_names configuration =
    (key : Key)
    → AllByRecursion (λ name. IsTrue (is_among name image_names)) (configuration.lists key)

-- The name of the default configuration, if it is given, is that of a configuration.
abbrev pub HasKnownDefault : List ConfigurationSpecModel → Option (List ℕ) → Type 0
HasKnownDefault configurations default =
    IfSome default (λ name. IsTrue (is_among name (configuration_names configurations)))

-- When each check passes.
abbrev pub BuildPasses : Limits → Form → Head → PlanSpecModel → List ImageSpec → BuildCheck
    → Type 0
BuildPasses limits form head plan images HasFewImages = length images ≤ limits.file
BuildPasses limits form head plan images HasFewConfigurations =
    length plan.configurations ≤ limits.file
BuildPasses limits form head plan images HasTextDescription = HasNoZero head.description.now
BuildPasses limits form head plan images (HasFields at) =
    IsChildName at.image.spec.name.now × HasTypeOrTexts at.image.spec at.image.texts
BuildPasses limits form head plan images (HasCodeNames at) =
    HasNamesIfNeeded at.image.spec at.image.texts
BuildPasses limits form head plan images (HasNewName at) = IsNew at.image.spec.name.now at.earlier
BuildPasses limits form head plan images (ListsImages at) =
    IsChildName at.configuration.name × ListsOnly at.image_names at.configuration
BuildPasses limits form head plan images (HasNewConfigurationName at) =
    IsNew at.configuration.name at.earlier
BuildPasses limits form head plan images HasDefault =
    HasKnownDefault plan.configurations plan.default
BuildPasses limits form head plan images (HasOwnTexts at) = AllByRecursion HasNoZero at.texts
BuildPasses limits form head plan images FitsLimit =
    length (fit_text form (tree_of_images head plan images)) ≤ limits.file

-- The fault of each check that fails: at the limit, at the index of the image or of the
-- configuration, or, for the default, at the number of configurations.
abbrev pub build_fault : Limits → PlanSpecModel → BuildCheck → Fault
build_fault limits plan HasFewImages = record { cause = TooLarge; offset = limits.file }
build_fault limits plan HasFewConfigurations = record { cause = TooLarge; offset = limits.file }
build_fault limits plan HasTextDescription = record { cause = BadField; offset = 0 }
build_fault limits plan (HasFields at) = record { cause = BadField; offset = at.index }
build_fault limits plan (HasCodeNames at) = record { cause = NoCodeName; offset = at.index }
build_fault limits plan (HasNewName at) = record { cause = DuplicateNode; offset = at.index }
build_fault limits plan (ListsImages at) = record { cause = BadField; offset = at.index }
build_fault limits plan (HasNewConfigurationName at) =
    record { cause = DuplicateNode; offset = at.index }
build_fault limits plan HasDefault =
    record { cause = BadField; offset = length plan.configurations }
build_fault limits plan (HasOwnTexts at) = record { cause = BadField; offset = at.index }
build_fault limits plan FitsLimit = record { cause = TooLarge; offset = limits.file }

-- The checks of these images. The first of them has this index and comes after images with these
-- names.
abbrev pub spec_checks : ℕ → List (List ℕ) → List GivenImage → List BuildCheck
spec_checks index earlier [] = []
spec_checks index earlier (image ∷ later) =
    let at : IndexedImage = record { index = index; earlier = earlier; image = image } in
    HasFields at ∷ HasCodeNames at ∷ HasNewName at
    ∷ spec_checks (index + 1) (earlier ++ image.spec.name.now ∷ []) later

-- The checks of these configurations of images with these names. The first of them has this index
-- and comes after configurations with these names.
abbrev pub configuration_checks : (image_names : List (List ℕ)) → ℕ → List (List ℕ)
    → List ConfigurationSpecModel → List BuildCheck
configuration_checks image_names index earlier [] = []
configuration_checks image_names index earlier (configuration ∷ later) =
    let at : IndexedConfiguration = record {
      index = index;
      earlier = earlier;
      image_names = image_names;
      configuration = configuration;
    } in
    ListsImages at ∷ HasNewConfigurationName at
    ∷ configuration_checks image_names (index + 1) (earlier ++ configuration.name ∷ []) later

-- The texts of an image that no other has: its description.
abbrev pub own_texts_of_image : ImageSpecModel → List (List ℕ)
own_texts_of_image image = option_to_list image.description

-- The texts of a configuration that no other has: its description, and those of `compatible`.
abbrev pub own_texts_of_configuration : ConfigurationSpecModel → List (List ℕ)
own_texts_of_configuration configuration =
    option_to_list configuration.description ++ configuration.compatible

-- The checks of the texts of each image, or of each configuration. The first has this index.
abbrev pub own_texts_checks : ℕ → List (List (List ℕ)) → List BuildCheck
own_texts_checks index [] = []
own_texts_checks index (texts ∷ later) =
    HasOwnTexts (record { index = index; texts = texts }) ∷ own_texts_checks (index + 1) later

-- The names of images.
abbrev pub names_of_specs : List ImageSpec → List (List ℕ)
names_of_specs images = map (λ spec. spec.name.now) images

-- All checks, except that of the text's length, in their order.
abbrev pub early_checks : PlanSpecModel → List ImageSpec → List BuildCheck
early_checks plan images =
    HasFewImages ∷ HasFewConfigurations ∷ HasTextDescription
    ∷ (spec_checks 0 [] (planned_images plan images)
    ++ (configuration_checks (names_of_specs images) 0 [] plan.configurations
    ++ HasDefault
    ∷ (own_texts_checks 0 (map own_texts_of_image (spec_models plan images))
    ++ own_texts_checks 0 (map own_texts_of_configuration plan.configurations))))

-- All checks, in their order.
abbrev pub build_checks : PlanSpecModel → List ImageSpec → List BuildCheck
build_checks plan images = early_checks plan images ++ FitsLimit ∷ []

-- The fault of what is to be built: that of its first failing check.
abbrev pub IsBuildFaultAs : Limits → Form → Head → PlanSpecModel → List ImageSpec → Fault → Type 0
IsBuildFaultAs limits form head plan images fault =
    IsFirstFault (BuildPasses limits form head plan images) (build_fault limits plan)
    (build_checks plan images) fault

-- The checks of the first image that look at no other image.
abbrev pub first_image_checks : List GivenImage → List BuildCheck
first_image_checks [] = []
first_image_checks (image ∷ later) =
    let at : IndexedImage = record { index = 0; earlier = []; image = image } in
    HasFields at ∷ HasCodeNames at ∷ []

-- The checks before the first that needs memory, which is that of the names of images. They are the
-- first of all checks.
abbrev pub checks_without_memory : PlanSpecModel → List ImageSpec → List BuildCheck
checks_without_memory plan images =
    HasFewImages ∷ HasFewConfigurations ∷ HasTextDescription
    ∷ first_image_checks (planned_images plan images)

-- The error that building can have, except those of a sink. Memory is needed only after the checks
-- that need none.
abbrev pub IsBuildErrorAs : Limits → Form → Head → PlanSpecModel → List ImageSpec → Error → Type 0
IsBuildErrorAs limits form head plan images =
    FailsWith (IsBuildFaultAs limits form head plan images)
    (HasNoFault (BuildPasses limits form head plan images) (checks_without_memory plan images))

-- The text is that of the tree that is built. Under the same limit on files, if at least four nodes
-- may be open, it is accepted and means the tree. Its payloads are those of the images, its
-- verdicts are Good, and its configurations list the images that the plan names. If the plan has no
-- configuration, there is one that lists the images by their types.
pub record IsBuiltAs (limits : Limits) (form : Form) (head : Head) (plan : PlanSpecModel)
    (images : List ImageSpec) (text : List ℕ) : Type 0 where
  pub no_fault : HasNoFault (BuildPasses limits form head plan images) (build_checks plan images)
  pub is_text : text ≡ fit_text form (tree_of_images head plan images)
  pub accepted : (bounds : Limits) → bounds.file ≡ limits.file → 4 ≤ bounds.depth
      → IsAcceptedAs bounds text (tree_of_images head plan images)
  pub payloads :
      HasGoodPayloads (head_model head) (plan_of_tree plan images) (spec_models plan images)
  pub configurations :
      HasConfigurations (head_model head) (plan_of_tree plan images) (spec_models plan images)
  pub by_types : plan.configurations ≡ []
      → HasConfigurationByTypes (head_model head) plan.algorithms (spec_models plan images)

-- The fault, the error and the text of building without a plan: nothing is given but the SHA-256 of
-- each image.
abbrev pub IsBuildFault : Limits → Form → Head → List ImageSpec → Fault → Type 0
IsBuildFault limits form head images = IsBuildFaultAs limits form head plain_plan images

abbrev pub IsBuildError : Limits → Form → Head → List ImageSpec → Error → Type 0
IsBuildError limits form head images = IsBuildErrorAs limits form head plain_plan images

abbrev pub IsBuilt : Limits → Form → Head → List ImageSpec → List ℕ → Type 0
IsBuilt limits form head images = IsBuiltAs limits form head plain_plan images
