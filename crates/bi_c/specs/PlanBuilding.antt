use Rattle.std.specs.Prelude.{ℕ, ◌+◌, ◌<◌, ◌≤◌, ◌≡◌, ◌==◌, List, Option, None, Some, if◌then◌else◌}
use Rattle.std.specs.Prelude.{Bool, length, map, take, drop}
use Rattle.std.specs.List.{AllByRecursion, AllZip}
use Rattle.std.specs.Option.{option_map}
use Rattle.bi_base.specs.declared.fault.Fault.{Fault}
use Rattle.bi_base.specs.declared.fault.Error.TheVariants as error
use Rattle.bi_base.specs.Limits.{IsInRange}
use Rattle.bi_base.specs.Slices.{bytes_of}
use Rattle.bi_fit.specs.declared.building.ConfigurationSpec.{ConfigurationSpec}
use Rattle.bi_fit.specs.declared.building.Head.{Head}
use Rattle.bi_fit.specs.declared.key.Key.{Key}
use Rattle.bi_fit.specs.declared.key.Key.TheVariants.{Kernel, Fdt, Ramdisk, Firmware, Loadables}
use Rattle.bi_fit.specs.declared.key.Key.TheVariants.{Script}
use Rattle.bi_fit.specs.Building.{ConfigurationSpecModel}
use Rattle.bi_fit.specs.NamedImages.{configuration_spec_model, configuration_spec_models}
use Rattle.bi_hash.specs.declared.algo.Algo.{Algo}
use Rattle.bi_hash.specs.declared.algo.Algo.TheVariants.{Crc32, Md5, Sha1, Sha256, Sha384}
use Rattle.bi_hash.specs.declared.algo.Algo.TheVariants.{Sha512}
use Rattle.bi_norm.specs.declared.fit_building.ImageSpec.{ImageSpec}
use Rattle.bi_norm.specs.FitBuilding.{ImageTextsModel, IsBuildErrorAs, IsBuiltAs, PlanSpecModel}
use Rattle.bi_norm.specs.FitBuilding.{descriptions_models, texts_models}
use Rattle.bi_c.specs.Arguments.{bounds, has_bit, HasForm}
use Rattle.bi_c.specs.Checks.{ArrayCheck, IsLimit, IsWrong, NextCheck, NoCheck}
use Rattle.bi_c.specs.PieceBuilding.{IsPieceInside, bytes_of_piece}
use Rattle.bi_c.specs.TreeBuilding.{IsSpecInside, IsSpecOf}
use Rattle.bi_c.specs.declared.argument.Argument.{Argument}
use Rattle.bi_c.specs.declared.argument.Argument.TheVariants as argument
use Rattle.bi_c.specs.declared.failure.Failure.{Failure}
use Rattle.bi_c.specs.declared.failure.Failure.TheVariants.{WrongArgument, Refused, OutOfMemory}
use Rattle.bi_c.specs.declared.failure.Failure.TheVariants.{NotFound}
use Rattle.bi_c.specs.declared.fit_building.BuildElement.{BuildElement}
use Rattle.bi_c.specs.declared.plan_building.Arrays.{Arrays}
use Rattle.bi_c.specs.declared.plan_building.BuildConfiguration.{BuildConfiguration}
use Rattle.bi_c.specs.declared.plan_building.BuildOptions.{BuildOptions}
use Rattle.bi_c.specs.declared.plan_building.BuildTexts.{BuildTexts}
use Rattle.bi_c.specs.declared.plan_building.PlanParts.{PlanParts}
use Rattle.bi_c.specs.declared.plan_building.Range.{Range}
use Rattle.bi_c.specs.declared.plan_building.Settings.{Settings}
use Rattle.bi_c.specs.declared.region.Region.{Region}

-- The FITs that a call from C builds from pieces of the caller's memory, with a plan of their
-- configurations and hash nodes (profile of this project).

-- What the caller passes.
pub record PlanPieces : Type 0 where
  pub input : List ℕ
  pub options : BuildOptions
  pub images : List BuildElement
  pub texts : List BuildTexts
  pub configurations : List BuildConfiguration
  pub lists : List Region
  pub algorithms : List ℕ

-- The size of the struct of options in bytes.
abbrev pub options_size : ℕ
options_size = 64

-- ---- what the arguments give

-- The bytes of a region of an input, if something is given.
abbrev pub piece_if_given : (is_given : Bool) → (input : List ℕ) → Region → Option (List ℕ)
piece_if_given is_given input region =
    if is_given then Some (bytes_of_piece input region) else None

-- The texts that an element has instead of the codes of its image.
abbrev pub texts_if_given : (input : List ℕ) → BuildTexts → Option ImageTextsModel
texts_if_given input texts =
    if has_bit 2 texts.given
    then Some (record {
      image_type = bytes_of_piece input texts.image_type;
      arch = bytes_of_piece input texts.arch;
      os = bytes_of_piece input texts.os;
      compression = bytes_of_piece input texts.compression;
    })
    else None

-- The description that it has.
abbrev pub description_if_given : (input : List ℕ) → BuildTexts → Option (List ℕ)
description_if_given input texts = piece_if_given (has_bit 1 texts.given) input texts.description

-- The texts in a range of the regions of an input.
abbrev pub texts_of_range : (input : List ℕ) → List Region → Range → List (List ℕ)
texts_of_range input lists range =
    map (bytes_of_piece input) (take range.count (drop range.first lists))

-- The range of the names that a configuration lists under a key.
abbrev pub range_of_key : BuildConfiguration → Key → Range
range_of_key configuration Kernel = configuration.kernel
range_of_key configuration Fdt = configuration.fdt
range_of_key configuration Ramdisk = configuration.ramdisk
range_of_key configuration Firmware = configuration.firmware
range_of_key configuration Loadables = configuration.loadables
range_of_key configuration Script = configuration.script

-- The configuration that an element of the caller's array is.
abbrev pub configuration_of_element : (input : List ℕ) → List Region → BuildConfiguration
    → ConfigurationSpecModel
configuration_of_element input lists configuration = record {
  name = bytes_of_piece input configuration.name;
  description =
      piece_if_given (has_bit 1 configuration.given) input configuration.description;
  compatible = texts_of_range input lists configuration.compatible;
  lists = λ key. texts_of_range input lists (range_of_key configuration key);
}

-- The algorithm with this number, counted from 0 in the order of `--hash`.
abbrev pub algorithm_of : ℕ → Algo
algorithm_of number =
    if number == 0 then Crc32
    else if number == 1 then Md5
    else if number == 2 then Sha1
    else if number == 3 then Sha256
    else if number == 4 then Sha384
    else Sha512

-- The plan.
abbrev pub plan_of_pieces : PlanPieces → PlanSpecModel
plan_of_pieces pieces = record {
  configurations = map (configuration_of_element pieces.input pieces.lists) pieces.configurations;
  default =
      piece_if_given (has_bit 1 pieces.options.given) pieces.input pieces.options.default_name;
  algorithms = map algorithm_of pieces.algorithms;
  texts = map (texts_if_given pieces.input) pieces.texts;
  descriptions = map (description_if_given pieces.input) pieces.texts;
}

-- ---- which arguments are valid

-- All regions of these texts are inside the input, and the number is such a sum.
pub record AreTextsInside (input : List ℕ) (texts : BuildTexts) : Type 0 where
  pub description : IsPieceInside input texts.description
  pub image_type : IsPieceInside input texts.image_type
  pub arch : IsPieceInside input texts.arch
  pub os : IsPieceInside input texts.os
  pub compression : IsPieceInside input texts.compression
  pub is_sum : texts.given < 4

-- The range is one of indices of the list.
abbrev pub IsRangeInside : List Region → Range → Type 0
IsRangeInside lists range = range.first + range.count ≤ length lists

-- The name and the description of a configuration are inside the input, and its ranges inside the
-- list.
pub record IsConfigurationInside (input : List ℕ) (lists : List Region)
    (configuration : BuildConfiguration) : Type 0
  where
    pub name : IsPieceInside input configuration.name
    pub description : IsPieceInside input configuration.description
    pub is_flag : configuration.given < 2
    pub compatible : IsRangeInside lists configuration.compatible
    pub listed : (key : Key) → IsRangeInside lists (range_of_key configuration key)

-- What the options have besides the limits and the form is valid: the struct has this size, its
-- regions are inside the input, and the flag is one.
pub record AreOtherOptions (input : List ℕ) (options : BuildOptions) : Type 0 where
  pub is_size : options.size ≡ options_size
  pub description : IsPieceInside input options.description
  pub default : IsPieceInside input options.default_name
  pub is_flag : options.given < 2

-- The struct of options has this size, its numbers are in their ranges, and its regions inside the
-- input.
pub record AreOptions (input : List ℕ) (options : BuildOptions) : Type 0 where
  pub is_size : options.size ≡ options_size
  pub arguments : HasForm options.limit options.depth options.form
  pub description : IsPieceInside input options.description
  pub default : IsPieceInside input options.default_name
  pub is_flag : options.given < 2

-- All arguments are valid. A region of what is not given must be inside the input, too, as one of
-- no bytes at 0 is.
pub record ArePieces (pieces : PlanPieces) : Type 0 where
  pub options : AreOptions pieces.input pieces.options
  pub images : AllByRecursion (IsSpecInside pieces.input) pieces.images
  pub texts : AllByRecursion (AreTextsInside pieces.input) pieces.texts
  pub lists : AllByRecursion (IsPieceInside pieces.input) pieces.lists
  pub configurations :
      AllByRecursion (IsConfigurationInside pieces.input pieces.lists) pieces.configurations
  pub algorithms : AllByRecursion (λ number. number < 6) pieces.algorithms

-- The options are checked: what they have besides the limits and the form, the limits, and then
-- the form.
abbrev pub OwnCheck : (input : List ℕ) → BuildOptions → Option (Argument × ℕ) → Type 0
OwnCheck input options = NextCheck NoCheck argument.Options (AreOtherOptions input options)

abbrev pub OptionsLimitCheck : (input : List ℕ) → BuildOptions → Option (Argument × ℕ) → Type 0
OptionsLimitCheck input options = NextCheck (OwnCheck input options) argument.Limit
    (AreOtherOptions input options × IsLimit options.limit)

abbrev pub OptionsDepthCheck : (input : List ℕ) → BuildOptions → Option (Argument × ℕ) → Type 0
OptionsDepthCheck input options = NextCheck (OptionsLimitCheck input options) argument.Depth
    (AreOtherOptions input options × IsInRange options.limit options.depth)

abbrev pub OptionsCheck : (input : List ℕ) → BuildOptions → Option (Argument × ℕ) → Type 0
OptionsCheck input options =
    NextCheck (OptionsDepthCheck input options) argument.Form (AreOptions input options)

-- Then the images are checked,
abbrev pub ImagesCheck : PlanPieces → Option (Argument × ℕ) → Type 0
ImagesCheck pieces = ArrayCheck (OptionsCheck pieces.input pieces.options) argument.Images
    (IsSpecInside pieces.input) pieces.images

-- the texts,
abbrev pub TextsCheck : PlanPieces → Option (Argument × ℕ) → Type 0
TextsCheck pieces =
    ArrayCheck (ImagesCheck pieces) argument.Texts (AreTextsInside pieces.input) pieces.texts

-- the lists,
abbrev pub ListsCheck : PlanPieces → Option (Argument × ℕ) → Type 0
ListsCheck pieces =
    ArrayCheck (TextsCheck pieces) argument.Lists (IsPieceInside pieces.input) pieces.lists

-- the algorithms,
abbrev pub AlgorithmsCheck : PlanPieces → Option (Argument × ℕ) → Type 0
AlgorithmsCheck pieces = ArrayCheck (ListsCheck pieces) argument.Algorithms
    (λ number. number < 6) pieces.algorithms

-- and then the configurations.
abbrev pub PlanCheck : PlanPieces → Option (Argument × ℕ) → Type 0
PlanCheck pieces = ArrayCheck (AlgorithmsCheck pieces) argument.Configurations
    (IsConfigurationInside pieces.input pieces.lists) pieces.configurations

-- ---- what the call returns

-- What is to be built: this head, and these images.
pub record AreToBeBuilt (pieces : PlanPieces) (head : Head) (specs : List ImageSpec) : Type 0 where
  pub valid : ArePieces pieces
  pub is_description :
      head.description.now ≡ bytes_of_piece pieces.input pieces.options.description
  pub is_time : head.time ≡ pieces.options.time
  pub are_specs : AllZip (IsSpecOf pieces.input) pieces.images specs

-- The text is that of the tree that is built.
pub record IsPlannedTree (pieces : PlanPieces) (text : List ℕ) (value : ℕ) : Type 0 where
  pub head : Head
  pub specs : List ImageSpec
  pub are : AreToBeBuilt pieces head specs
  pub is : IsBuiltAs (bounds pieces.options.limit pieces.options.depth)
      are.valid.options.arguments.form head (plan_of_pieces pieces) specs text
  pub no_value : value ≡ 0

-- The fault that building a FIT from these pieces has.
pub record IsPlanRefusal (pieces : PlanPieces) (fault : Fault) : Type 0 where
  pub head : Head
  pub specs : List ImageSpec
  pub are : AreToBeBuilt pieces head specs
  pub is : IsBuildErrorAs (bounds pieces.options.limit pieces.options.depth)
      are.valid.options.arguments.form head (plan_of_pieces pieces) specs (error.Refused fault)

-- Why no tree is built. Memory may run out once the options are valid.
abbrev pub IsPlanFailure : PlanPieces → Failure → Type 0
IsPlanFailure pieces (WrongArgument found index) = IsWrong (PlanCheck pieces) found index
IsPlanFailure pieces (Refused file fault) = (file ≡ 1) × IsPlanRefusal pieces fault
IsPlanFailure pieces OutOfMemory = AreOptions pieces.input pieces.options
IsPlanFailure pieces (NotFound reason index) = ⊥

-- ---- what its parts return

-- What the caller passes, if it passes these arrays.
abbrev pub pieces_of_call : (input : List ℕ) → BuildOptions → Arrays → PlanPieces
pieces_of_call input options arrays = record {
  input = input;
  options = options;
  images = arrays.images.now;
  texts = arrays.texts.now;
  configurations = arrays.configurations.now;
  lists = arrays.lists.now;
  algorithms = arrays.algorithms.now;
}

-- What the options request.
pub record AreSettingsOf (input : List ℕ) (options : BuildOptions) (settings : Settings) : Type 0
  where
    pub valid : AreOptions input options
    pub is_form : settings.form ≡ valid.arguments.form
    pub are_limits : settings.limits ≡ bounds options.limit options.depth
    pub is_description :
        settings.head.description.now ≡ bytes_of_piece input options.description
    pub is_time : settings.head.time ≡ options.time
    pub is_default : option_map (λ name. name.now) settings.default
        ≡ piece_if_given (has_bit 1 options.given) input options.default_name

-- What the elements of the arrays give, except the configurations.
pub record ArePlanParts (input : List ℕ) (arrays : Arrays) (parts : PlanParts) : Type 0 where
  pub texts_inside : AllByRecursion (AreTextsInside input) arrays.texts.now
  pub lists_inside : AllByRecursion (IsPieceInside input) arrays.lists.now
  pub are_numbers : AllByRecursion (λ number. number < 6) arrays.algorithms.now
  pub images : AllZip (IsSpecOf input) arrays.images.now parts.images.items
  pub texts : texts_models parts.texts.items ≡ map (texts_if_given input) arrays.texts.now
  pub descriptions : descriptions_models parts.descriptions.items
      ≡ map (description_if_given input) arrays.texts.now
  pub lists : bytes_of parts.lists.items ≡ map (bytes_of_piece input) arrays.lists.now
  pub algorithms : parts.algorithms.items ≡ map algorithm_of arrays.algorithms.now

-- The configuration of an element,
pub record IsConfigurationOf (input : List ℕ) (lists : List Region)
    (configuration : BuildConfiguration) (spec : ConfigurationSpec) : Type 0
  where
    pub inside : IsConfigurationInside input lists configuration
    pub is : configuration_spec_model spec ≡ configuration_of_element input lists configuration

-- and those of all elements.
pub record AreConfigurationsOf (input : List ℕ) (lists : List Region)
    (configurations : List BuildConfiguration) (specs : List ConfigurationSpec) : Type 0
  where
    pub inside : AllByRecursion (IsConfigurationInside input lists) configurations
    pub are : configuration_spec_models specs
        ≡ map (configuration_of_element input lists) configurations
