use Rattle.std.proofs.Common.{◌≡◌, ◌<◌, ◌≤◌, ◌+◌, ◌++◌, ◌∷◌, [], Bor, List, ℕ, drop, get_or, length, map, take}
use Rattle.std.proofs.Common.{Option, None, ap, refl, sym, subst, ◌∙◌}
use Rattle.std.proofs.lemmas.List.{drop-map, length-map, map-append, map_more, take-map, take_more}
use Rattle.std.proofs.lemmas.List.Elements.{Contains-get_or}
use Rattle.std.specs.List.{AllByRecursion, AllZip}
use Rattle.std.specs.Option.{option_map}
use Rattle.bi_base.proofs.ListMembers.{each-append, each-contains}
use Rattle.bi_base.specs.declared.fault.Error.{Error}
use Rattle.bi_base.specs.declared.fault.Error.TheVariants as error
use Rattle.bi_base.specs.Limits.{Limits}
use Rattle.bi_base.specs.Slices.{bytes_of}
use Rattle.bi_fit.specs.declared.building.ConfigurationSpec.{ConfigurationSpec}
use Rattle.bi_fit.specs.declared.form.Form.{Form}
use Rattle.bi_fit.specs.declared.key.Key.{Key}
use Rattle.bi_fit.specs.declared.key.Key.TheVariants.{Kernel, Fdt, Ramdisk, Firmware, Loadables, Script}
use Rattle.bi_fit.specs.NamedImages.{configuration_spec_models, names_listed}
use Rattle.bi_norm.specs.declared.fit_building.ImageSpec.{ImageSpec}
use Rattle.bi_norm.specs.declared.fit_building.PlanSpec.{PlanSpec}
use Rattle.bi_norm.specs.FitBuilding.{IsBuildErrorAs, IsBuiltAs, PlanSpecModel, descriptions_models, plan_spec_model, texts_models}
use Rattle.bi_c.specs.Answers.{failure_of_error}
use Rattle.bi_c.specs.Arguments.{bounds, has_bit}
use Rattle.bi_c.specs.PieceBuilding.{IsPieceInside, bytes_of_piece}
use Rattle.bi_c.specs.PlanBuilding.{AreConfigurationsOf, AreOptions, ArePieces, ArePlanParts, AreSettingsOf, AreToBeBuilt}
use Rattle.bi_c.specs.PlanBuilding.{IsConfigurationInside, IsConfigurationOf, IsPlanFailure, IsPlannedTree}
use Rattle.bi_c.specs.PlanBuilding.{IsRangeInside}
use Rattle.bi_c.specs.PlanBuilding.{PlanPieces, configuration_of_element, piece_if_given, pieces_of_call, plan_of_pieces, range_of_key}
use Rattle.bi_c.specs.PlanBuilding.{texts_of_range}
use Rattle.bi_c.specs.TreeBuilding.{IsSpecInside, IsSpecOf}
use Rattle.bi_c.specs.declared.failure.Failure.{Failure}
use Rattle.bi_c.specs.declared.failure.Failure.TheVariants.{WrongArgument, Refused, OutOfMemory, NotFound}
use Rattle.bi_c.specs.declared.fit_building.BuildElement.{BuildElement}
use Rattle.bi_c.specs.declared.plan_building.Arrays.{Arrays}
use Rattle.bi_c.specs.declared.plan_building.BuildConfiguration.{BuildConfiguration}
use Rattle.bi_c.specs.declared.plan_building.BuildOptions.{BuildOptions}
use Rattle.bi_c.specs.declared.plan_building.BuildTexts.{BuildTexts}
use Rattle.bi_c.specs.declared.plan_building.PlanParts.{PlanParts}
use Rattle.bi_c.specs.declared.plan_building.Range.{Range}
use Rattle.bi_c.specs.declared.plan_building.Settings.{Settings}
use Rattle.bi_c.specs.Checks.{ArrayCheck, IsElementFailure, IsWrong}
use Rattle.bi_c.specs.PlanBuilding.{AlgorithmsCheck, AreTextsInside, ImagesCheck, ListsCheck, OptionsCheck, PlanCheck, TextsCheck}
use Rattle.bi_c.specs.declared.argument.Argument.{Argument}
use Rattle.bi_c.specs.declared.argument.Argument.TheVariants.{Algorithms, Configurations, Images, Lists, Texts}
use Rattle.bi_c.proofs.CheckFacts.{before_array_is_wrong, element_is_wrong}
use Rattle.bi_c.specs.declared.region.Region.{Region}

-- A call from C builds the tree of its plan, or fails as building that tree fails.

-- ---- the elements of the caller's arrays, one after another

-- What holds of each element holds of the one at an index.
pub inside_at : {X : Type 0} (P : X → Type 0) (xs : List X) (index : ℕ) (none : X) → index < length xs → AllByRecursion P xs →
    P (get_or xs index none)
inside_at P xs index none within all = each-contains P xs (get_or xs index none) all (Contains-get_or xs index none within)

-- What holds of the first elements and of the next one holds of all these.
pub one_more_inside : {X : Type 0} (P : X → Type 0) (xs : List X) (index : ℕ) (none : X) → index < length xs →
    AllByRecursion P (take index xs) → P (get_or xs index none) → AllByRecursion P (take (index + 1) xs)
one_more_inside P xs index none within all next =
    subst (AllByRecursion P) (sym (take_more xs index none within))
    (each-append P (take index xs) (get_or xs index none ∷ []) all (next, tt))

-- What the first elements give, and the next one.
pub one_more_meant : {X Y : Type 0} (f : X → Y) (xs : List X) (index : ℕ) (none : X) (before after : List Y) (next : Y) →
    index < length xs → after ≡ before ++ next ∷ [] → next ≡ f (get_or xs index none) → before ≡ map f (take index xs) →
    after ≡ map f (take (index + 1) xs)
one_more_meant f xs index none before after next within added is so_far =
    added ∙ (λ i. so_far i ++ is i ∷ []) ∙ sym (map_more f xs index none within)

-- The same of what models give.
pub one_more_model : {X Y Z : Type 0} (f : X → Z) (model : Y → Z) (xs : List X) (index : ℕ) (none : X) (before after : List Y)
    (next : Y) → index < length xs → after ≡ before ++ next ∷ [] → model next ≡ f (get_or xs index none) →
    map model before ≡ map f (take index xs) → map model after ≡ map f (take (index + 1) xs)
one_more_model f model xs index none before after next within added is so_far =
    one_more_meant f xs index none (map model before) (map model after) (model next) within
    (ap (map model) added ∙ map-append model before (next ∷ [])) is so_far

-- A list of elements has no element past its end.
abbrev past_piece : Region
past_piece = record { offset = 0; size = 0 }

abbrev past_range : Range
past_range = record { first = 0; count = 0 }

abbrev pub past_texts : BuildTexts
past_texts = record {
  description = past_piece;
  image_type = past_piece;
  arch = past_piece;
  os = past_piece;
  compression = past_piece;
  given = 0;
}

abbrev pub past_configuration : BuildConfiguration
past_configuration = record {
  name = past_piece;
  description = past_piece;
  compatible = past_range;
  kernel = past_range;
  fdt = past_range;
  ramdisk = past_range;
  firmware = past_range;
  loadables = past_range;
  script = past_range;
  given = 0;
}

-- ---- a configuration

-- These pieces are those in a range.
pub record IsListedPart (pieces : List (Bor (List ℕ))) (range : Range) (listed : List (Bor (List ℕ))) : Type 0 where
  pub inside : range.first + range.count ≤ length pieces
  pub is : listed ≡ take range.count (drop range.first pieces)

-- The pieces in a range are those of the regions in it.
module _ (input : List ℕ) (pieces : List (Bor (List ℕ))) (lists : List Region)
    (same : bytes_of pieces ≡ map (bytes_of_piece input) lists) where
  same_length : length pieces ≡ length lists
  same_length = sym (length-map pieces (λ (slice : Bor (List ℕ)). slice.now)) ∙ ap length same ∙ length-map lists (bytes_of_piece input)

  listed_is : (range : Range) (listed : List (Bor (List ℕ))) → listed ≡ take range.count (drop range.first pieces) →
      bytes_of listed ≡ texts_of_range input lists range
  listed_is range listed is =
      ap bytes_of is
      ∙ sym (take-map (λ (slice : Bor (List ℕ)). slice.now) range.count (drop range.first pieces))
      ∙ ap (take range.count) (sym (drop-map (λ (slice : Bor (List ℕ)). slice.now) range.first pieces))
      ∙ ap (λ texts. take range.count (drop range.first texts)) same
      ∙ ap (take range.count) (drop-map (bytes_of_piece input) range.first lists)
      ∙ take-map (bytes_of_piece input) range.count (drop range.first lists)

  part_is : (range : Range) (listed : List (Bor (List ℕ))) → IsListedPart pieces range listed →
      IsRangeInside lists range × (bytes_of listed ≡ texts_of_range input lists range)
  part_is range listed part =
      (subst (λ count. range.first + range.count ≤ count) same_length part.inside, listed_is range listed part.is)

  -- A range that ends after the last piece is not inside.
  pub range_outside : (range : Range) → ¬ (range.first + range.count ≤ length pieces) → ¬ (IsRangeInside lists range)
  range_outside range outside inside = outside (subst (λ count. range.first + range.count ≤ count) (sym same_length) inside)

  names_are : (element : BuildConfiguration) (spec : ConfigurationSpec) → IsListedPart pieces element.kernel spec.kernel.now →
      IsListedPart pieces element.fdt spec.fdt.now → IsListedPart pieces element.ramdisk spec.ramdisk.now →
      IsListedPart pieces element.firmware spec.firmware.now → IsListedPart pieces element.loadables spec.loadables.now →
      IsListedPart pieces element.script spec.script.now → (key : Key) →
      IsRangeInside lists (range_of_key element key)
      × (names_listed spec key ≡ texts_of_range input lists (range_of_key element key))
  names_are element spec kernel fdt ramdisk firmware loadables script Kernel = part_is element.kernel spec.kernel.now kernel
  names_are element spec kernel fdt ramdisk firmware loadables script Fdt = part_is element.fdt spec.fdt.now fdt
  names_are element spec kernel fdt ramdisk firmware loadables script Ramdisk = part_is element.ramdisk spec.ramdisk.now ramdisk
  names_are element spec kernel fdt ramdisk firmware loadables script Firmware = part_is element.firmware spec.firmware.now firmware
  names_are element spec kernel fdt ramdisk firmware loadables script Loadables = part_is element.loadables spec.loadables.now loadables
  names_are element spec kernel fdt ramdisk firmware loadables script Script = part_is element.script spec.script.now script

  -- The configuration that is made of the pieces.
  pub configuration_is : (element : BuildConfiguration) (spec : ConfigurationSpec) → IsPieceInside input element.name →
      spec.name.now ≡ bytes_of_piece input element.name → IsPieceInside input element.description →
      option_map (λ (text : Bor (List ℕ)). text.now) spec.description
      ≡ piece_if_given (has_bit 1 element.given) input element.description → element.given < 2 →
      IsListedPart pieces element.compatible spec.compatible.now → IsListedPart pieces element.kernel spec.kernel.now →
      IsListedPart pieces element.fdt spec.fdt.now → IsListedPart pieces element.ramdisk spec.ramdisk.now →
      IsListedPart pieces element.firmware spec.firmware.now → IsListedPart pieces element.loadables spec.loadables.now →
      IsListedPart pieces element.script spec.script.now → IsConfigurationOf input lists element spec
  configuration_is element spec name is_name description is_description is_flag compatible kernel fdt ramdisk firmware loadables script =
      let names = names_are element spec kernel fdt ramdisk firmware loadables script in
      let boards = part_is element.compatible spec.compatible.now compatible in
      record {
        inside = record {
          name = name;
          description = description;
          is_flag = is_flag;
          compatible = boards.0;
          listed = λ key. (names key).0;
        };
        is = λ i. record {
          name = is_name i;
          description = is_description i;
          compatible = boards.1 i;
          lists = λ key. (names key).1 i;
        };
      }

-- A configuration that is added to those of the first elements.
pub one_more_configuration : (input : List ℕ) (lists : List Region) (elements : List BuildConfiguration) (index : ℕ)
    (none : BuildConfiguration) (before after : List ConfigurationSpec) (next : ConfigurationSpec) → index < length elements →
    after ≡ before ++ next ∷ [] → IsConfigurationOf input lists (get_or elements index none) next →
    AreConfigurationsOf input lists (take index elements) before → AreConfigurationsOf input lists (take (index + 1) elements) after
one_more_configuration input lists elements index none before after next within added is so_far = record {
  inside = one_more_inside (IsConfigurationInside input lists) elements index none within so_far.inside is.inside;
  are = one_more_model (configuration_of_element input lists) _ elements index none before after next within added is.is so_far.are;
}

-- ---- the call

-- The images are inside the input.
pub specs_inside : (input : List ℕ) (images : List BuildElement) (specs : List ImageSpec) → AllZip (IsSpecOf input) images specs →
    AllByRecursion (IsSpecInside input) images
specs_inside input [] specs are = tt
specs_inside input (image ∷ later) [] are = absurd are
specs_inside input (image ∷ later) (spec ∷ others) are = (are.0.inside, specs_inside input later others are.1)

-- A wrong argument of the options or of an array is one of the call.
module _ (pieces : PlanPieces) where
  from_algorithms : (found : Argument) (index : ℕ) → IsWrong (AlgorithmsCheck pieces) found index → IsWrong (PlanCheck pieces) found index
  from_algorithms =
      before_array_is_wrong (AlgorithmsCheck pieces) Configurations (IsConfigurationInside pieces.input pieces.lists) pieces.configurations

  from_lists : (found : Argument) (index : ℕ) → IsWrong (ListsCheck pieces) found index → IsWrong (PlanCheck pieces) found index
  from_lists found index wrong =
      from_algorithms found index
      (before_array_is_wrong (ListsCheck pieces) Algorithms (λ number. number < 6) pieces.algorithms found index wrong)

  from_texts : (found : Argument) (index : ℕ) → IsWrong (TextsCheck pieces) found index → IsWrong (PlanCheck pieces) found index
  from_texts found index wrong =
      from_lists found index
      (before_array_is_wrong (TextsCheck pieces) Lists (IsPieceInside pieces.input) pieces.lists found index wrong)

  from_images : (found : Argument) (index : ℕ) → IsWrong (ImagesCheck pieces) found index → IsWrong (PlanCheck pieces) found index
  from_images found index wrong =
      from_texts found index
      (before_array_is_wrong (ImagesCheck pieces) Texts (AreTextsInside pieces.input) pieces.texts found index wrong)

  pub from_options : (found : Argument) (index : ℕ) → IsWrong (OptionsCheck pieces.input pieces.options) found index →
      IsWrong (PlanCheck pieces) found index
  from_options found index wrong =
      from_images found index
      (before_array_is_wrong (OptionsCheck pieces.input pieces.options) Images (IsSpecInside pieces.input) pieces.images found index wrong)

  -- If an element is not valid, the call fails.
  no_elements : {T : Type 0} (First : Option (Argument × ℕ) → Type 0) (array : Argument) (IsValid : T → Type 0) (elements : List T) →
      AreOptions pieces.input pieces.options → First None →
      ((found : Argument) (index : ℕ) → IsWrong (ArrayCheck First array IsValid elements) found index →
      IsWrong (PlanCheck pieces) found index) → (failure : Failure) → IsElementFailure array IsValid elements failure →
      IsPlanFailure pieces failure
  no_elements First array IsValid elements options first from (WrongArgument found index) none =
      subst (λ (wrong : Argument). IsWrong (PlanCheck pieces) wrong index) (sym none.0)
      (from array index (element_is_wrong First array IsValid elements index first none.1))
  no_elements First array IsValid elements options first from OutOfMemory none = options
  no_elements First array IsValid elements options first from (Refused file fault) none = absurd none
  no_elements First array IsValid elements options first from (NotFound reason index) none = absurd none

  module _ (options : AreOptions pieces.input pieces.options) where
    pub no_images : (failure : Failure) → IsElementFailure Images (IsSpecInside pieces.input) pieces.images failure →
        IsPlanFailure pieces failure
    no_images = no_elements (OptionsCheck pieces.input pieces.options) Images (IsSpecInside pieces.input) pieces.images options options
        from_images

    module _ (images : AllByRecursion (IsSpecInside pieces.input) pieces.images) where
      pub no_texts : (failure : Failure) → IsElementFailure Texts (AreTextsInside pieces.input) pieces.texts failure →
          IsPlanFailure pieces failure
      no_texts = no_elements (ImagesCheck pieces) Texts (AreTextsInside pieces.input) pieces.texts options (options, images) from_texts

      module _ (texts : AllByRecursion (AreTextsInside pieces.input) pieces.texts) where
        pub no_lists : (failure : Failure) → IsElementFailure Lists (IsPieceInside pieces.input) pieces.lists failure →
            IsPlanFailure pieces failure
        no_lists = no_elements (TextsCheck pieces) Lists (IsPieceInside pieces.input) pieces.lists options ((options, images), texts)
            from_lists

        module _ (lists : AllByRecursion (IsPieceInside pieces.input) pieces.lists) where
          pub no_algorithms : (failure : Failure) → IsElementFailure Algorithms (λ number. number < 6) pieces.algorithms failure →
              IsPlanFailure pieces failure
          no_algorithms = no_elements (ListsCheck pieces) Algorithms (λ number. number < 6) pieces.algorithms options
              (((options, images), texts), lists) from_algorithms

          pub no_configurations : AllByRecursion (λ number. number < 6) pieces.algorithms → (failure : Failure) →
              IsElementFailure Configurations (IsConfigurationInside pieces.input pieces.lists) pieces.configurations failure →
              IsPlanFailure pieces failure
          no_configurations algorithms = no_elements (AlgorithmsCheck pieces) Configurations
              (IsConfigurationInside pieces.input pieces.lists) pieces.configurations options
              ((((options, images), texts), lists), algorithms) (λ found index wrong. wrong)

-- The plan is made of these.
pub record IsMadeOf (settings : Settings) (parts : PlanParts) (specs : List ConfigurationSpec) (plan : PlanSpec) : Type 0 where
  pub configurations : plan.configurations.now ≡ specs
  pub default : plan.default ≡ settings.default
  pub algorithms : plan.algorithms.now ≡ parts.algorithms.items
  pub texts : plan.texts.now ≡ parts.texts.items
  pub descriptions : plan.descriptions.now ≡ parts.descriptions.items

module _ (input : List ℕ) (options : BuildOptions) (arrays : Arrays) (settings : Settings) (parts : PlanParts)
    (specs : List ConfigurationSpec) (are_settings : AreSettingsOf input options settings) (are_parts : ArePlanParts input arrays parts)
    (are : AreConfigurationsOf input arrays.lists.now arrays.configurations.now specs) (plan : PlanSpec) (images : List ImageSpec)
    (made : IsMadeOf settings parts specs plan) (are_images : images ≡ parts.images.items) where
  abbrev pieces : PlanPieces
  pieces = pieces_of_call input options arrays

  is_plan : plan_spec_model plan ≡ plan_of_pieces pieces
  is_plan = λ i. record {
    configurations = (ap configuration_spec_models made.configurations ∙ are.are) i;
    default = (ap (option_map (λ (name : Bor (List ℕ)). name.now)) made.default ∙ are_settings.is_default) i;
    algorithms = (made.algorithms ∙ are_parts.algorithms) i;
    texts = (ap texts_models made.texts ∙ are_parts.texts) i;
    descriptions = (ap descriptions_models made.descriptions ∙ are_parts.descriptions) i;
  }

  valid : ArePieces pieces
  valid = record {
    options = are_settings.valid;
    images = specs_inside input arrays.images.now parts.images.items are_parts.images;
    texts = are_parts.texts_inside;
    lists = are_parts.lists_inside;
    configurations = are.inside;
    algorithms = are_parts.are_numbers;
  }

  to_be_built : AreToBeBuilt pieces settings.head images
  to_be_built = record {
    valid = valid;
    is_description = are_settings.is_description;
    is_time = are_settings.is_time;
    are_specs = subst (AllZip (IsSpecOf input) arrays.images.now) (sym are_images) are_parts.images;
  }

  -- What is built of the settings and the plan is built of the pieces, or not.
  as_planned : (Is : Limits → Form → PlanSpecModel → Type 0) → Is settings.limits settings.form (plan_spec_model plan) →
      Is (bounds options.limit options.depth) are_settings.valid.arguments.form (plan_of_pieces pieces)
  as_planned Is is =
      subst (λ (limits : Limits). Is limits are_settings.valid.arguments.form (plan_of_pieces pieces)) are_settings.are_limits
      (subst (λ (form : Form). Is settings.limits form (plan_of_pieces pieces)) are_settings.is_form
      (subst (λ (p : PlanSpecModel). Is settings.limits settings.form p) is_plan is))

  pub planned_tree : (text : List ℕ) → IsBuiltAs settings.limits settings.form settings.head (plan_spec_model plan) images text →
      IsPlannedTree pieces text 0
  unfolding to_be_built valid
  planned_tree text is = record {
    head = settings.head;
    specs = images;
    are = to_be_built;
    is = as_planned (λ limits form p. IsBuiltAs limits form settings.head p images text) is;
    no_value = refl;
  }

  pub no_planned_tree : (cause : Error) → IsBuildErrorAs settings.limits settings.form settings.head (plan_spec_model plan) images cause →
      IsPlanFailure pieces (failure_of_error cause)
  unfolding to_be_built valid
  no_planned_tree (error.Refused fault) is = (
    refl,
    record {
      head = settings.head;
      specs = images;
      are = to_be_built;
      is = as_planned (λ limits form p. IsBuildErrorAs limits form settings.head p images (error.Refused fault)) is;
    },
  )
  no_planned_tree error.OutOfMemory is = are_settings.valid
  no_planned_tree error.ReadFailed is = are_settings.valid
  no_planned_tree error.WriteFailed is = are_settings.valid
