use Rattle.std.proofs.Common.{◌≡◌, ℕ, ◌+◌, ◌<◌, ◌≤◌, Bool, true, List, [], ◌∷◌, ◌++◌, None, take, drop, get_or, length, bytes_eq, refl, sym}
use Rattle.std.proofs.Common.{ap}
use Rattle.std.proofs.Common.{subst, ◌∙◌, inl, inr, arith, rules}
use Rattle.std.specs.Prelude.{◌||◌, IsTrue}
use Rattle.std.specs.Borrow.{Bor}
use Rattle.std.specs.BTreeSet.{BTreeSet}
use Rattle.std.specs.Cmp.Derive.{both_true}
use Rattle.std.specs.List.{AllByRecursion, list_all, list_any}
use Rattle.std.proofs.lemmas.Bool.{and_parts}
use Rattle.std.proofs.lemmas.List.{drop_more, drop_all, take_more, map-append, length-map, get_or-map}
use Rattle.bi_base.specs.declared.fault.Cause.TheVariants.{BadField, DuplicateNode}
use Rattle.bi_base.specs.Slices.{bytes_of}
use Rattle.bi_blob.specs.Layout.{is_among}
use Rattle.bi_blob.specs.NameSets.{HoldsNames}
use Rattle.bi_blob.specs.Tree.{IsChildName, IsNew}
use Rattle.bi_fit.specs.declared.building.ConfigurationSpec.{ConfigurationSpec}
use Rattle.bi_fit.specs.declared.key.Key.TheVariants.{Kernel, Fdt, Ramdisk, Firmware, Loadables, Script}
use Rattle.bi_fit.specs.Building.{ConfigurationSpecModel, configuration_names}
use Rattle.bi_fit.specs.NamedImages.{configuration_spec_model, configuration_spec_models}
use Rattle.bi_norm.specs.FitBuilding.{BuildCheck, ListsImages, HasNewConfigurationName, IndexedConfiguration, configuration_checks}
use Rattle.bi_norm.specs.FitBuilding.{ListsOnly}
use Rattle.bi_norm.specs.BuildChecks.{AllPass, IsFirstFailure, IsPlainConfiguration, holds_name}
use Rattle.bi_norm.proofs.LeftChecks.{AreLeftChecks, fails_first, left_after}

-- If the configurations before one pass their checks, a fault of it is the first of all, and otherwise the configurations after it decide.

-- What a list of configurations gives past its end.
abbrev pub no_configuration_model : ConfigurationSpecModel
no_configuration_model = record { name = []; description = None; compatible = []; lists = λ key. [] }

-- The names before the next configuration.
pub configuration_names_more : (configurations : List ConfigurationSpecModel) (index : ℕ) (d : ConfigurationSpecModel) →
    index < length configurations →
    configuration_names (take (index + 1) configurations)
    ≡ configuration_names (take index configurations) ++ (get_or configurations index d).name ∷ []
configuration_names_more configurations index d within =
    ap configuration_names (take_more configurations index d within)
    ∙ map-append (λ (configuration : ConfigurationSpecModel). configuration.name) (take index configurations)
    (get_or configurations index d ∷ [])

module _ (image_names : List (List ℕ)) (configurations : List ConfigurationSpecModel) where
  -- All checks, and those of the configurations from one on.
  abbrev all : List BuildCheck
  all = configuration_checks image_names 0 [] configurations

  abbrev from_index : ℕ → List BuildCheck
  from_index index =
      configuration_checks image_names index (configuration_names (take index configurations)) (drop index configurations)

  -- The configurations before one passed their checks, so those from it on decide.
  pub record ConfigurationsPassedTo (index : ℕ) : Type 0 where
    pub left : AreLeftChecks all (from_index index)
    pub can : AllByRecursion (IsPlainConfiguration image_names) (drop index configurations) →
        AllByRecursion (IsPlainConfiguration image_names) configurations

  module _ (index : ℕ) (d : ConfigurationSpecModel) (within : index < length configurations) (passed : ConfigurationsPassedTo index) where
    abbrev configuration : ConfigurationSpecModel
    configuration = get_or configurations index d

    -- The checks of this configuration come first.
    abbrev own_checks : List BuildCheck
    own_checks =
        let at : IndexedConfiguration = record {
          index = index;
          earlier = configuration_names (take index configurations);
          image_names = image_names;
          configuration = configuration;
        } in
        ListsImages at ∷ HasNewConfigurationName at ∷ []

    first_checks : from_index index ≡ own_checks ++ from_index (index + 1)
    first_checks = search (rules, drop_more, configuration_names_more)

    left : AreLeftChecks all (own_checks ++ from_index (index + 1))
    left = subst (AreLeftChecks all) first_checks passed.left

    -- A fault of its name or of what it lists is the first of all.
    pub configuration_fails : ¬ (IsChildName configuration.name × ListsOnly image_names configuration) →
        IsFirstFailure all (record { cause = BadField; offset = index })
    configuration_fails fails =
        fails_first all own_checks (from_index (index + 1)) (record { cause = BadField; offset = index }) left
        (λ limits form head plan images. inl (fails, refl))

    -- So is a name that is not new.
    pub configuration_name_fails : IsPlainConfiguration image_names configuration →
        ¬ (IsNew configuration.name (configuration_names (take index configurations))) →
        IsFirstFailure all (record { cause = DuplicateNode; offset = index })
    configuration_name_fails can held =
        fails_first all own_checks (from_index (index + 1)) (record { cause = DuplicateNode; offset = index }) left
        (λ limits form head plan images. inr ((can.is_name, can.of_images), inl (held, refl)))

    -- Else the configurations after it decide.
    pub configuration_passed : IsPlainConfiguration image_names configuration →
        IsNew configuration.name (configuration_names (take index configurations)) → ConfigurationsPassedTo (index + 1)
    configuration_passed can new = record {
      left = left_after all own_checks (from_index (index + 1)) left
          (λ limits form head plan images. ((can.is_name, can.of_images), (new, tt)));
      can = λ later.
          passed.can (subst (AllByRecursion (IsPlainConfiguration image_names)) (sym (drop_more configurations index d within))
          (can, later));
    }

  -- After the last configuration none are left.
  pub configurations_passed : (index : ℕ) → length configurations ≤ index → ConfigurationsPassedTo index → AllPass all
  configurations_passed index past passed =
      passed.left.passes (subst
      (λ left. AllPass (configuration_checks image_names index (configuration_names (take index configurations)) left))
      (sym (drop_all index configurations past)) (λ limits form head plan images. tt))

  pub configurations_can : (index : ℕ) → length configurations ≤ index → ConfigurationsPassedTo index →
      AllByRecursion (IsPlainConfiguration image_names) configurations
  configurations_can index past passed =
      passed.can (subst (AllByRecursion (IsPlainConfiguration image_names)) (sym (drop_all index configurations past)) tt)

-- ---- names in a set

-- The same for all names.
all_among : (set : BTreeSet (Bor (List ℕ))) (held : List (List ℕ)) → HoldsNames set held → (names : List (Bor (List ℕ))) →
    list_all (holds_name set) names ≡ true → AllByRecursion (λ name. IsTrue (is_among name held)) (bytes_of names)
all_among set held holds [] are = tt
all_among set held holds (name ∷ later) are =
    let both = and_parts (holds_name set name) (list_all (holds_name set) later) are in
    (sym (holds.each name) ∙ both.0, all_among set held holds later both.1)

all_among_back : (set : BTreeSet (Bor (List ℕ))) (held : List (List ℕ)) → HoldsNames set held → (names : List (Bor (List ℕ))) →
    AllByRecursion (λ name. IsTrue (is_among name held)) (bytes_of names) → list_all (holds_name set) names ≡ true
all_among_back set held holds [] are = refl
all_among_back set held holds (name ∷ later) are =
    both_true (holds.each name ∙ are.0) (all_among_back set held holds later are.1)

-- Whether a set has each name that a configuration lists.
abbrev lists_only : BTreeSet (Bor (List ℕ)) → ConfigurationSpec → Bool
lists_only set configuration =
    list_all (λ names. list_all (holds_name set) names.now)
    (configuration.kernel ∷ configuration.fdt ∷ configuration.ramdisk ∷ configuration.firmware
    ∷ configuration.loadables ∷ configuration.script ∷ [])

module _ (set : BTreeSet (Bor (List ℕ))) (held : List (List ℕ)) (holds : HoldsNames set held) (configuration : ConfigurationSpec) where
  abbrev In : Bor (List (Bor (List ℕ))) → Bool
  In names = list_all (holds_name set) names.now

  -- If the test is true, a configuration lists only names in the set,
  pub lists_only_is : lists_only set configuration ≡ true → ListsOnly held (configuration_spec_model configuration)
  lists_only_is are key = search (rules, and_parts, all_among)

  -- and the other way round.
  pub lists_only_back : ListsOnly held (configuration_spec_model configuration) → lists_only set configuration ≡ true
  lists_only_back is =
      both_true (all_among_back set held holds configuration.kernel.now (is Kernel))
      (both_true (all_among_back set held holds configuration.fdt.now (is Fdt))
      (both_true (all_among_back set held holds configuration.ramdisk.now (is Ramdisk))
      (both_true (all_among_back set held holds configuration.firmware.now (is Firmware))
      (both_true (all_among_back set held holds configuration.loadables.now (is Loadables))
      (both_true (all_among_back set held holds configuration.script.now (is Script)) refl)))))

-- A name is that of a configuration if and only if it is among their names.
pub named_configuration : (configurations : List ConfigurationSpec) (name : List ℕ) →
    list_any (λ configuration. bytes_eq configuration.name.now name) configurations
    ≡ is_among name (configuration_names (configuration_spec_models configurations))
named_configuration [] name = refl
named_configuration (configuration ∷ later) name = ap (λ b. bytes_eq configuration.name.now name || b) (named_configuration later name)

-- Configurations as the checks see them.
pub model_at : (configurations : List ConfigurationSpec) (index : ℕ) (d : ConfigurationSpec) → index < length configurations →
    configuration_spec_model (get_or configurations index d)
    ≡ get_or (configuration_spec_models configurations) index no_configuration_model
model_at configurations index d within = sym (get_or-map configuration_spec_model configurations index d no_configuration_model within)

pub within_models : (configurations : List ConfigurationSpec) (index : ℕ) → index < length configurations →
    index < length (configuration_spec_models configurations)
within_models configurations index within = omega (arith, length-map configurations configuration_spec_model, within)

pub past_models : (configurations : List ConfigurationSpec) (index : ℕ) → length configurations ≤ index →
    length (configuration_spec_models configurations) ≤ index
past_models configurations index past = omega (arith, length-map configurations configuration_spec_model, past)

-- What a list of configurations gives past its end.
abbrev pub no_configuration_spec : ConfigurationSpec
no_configuration_spec = record {
  name = record { ref_ptr = (0, 0); now = [] };
  description = None;
  compatible = record { ref_ptr = (0, 0); now = [] };
  kernel = record { ref_ptr = (0, 0); now = [] };
  fdt = record { ref_ptr = (0, 0); now = [] };
  ramdisk = record { ref_ptr = (0, 0); now = [] };
  firmware = record { ref_ptr = (0, 0); now = [] };
  loadables = record { ref_ptr = (0, 0); now = [] };
  script = record { ref_ptr = (0, 0); now = [] };
}
