use Rattle.std.proofs.Common.{◌≡◌, ◌≢◌, ℕ, true, false, List, [], ◌∷◌, Option, Some, None, Contains, IsFalse, bytes_eq, refl, sym, ap}
use Rattle.std.proofs.Common.{◌∙◌, true≢false, rules}
use Rattle.std.specs.List.{AllByRecursion}
use Rattle.std.proofs.lemmas.Slice.Eq.{bytes_eq-Decides}
use Rattle.bi_fit.specs.declared.key.Key.{Key}
use Rattle.bi_fit.specs.declared.key.Key.TheVariants.{Kernel, Fdt, Ramdisk, Firmware, Loadables, Script}
use Rattle.bi_fit.specs.ImageTree.{ImageTree}
use Rattle.bi_fit.specs.Judgement.{ListResult, NoConfig, NoKey, BadList, Missing, ListedImages, listed_of}
use Rattle.bi_fit.specs.Names.{all_keys}
use Rattle.bi_report.specs.declared.check.Allowed.{Allowed}
use Rattle.bi_report.specs.Checking.{BadDefault, BadKey, configuration_concerns, default_concerns, list_concerns, MissingImage}
use Rattle.bi_report.specs.Checking.{names_one_of}
use Rattle.bi_report.specs.CleanFiles.{HasNoBadList, HasNoMissingImage}
use Rattle.bi_report.proofs.CleanLaws.NoLines.{HaveNoLine, all_have_none, allowed_has_none}
use Rattle.bi_report.proofs.CleanLaws.NoLines.{each_has_none, any_is_found, one_is_allowed, passed_has_none}
use Rattle.bi_report.proofs.CleanLaws.NoLines.{passes_any, test_is_passed}

-- The concerns about configurations have no line if and only if, for each concern that is not allowed, no list is bad, no image is missing
-- and the default is there.

-- Lists without a line.
no_bad_list : (allowed : Allowed) (configuration : List ℕ) (key : Key) (listed : ListResult) →
    HaveNoLine allowed (list_concerns configuration key listed) → IsFalse allowed.bad_list → listed ≢ BadList
no_bad_list allowed configuration key NoConfig none refused is = absurd cc
no_bad_list allowed configuration key NoKey none refused is = absurd cc
no_bad_list allowed configuration key BadList none refused is = true≢false
    (sym (one_is_allowed allowed (BadKey configuration key) none) ∙ refused)
no_bad_list allowed configuration key (Missing index) none refused is = absurd cc
no_bad_list allowed configuration key (ListedImages images) none refused is = absurd cc

no_missing_image : (allowed : Allowed) (configuration : List ℕ) (key : Key) (listed : ListResult) →
    HaveNoLine allowed (list_concerns configuration key listed) → IsFalse allowed.missing → (index : ℕ) → listed ≢ Missing index
no_missing_image allowed configuration key NoConfig none refused index is = absurd cc
no_missing_image allowed configuration key NoKey none refused index is = absurd cc
no_missing_image allowed configuration key BadList none refused index is = absurd cc
no_missing_image allowed configuration key (Missing other) none refused index is = true≢false
    (sym (one_is_allowed allowed (MissingImage configuration key other) none) ∙ refused)
no_missing_image allowed configuration key (ListedImages images) none refused index is = absurd cc

list_has_none : (allowed : Allowed) (configuration : List ℕ) (key : Key) (listed : ListResult) →
    (IsFalse allowed.bad_list → listed ≢ BadList) →
    (IsFalse allowed.missing → (index : ℕ) → listed ≢ Missing index) → HaveNoLine allowed (list_concerns configuration key listed)
list_has_none allowed configuration key NoConfig good there = refl
list_has_none allowed configuration key NoKey good there = refl
list_has_none allowed configuration key BadList good there = search (rules, allowed_has_none)
list_has_none allowed configuration key (Missing index) good there = search (rules, allowed_has_none)
list_has_none allowed configuration key (ListedImages images) good there = refl

-- What holds of each key in the list of all holds of every key.
of_each_key : (P : Key → Type 0) → AllByRecursion P all_keys → (key : Key) → P key
of_each_key P each Kernel = each.0
of_each_key P each Fdt = each.1.0
of_each_key P each Ramdisk = each.1.1.0
of_each_key P each Firmware = each.1.1.1.0
of_each_key P each Loadables = each.1.1.1.1.0
of_each_key P each Script = each.1.1.1.1.1.0

-- A configuration without a line.
pub lists_are_good : (allowed : Allowed) (tree : ImageTree) (configuration : List ℕ) →
    HaveNoLine allowed (configuration_concerns tree configuration) → IsFalse allowed.bad_list → HasNoBadList tree configuration
lists_are_good allowed tree configuration none refused key =
    no_bad_list allowed configuration key (listed_of tree configuration key)
    (of_each_key (λ key. HaveNoLine allowed (list_concerns configuration key (listed_of tree configuration key)))
    (each_has_none allowed (λ key. list_concerns configuration key (listed_of tree configuration key)) all_keys none) key) refused

pub images_are_there : (allowed : Allowed) (tree : ImageTree) (configuration : List ℕ) →
    HaveNoLine allowed (configuration_concerns tree configuration) → IsFalse allowed.missing → HasNoMissingImage tree configuration
images_are_there allowed tree configuration none refused key =
    no_missing_image allowed configuration key (listed_of tree configuration key)
    (of_each_key (λ key. HaveNoLine allowed (list_concerns configuration key (listed_of tree configuration key)))
    (each_has_none allowed (λ key. list_concerns configuration key (listed_of tree configuration key)) all_keys none) key) refused

configuration_has_none : (allowed : Allowed) (tree : ImageTree) (configuration : List ℕ) →
    (IsFalse allowed.bad_list → HasNoBadList tree configuration) →
    (IsFalse allowed.missing → HasNoMissingImage tree configuration) → HaveNoLine allowed (configuration_concerns tree configuration)
configuration_has_none allowed tree configuration good there =
    all_have_none allowed (λ key. list_concerns configuration key (listed_of tree configuration key)) all_keys (
      of Kernel,
      (of Fdt, (of Ramdisk, (of Firmware, (of Loadables, (of Script, tt))))),
    )
  where
    of : (key : Key) → HaveNoLine allowed (list_concerns configuration key (listed_of tree configuration key))
    of key = list_has_none allowed configuration key (listed_of tree configuration key) (λ refused. good refused key)
        (λ refused. there refused key)

-- All configurations.
pub record AreCleanConfigurations (allowed : Allowed) (tree : ImageTree) (configurations : List (List ℕ)) : Type 0 where
  pub bad_list : IsFalse allowed.bad_list → AllByRecursion (HasNoBadList tree) configurations
  pub missing : IsFalse allowed.missing → AllByRecursion (HasNoMissingImage tree) configurations

pub configurations_are_clean : (allowed : Allowed) (tree : ImageTree) (configurations : List (List ℕ)) →
    AllByRecursion (λ configuration. HaveNoLine allowed (configuration_concerns tree configuration)) configurations →
    AreCleanConfigurations allowed tree configurations
configurations_are_clean allowed tree [] each = record { bad_list = λ refused. tt; missing = λ refused. tt }
configurations_are_clean allowed tree (configuration ∷ later) each =
    let rest = configurations_are_clean allowed tree later each.1 in
    record {
      bad_list = λ refused. (lists_are_good allowed tree configuration each.0 refused, rest.bad_list refused);
      missing = λ refused. (images_are_there allowed tree configuration each.0 refused, rest.missing refused);
    }

pub clean_configurations_have_none : (allowed : Allowed) (tree : ImageTree) (configurations : List (List ℕ)) →
    AreCleanConfigurations allowed tree configurations →
    AllByRecursion (λ configuration. HaveNoLine allowed (configuration_concerns tree configuration)) configurations
clean_configurations_have_none allowed tree [] are = tt
clean_configurations_have_none allowed tree (configuration ∷ later) are = (
  configuration_has_none allowed tree configuration (λ refused. (are.bad_list refused).0) (λ refused. (are.missing refused).0),
  clean_configurations_have_none allowed tree later
      (record { bad_list = λ refused. (are.bad_list refused).1; missing = λ refused. (are.missing refused).1 }),
)

-- A default that is the name of one of these configurations.
pub record NamesOne (default : Option (List ℕ)) (configurations : List (List ℕ)) : Type 0 where
  pub name : List ℕ
  pub is_default : default ≡ Some name
  pub is_there : Contains configurations name

names_one : (default : Option (List ℕ)) (configurations : List (List ℕ)) → names_one_of default configurations ≡ true →
    NamesOne default configurations
names_one None configurations is = absurd cc
names_one (Some name) configurations is = search (rules, any_is_found, bytes_eq-Decides)

test_of_one : (default : Option (List ℕ)) (configurations : List (List ℕ)) → NamesOne default configurations →
    names_one_of default configurations ≡ true
test_of_one default configurations one =
    ap (λ d. names_one_of d configurations) one.is_default
    ∙ passes_any (bytes_eq one.name) configurations one.name one.is_there ((bytes_eq-Decides one.name one.name).1 refl)

pub default_is_there : (allowed : Allowed) (default : Option (List ℕ)) (configurations : List (List ℕ)) →
    HaveNoLine allowed (default_concerns default configurations) → IsFalse allowed.bad_default →
    configurations ≢ [] → NamesOne default configurations
default_is_there allowed default [] none refused some = absurd (some refl)
default_is_there allowed default (first ∷ later) none refused some =
    names_one default (first ∷ later) (test_is_passed allowed (names_one_of default (first ∷ later)) (BadDefault default) none refused)

pub default_has_none : (allowed : Allowed) (default : Option (List ℕ)) (configurations : List (List ℕ)) →
    (IsFalse allowed.bad_default → configurations ≢ [] → NamesOne default configurations) →
    HaveNoLine allowed (default_concerns default configurations)
default_has_none allowed default [] named = refl
default_has_none allowed default (first ∷ later) named = search (rules, passed_has_none, test_of_one)
