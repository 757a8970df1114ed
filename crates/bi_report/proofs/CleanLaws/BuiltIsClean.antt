use Rattle.std.proofs.Common.{◌≡◌, ◌≢◌, ◌⊎◌, inl, inr, ℕ, ◌+◌, Bool, true, false, ◌||◌, List, rules}
use Rattle.std.proofs.Common.{[], ◌∷◌, Some, None, Contains, filter, flat_map, map, IsFalse, IsSome}
use Rattle.std.proofs.Common.{IsTrue, bytes_eq, nat_cmp, refl, sym, ap, subst, ◌∙◌, true≢false}
use Rattle.std.specs.Cmp.Lexicographic.{slice_cmp}
use Rattle.std.specs.FinMap.{get, from_entries}
use Rattle.std.specs.List.{AllByRecursion, list_any}
use Rattle.std.proofs.lemmas.Slice.Eq.{bytes_eq-Decides}
use Rattle.bi_base.proofs.ListMembers.{Contains-cases, Contains-none, each-map, each-map_back, each-weaker}
use Rattle.bi_coverage.specs.Numbers.{sum_of}
use Rattle.bi_coverage.specs.Signatures.{all_needed_length, needed_lengths, signed_nodes}
use Rattle.bi_blob.specs.Layout.{is_among}
use Rattle.bi_blob.specs.Lookups.{Sibling, siblings}
use Rattle.bi_blob.specs.Tree.{PropertyMap, names}
use Rattle.bi_hash.specs.declared.algo.Algo.{Algo}
use Rattle.bi_hash.specs.Algos.{algorithm_name}
use Rattle.bi_hash.specs.Digests.{digest_of}
use Rattle.bi_fit.specs.Building.{HeadModel, ConfigurationSpecModel, PlanModel, ImageSpecModel, built_tree, configuration_names}
use Rattle.bi_fit.specs.Building.{built_configurations, built_hash_nodes, built_hash_properties, built_image_properties, built_images}
use Rattle.bi_fit.specs.ImageTree.{ImageTree, image_nodes, nodes_or_none}
use Rattle.bi_fit.specs.Judgement.{CheckedHash, BadList, Image, Missing, checked_hash, configuration_nodes, hash_nodes, images_of}
use Rattle.bi_fit.specs.Judgement.{images_with}
use Rattle.bi_fit.specs.Names.{is_hash_name}
use Rattle.bi_fit.specs.Laws.{HasConfigurations, HasGoodPayloads, good_hashes, list_by_names}
use Rattle.bi_fit.proofs.BuiltConfigurations.{built_has_configurations}
use Rattle.bi_fit.proofs.BuiltVerdicts.{built_has_good_payloads}
use Rattle.bi_fit.proofs.JudgementFacts.{find-properties}
use Rattle.bi_report.specs.declared.check.Allowed.{Allowed}
use Rattle.bi_report.specs.Checking.{ignore_name, is_good, is_strong, is_strong_algorithm, judged_hash, judged_hashes, skips}
use Rattle.bi_report.specs.Checking.{strong_algorithms, used_hashes}
use Rattle.bi_report.specs.CleanFiles.{BuiltIsClean, HasGoodHash, HasNoBadList, HasNoMissingImage, HasStrongAlgorithm, HasStrongHash}
use Rattle.bi_report.specs.CleanFiles.{HasNoSkippedHash, IsCleanTree, IsHashed, IsNotWeak, IsSignedNode, NamesConfiguration, ProtectImages}
use Rattle.bi_report.specs.Reports.{AreGood}
use Rattle.bi_report.proofs.CleanLaws.CleanImages.{both_good, good_of_test, strong_of_test, test_of_good, test_of_strong, used_are}
use Rattle.bi_report.proofs.CleanLaws.NoLines.{any_is_found, passes_any}

-- An image tree that is built is clean if and only if a lack of signatures is allowed, and it has no images, or its hash nodes protect
-- them.

-- The test for a strong algorithm.
abbrev pub is_strong_one : Algo → Bool
is_strong_one algo = is_strong_algorithm (Some (algorithm_name algo))

pub strong_passes : (algorithms : List Algo) → HasStrongAlgorithm algorithms → list_any is_strong_one algorithms ≡ true
strong_passes algorithms has =
    passes_any is_strong_one algorithms has.algo has.is_there
    (passes_any (bytes_eq (algorithm_name has.algo)) strong_algorithms (algorithm_name has.algo) has.is_strong
    ((bytes_eq-Decides (algorithm_name has.algo) (algorithm_name has.algo)).1 refl))

-- The hash nodes of an image are strong as their algorithms are, and all Good.
strong_as_algorithms : (number : ℕ) (algorithms : List Algo) (image : ImageSpecModel) →
    list_any is_strong (good_hashes number algorithms image) ≡ list_any is_strong_one algorithms
strong_as_algorithms number [] image = refl
strong_as_algorithms number (algo ∷ later) image =
    ap (λ b. is_strong_one algo || b) (strong_as_algorithms (number + 1) later image)

all_good : (number : ℕ) (algorithms : List Algo) (image : ImageSpecModel) → AreGood (good_hashes number algorithms image)
all_good number [] image = tt
all_good number (algo ∷ later) image = (refl, all_good (number + 1) later image)

images_good : (algorithms : List Algo) (images : List ImageSpecModel) → AreGood (flat_map (good_hashes 1 algorithms) images)
images_good algorithms [] = tt
images_good algorithms (image ∷ later) = search (rules, both_good, all_good, images_good algorithms later)

-- If there are algorithms, each image has a hash node, which is Good.
some_good : (number : ℕ) (algorithms : List Algo) (image : ImageSpecModel) → algorithms ≢ [] →
    list_any is_good (good_hashes number algorithms image) ≡ true
some_good number [] image some = absurd (some refl)
some_good number (algo ∷ later) image some = refl

-- A list of algorithms with a strong one is found by the test for one.
strong_found : (algorithms : List Algo) → list_any is_strong_one algorithms ≡ true → HasStrongAlgorithm algorithms
strong_found algorithms is = search (rules, any_is_found, bytes_eq-Decides)

-- The hash nodes of an image are Good, and strong if one is Good.
abbrev HasGoodOne : List CheckedHash → Type 0
HasGoodOne hashes = list_any is_good hashes ≡ true

abbrev HasStrongIfGood : List CheckedHash → Type 0
HasStrongIfGood hashes = HasGoodOne hashes → list_any is_strong hashes ≡ true

strong_if_good : (algorithms : List Algo) (image : ImageSpecModel) → (algorithms ≢ [] → HasStrongAlgorithm algorithms) →
    HasStrongIfGood (good_hashes 1 algorithms image)
strong_if_good algorithms image strong good = search (rules, good, strong_as_algorithms, strong_passes)

-- What holds of the hash nodes of each image with these algorithms, if there are images.
each_image : (P : List CheckedHash → Type 0) (algorithms : List Algo) (images : List ImageSpecModel) →
    ((image : ImageSpecModel) → P (good_hashes 1 algorithms image)) →
    AllByRecursion (λ image. P (good_hashes 1 algorithms image)) images
each_image P algorithms [] each = tt
each_image P algorithms (image ∷ later) each = (each image, each_image P algorithms later each)

-- Each image of a built tree has its payload.
have_payloads : (entries : List (Sibling PropertyMap)) (images : List ImageSpecModel) →
    AllByRecursion (λ image. IsSome image.payload) (images_with entries (map (λ image. Some image.payload) images))
have_payloads [] [] = tt
have_payloads [] (image ∷ images) = tt
have_payloads (entry ∷ entries) [] = tt
have_payloads (entry ∷ entries) (image ∷ images) = (refl, have_payloads entries images)

-- U-Boot skips no hash node of a built image.
no_ignore : (algo : Algo) (digest : List ℕ) →
    get (from_entries {R = slice_cmp nat_cmp} (built_hash_properties algo digest)) ignore_name ≡ None
no_ignore algo digest = find-properties (built_hash_properties algo digest) ignore_name

none_of_hashes : (image : Image) (number : ℕ) (algorithms : List Algo) (payload : List ℕ) →
    AllByRecursion (λ hash. IsFalse hash.is_skipped)
    (map (judged_hash image) (filter (λ child. is_hash_name child.name) (siblings (built_hash_nodes number algorithms payload))))
none_of_hashes image number [] payload = tt
none_of_hashes image number (algo ∷ later) payload =
    (ap skips (no_ignore algo (digest_of algo payload)), none_of_hashes image (number + 1) later payload)

none_is_skipped : (head : HeadModel) (algorithms : List Algo) (images : List ImageSpecModel) →
    AllByRecursion HasNoSkippedHash
    (images_with (siblings (built_images head algorithms images)) (map (λ image. Some image.payload) images))
none_is_skipped head algorithms [] = tt
none_is_skipped head algorithms (image ∷ later) =
    let first : Image = record {
      entry = record {
        name = image.name;
        own = from_entries (built_image_properties head image);
        children = built_hash_nodes 1 algorithms image.payload;
        later = built_images head algorithms later;
      };
      payload = Some image.payload;
    } in
    (none_of_hashes first 1 algorithms image.payload, none_is_skipped head algorithms later)

-- The verdicts on the hash nodes of an image, and on those that U-Boot does not skip.
abbrev checked_in : Image → List CheckedHash
checked_in image = map (checked_hash image) (hash_nodes image)

abbrev used_in : Image → List CheckedHash
used_in image = used_hashes (judged_hashes image)

each_used : (P : List CheckedHash → Type 0) (images : List Image) → AllByRecursion HasNoSkippedHash images →
    AllByRecursion (λ image. P (checked_in image)) images → AllByRecursion (λ image. P (used_in image)) images
each_used P [] none each = tt
each_used P (image ∷ later) none each = (subst P (sym (used_are image none.0)) each.0, each_used P later none.1 each.1)

-- What holds of each image with a payload holds of the first, and its hash nodes are these.
first_image : (P : Image → Type 0) (images : List Image) (hashes : List CheckedHash) (later : List (List CheckedHash)) →
    map checked_in images ≡ hashes ∷ later → AllByRecursion HasNoSkippedHash images →
    AllByRecursion (λ image. IsSome image.payload) images →
    AllByRecursion (λ image. IsSome image.payload → P image) images → (image : Image) × P image × (used_in image ≡ hashes)
first_image P [] hashes later same none some each = absurd cc
first_image P (image ∷ images) hashes later same none some each =
    (image, each.0 some.0, used_are image none.0 ∙ same_first _ _ same)
  where
    same_first : (xs ys : List (List CheckedHash)) → checked_in image ∷ xs ≡ hashes ∷ ys → checked_in image ≡ hashes
    same_first xs ys is = cc

-- A configuration has no bad list, and none of the images that it lists is missing.
no_bad_list : (images : List ImageSpecModel) (listed : List (List ℕ)) → list_by_names images listed ≢ BadList
no_bad_list images [] is = absurd cc
no_bad_list images (name ∷ later) is = absurd cc

no_missing : (images : List ImageSpecModel) (listed : List (List ℕ)) (index : ℕ) → list_by_names images listed ≢ Missing index
no_missing images [] index is = absurd cc
no_missing images (name ∷ later) index is = absurd cc

-- The default of a plan is one of its configurations.
abbrev pub IsDefaultOf : PlanModel → Type 0
IsDefaultOf plan = IsTrue (is_among plan.default (configuration_names plan.configurations))

module _ (head : HeadModel) (plan : PlanModel) (images : List ImageSpecModel) (has : HasConfigurations head plan images) where
  -- What holds of the name of each configuration of the plan holds of the name of each of the tree.
  of_all : (P : List ℕ → Type 0) → AllByRecursion (λ configuration. P configuration.name) plan.configurations
      → AllByRecursion P (names (configuration_nodes (built_tree head plan images)))
  of_all P each =
      subst (AllByRecursion P) (sym has.are_all) (each-map P (λ configuration. configuration.name) plan.configurations each)

  lists_are_good : AllByRecursion (HasNoBadList (built_tree head plan images)) (names (configuration_nodes (built_tree head plan images)))
  lists_are_good = of_all (HasNoBadList (built_tree head plan images))
      (each-weaker _ _ (λ configuration listed key bad. no_bad_list images (configuration.lists key) (sym (listed key) ∙ bad))
      plan.configurations has.listed)

  images_are_there : AllByRecursion (HasNoMissingImage (built_tree head plan images))
      (names (configuration_nodes (built_tree head plan images)))
  images_are_there = of_all (HasNoMissingImage (built_tree head plan images))
      (each-weaker _ _
      (λ configuration listed key index missing. no_missing images (configuration.lists key) index (sym (listed key) ∙ missing))
      plan.configurations has.listed)

  default_is_there : IsDefaultOf plan → NamesConfiguration (built_tree head plan images)
  default_is_there is = search (rules, any_is_found, bytes_eq-Decides)

-- No configuration of a built tree has a signed node.
unsigned_node : (head : HeadModel) (configurations : List ConfigurationSpecModel) (configuration signature : Sibling PropertyMap) →
    Contains (siblings (built_configurations head configurations)) configuration →
    Contains (signed_nodes configuration) signature → ⊥
unsigned_node head [] configuration signature has is = Contains-none configuration has
unsigned_node head (first ∷ later) configuration signature has is =
    elim (Contains-cases _ (siblings (built_configurations head later)) configuration has) [
      | inl same ↦
          Contains-none signature
          (subst (λ (configuration : Sibling PropertyMap). Contains (signed_nodes configuration) signature) (sym same) is)
      | inr among ↦ unsigned_node head later configuration signature among is
    ]

pub none_is_signed : (head : HeadModel) (plan : PlanModel) (images : List ImageSpecModel) (configuration signature : Sibling PropertyMap) →
    ¬ (IsSignedNode (built_tree head plan images) configuration signature)
none_is_signed head plan images configuration signature is =
    unsigned_node head plan.configurations configuration signature is.is_configuration is.is_signed

-- So it needs no paths,
needs_none : (tree : ImageTree) (head : HeadModel) (configurations : List ConfigurationSpecModel) →
    flat_map (needed_lengths tree) (siblings (built_configurations head configurations)) ≡ []
needs_none tree head [] = refl
needs_none tree head (first ∷ later) = needs_none tree head later

pub needs_no_paths : (head : HeadModel) (plan : PlanModel) (images : List ImageSpecModel) →
    all_needed_length (built_tree head plan images) ≡ 0
needs_no_paths head plan images = ap sum_of (needs_none (built_tree head plan images) head plan.configurations)

-- and is not signed.
not_signed : (head : HeadModel) (configurations : List ConfigurationSpecModel) →
    siblings (built_configurations head configurations) ≢ [] →
    AllByRecursion (λ configuration. signed_nodes configuration ≢ []) (siblings (built_configurations head configurations)) → ⊥
not_signed head [] some each = some refl
not_signed head (first ∷ later) some each = each.0 refl

module _ (allowed : Allowed) (head : HeadModel) (plan : PlanModel) (images : List ImageSpecModel) where
  abbrev tree : ImageTree
  tree = built_tree head plan images

  good : HasGoodPayloads head plan images
  good = built_has_good_payloads head plan images

  -- What holds of the hash nodes with the algorithms holds of those of each image.
  of_hashes : (P : List CheckedHash → Type 0) → AllByRecursion (λ image. P (good_hashes 1 plan.algorithms image)) images →
      AllByRecursion (λ image. P (used_in image)) (images_of tree)
  of_hashes P each = each_used P (images_of tree) (none_is_skipped head plan.algorithms images)
      (each-map_back P checked_in (images_of tree)
      (subst (AllByRecursion P) (sym good.each) (each-map P (good_hashes 1 plan.algorithms) images each)))

  -- If there are no images, nothing need hold of any.
  of_images : (P : List CheckedHash → Type 0) (Protect : Type 0) →
      (Protect → (image : ImageSpecModel) → P (good_hashes 1 plan.algorithms image)) →
      (images ≡ []) ⊎ Protect → AllByRecursion (λ image. P (used_in image)) (images_of tree)
  of_images P Protect each (inl empty) =
      of_hashes P (subst (AllByRecursion (λ image. P (good_hashes 1 plan.algorithms image))) (sym empty) tt)
  of_images P Protect each (inr protect) = of_hashes P (each_image P plan.algorithms images (each protect))

  pub built_tree_is_clean : HasConfigurations head plan images → IsDefaultOf plan →
      IsTrue allowed.unsigned × ((images ≡ []) ⊎ ProtectImages allowed plan.algorithms) → IsCleanTree allowed tree
  built_tree_is_clean has default (unsigned, protected) = record {
    bad_hash = λ refused. subst AreGood (sym good.verdicts) (images_good plan.algorithms images);
    skipped_hash = λ refused. none_is_skipped head plan.algorithms images;
    unsigned = λ refused. absurd (true≢false (sym unsigned ∙ refused));
    no_nodes = λ refused configuration signature is. absurd (none_is_signed head plan images configuration signature is);
    no_images = λ refused configuration signature is. absurd (none_is_signed head plan images configuration signature is);
    uncovered = λ refused configuration signature is. absurd (none_is_signed head plan images configuration signature is);
    foreign = λ refused configuration signature is. absurd (none_is_signed head plan images configuration signature is);
    unit_address = λ refused configuration signature is. absurd (none_is_signed head plan images configuration signature is);
    unhashed = λ refused. each-weaker _ IsHashed (λ image is some. good_of_test image is) (images_of tree)
        (of_images HasGoodOne (ProtectImages allowed plan.algorithms)
        (λ protect image. some_good 1 plan.algorithms image (protect.unhashed refused)) protected);
    weak_hash = λ refused. each-weaker _ IsNotWeak (λ image is some good. strong_of_test image (is (test_of_good image good)))
        (images_of tree)
        (of_images HasStrongIfGood (ProtectImages allowed plan.algorithms)
        (λ protect image. strong_if_good plan.algorithms image (protect.weak_hash refused)) protected);
    bad_list = λ refused. lists_are_good head plan images has;
    missing = λ refused. images_are_there head plan images has;
    bad_default = λ refused some. default_is_there head plan images has default;
  }

-- Images that are clean are protected.
module _ (allowed : Allowed) (head : HeadModel) (plan : PlanModel) (first : ImageSpecModel) (later : List ImageSpecModel)
    (clean : IsCleanTree allowed (built_tree head plan (first ∷ later))) where
  abbrev hashes : List CheckedHash
  hashes = good_hashes 1 plan.algorithms first

  first_is : (P : Image → Type 0) →
      AllByRecursion (λ image. IsSome image.payload → P image) (images_of (built_tree head plan (first ∷ later))) →
      (image : Image) × P image × (used_in image ≡ hashes)
  first_is P each = first_image P (images_of (built_tree head plan (first ∷ later))) hashes (map (good_hashes 1 plan.algorithms) later)
      (built_has_good_payloads head plan (first ∷ later)).each (none_is_skipped head plan.algorithms (first ∷ later))
      (have_payloads (siblings (nodes_or_none (image_nodes (built_tree head plan (first ∷ later)).root))) (first ∷ later)) each

  some_algorithm : IsFalse allowed.unhashed → plan.algorithms ≢ []
  some_algorithm refused none =
      let one = first_is HasGoodHash (clean.unhashed refused) in
      true≢false
      (sym (test_of_good one.0 one.1) ∙ ap (list_any is_good) one.2
      ∙ ap (λ algorithms. list_any is_good (good_hashes 1 algorithms first)) none)

  strong_algorithm : IsFalse allowed.weak_hash → plan.algorithms ≢ [] → HasStrongAlgorithm plan.algorithms
  strong_algorithm refused some =
      let one = first_is (λ image. HasGoodHash image → HasStrongHash image) (clean.weak_hash refused) in
      let is_good = good_of_test one.0 (ap (list_any is_good) one.2 ∙ some_good 1 plan.algorithms first some) in
      strong_found plan.algorithms
      (sym (strong_as_algorithms 1 plan.algorithms first) ∙ ap (list_any is_strong) (sym one.2) ∙ test_of_strong one.0 (one.1 is_good))

  images_are_protected : ProtectImages allowed plan.algorithms
  images_are_protected = record { unhashed = some_algorithm; weak_hash = strong_algorithm }

unsigned_is_allowed : (allowed : Allowed) (head : HeadModel) (plan : PlanModel) (images : List ImageSpecModel) →
    IsCleanTree allowed (built_tree head plan images) → IsTrue allowed.unsigned
unsigned_is_allowed allowed head plan images clean = by allowed.unsigned refl
  where
    by : (b : Bool) → allowed.unsigned ≡ b → IsTrue allowed.unsigned
    by true is = is
    by false refused =
        let signed = clean.unsigned refused in
        absurd (not_signed head plan.configurations signed.some signed.each)

pub clean_is_protected : (allowed : Allowed) (head : HeadModel) (plan : PlanModel) (images : List ImageSpecModel) →
    IsCleanTree allowed (built_tree head plan images) →
    IsTrue allowed.unsigned × ((images ≡ []) ⊎ ProtectImages allowed plan.algorithms)
clean_is_protected allowed head plan [] clean = (unsigned_is_allowed allowed head plan [] clean, inl refl)
clean_is_protected allowed head plan (first ∷ later) clean =
    (unsigned_is_allowed allowed head plan (first ∷ later) clean, inr (images_are_protected allowed head plan first later clean))

pub built_is_clean : BuiltIsClean
built_is_clean allowed head plan images can is_plan = (
  λ clean. clean_is_protected allowed head plan images clean,
  λ both. built_tree_is_clean allowed head plan images (built_has_configurations head plan images can is_plan) is_plan.default both,
)
