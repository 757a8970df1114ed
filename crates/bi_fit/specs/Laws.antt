use Rattle.std.specs.Prelude.{◌≡◌, ◌⊎◌, ◌↔◌, ℕ, ◌+◌, ◌%◌, ◌≤◌, List, ◌++◌, Option, Some, length}
use Rattle.std.specs.Prelude.{map, flat_map, [], ◌∷◌, nat_eq, bytes_eq, IsTrue, IfSome, filter}
use Rattle.std.specs.List.{AllByRecursion, AllZip, ends_with, find}
use Rattle.std.specs.Option.{option_map}
use Rattle.bi_base.specs.declared.align.Align.{Align}
use Rattle.bi_base.specs.declared.fault.Fault.{Fault}
use Rattle.bi_base.specs.Aligns.{align_bytes}
use Rattle.bi_base.specs.Alignments.{IsAlignment}
use Rattle.bi_base.specs.Cells.{AreBytes}
use Rattle.bi_base.specs.Limits.{Limits}
use Rattle.bi_hash.specs.declared.algo.Algo.{Algo}
use Rattle.bi_hash.specs.declared.verdicts.Verdict.TheVariants.{Good}
use Rattle.bi_hash.specs.Algos.{algorithm_name}
use Rattle.bi_hash.specs.Digests.{digest_of}
use Rattle.bi_blob.specs.Tree.{HasNoZero, names, depth_of}
use Rattle.bi_blob.specs.Blob.{magic, blob_magic}
use Rattle.bi_blob.specs.Layout.{strings_of, longest_text}
use Rattle.bi_fit.specs.declared.key.Key.{Key}
use Rattle.bi_fit.specs.declared.form.Form.{Form}
use Rattle.bi_fit.specs.declared.form.Form.TheVariants.{External, Aligned}
use Rattle.bi_fit.specs.ImageTree.{ImageTree, IsImageTree, each_own}
use Rattle.bi_fit.specs.Payloads.{source_of, payload_place, IsAtPlace}
use Rattle.bi_fit.specs.File.{IsFitFile, FitMeans}
use Rattle.bi_fit.specs.Faults.{IsFitFault}
use Rattle.bi_fit.specs.Text.{alignment_of, blob_of, payloads_end, payload_places, fit_text}
use Rattle.bi_fit.specs.Judgement.{judgement, CheckedHash, verdicts_of, ListResult, NoKey}
use Rattle.bi_fit.specs.Judgement.{ListedImage, ListedImages, listed_names, listed_of, default_of}
use Rattle.bi_fit.specs.Judgement.{configuration_nodes, images_of, checked_hash, hash_nodes}
use Rattle.bi_fit.specs.Building.{HeadModel, ImageSpecModel, PlanModel, CanBeBuilt, IsPlanFor}
use Rattle.bi_fit.specs.Building.{hash_node_name, built_tree, configuration_names, type_name}
use Rattle.bi_fit.specs.Building.{configuration_name, plan_by_types, names_of_images}

-- Laws of what a flattened image tree is (Flattened Image Tree Specification), and of its faults
-- and texts (profile of this project). Each is the contract of a function in `laws`.

-- As a flattened image tree, a file has at most one meaning.
abbrev pub OneFitMeaning : Type 0
OneFitMeaning = (file : List ℕ) (one other : ImageTree) → IsFitFile file one → IsFitFile file other
    → one ≡ other

-- A flattened image tree begins with the magic number of a blob: a file that begins with another
-- number is not one.
abbrev pub FitBeginsWithMagic : Type 0
FitBeginsWithMagic = (file : List ℕ) (tree : ImageTree) → IsFitFile file tree
    → magic file ≡ blob_magic

-- A file that is a flattened image tree within limits has no fault under them.
abbrev pub FitHasNoFault : Type 0
FitHasNoFault =
    (bounds : Limits) (file : List ℕ) (tree : ImageTree) (fault : Fault)
    → FitMeans bounds file tree → ¬ (IsFitFault bounds file fault)

-- A file has at most one fault under limits.
abbrev pub OneFitFault : Type 0
OneFitFault =
    (bounds : Limits) (file : List ℕ) (one other : Fault)
    → IsFitFault bounds file one → IsFitFault bounds file other → one ≡ other

-- A file of bytes is a flattened image tree within limits, or it has a fault under them.
abbrev pub FitMeaningOrFault : Type 0
FitMeaningOrFault =
    (bounds : Limits) (file : List ℕ) → AreBytes file
    → ((tree : ImageTree) × FitMeans bounds file tree)
    ⊎ ((fault : Fault) × IsFitFault bounds file fault)

-- A file of bytes is a flattened image tree within limits if and only if it has no fault under
-- them.
abbrev pub FitMeaningWhereNoFault : Type 0
FitMeaningWhereNoFault =
    (bounds : Limits) (file : List ℕ) → AreBytes file
    → ((tree : ImageTree) × FitMeans bounds file tree)
    ↔ ((fault : Fault) → ¬ (IsFitFault bounds file fault))

-- The payload of each image node is in the file at its place.
abbrev pub PayloadsAreAtPlaces : Type 0
PayloadsAreAtPlaces =
    (file : List ℕ) (tree : ImageTree) (is : IsFitFile file tree)
    → AllZip
    (λ own payload. IsAtPlace file (payload_place file (source_of own)) payload)
    (each_own is.images) tree.payloads

-- What a file means is an image tree.
abbrev pub FileMeansImageTree : Type 0
FileMeansImageTree = (file : List ℕ) (tree : ImageTree) → IsFitFile file tree → IsImageTree tree

-- A file means an image tree within limits, and has no fault under them.
pub record IsAcceptedAs (bounds : Limits) (file : List ℕ) (tree : ImageTree) : Type 0 where
  pub means : FitMeans bounds file tree
  pub no_fault : (fault : Fault) → ¬ (IsFitFault bounds file fault)

-- The text of an image tree is accepted under limits that hold it, and means the tree.
abbrev pub FitTextIsAccepted : Type 0
FitTextIsAccepted =
    (bounds : Limits) (form : Form) (tree : ImageTree) → IsImageTree tree
    → depth_of tree.root ≤ bounds.depth → length (fit_text form tree) ≤ bounds.file
    → bounds.file ≤ longest_text
    → IsAcceptedAs bounds (fit_text form tree) tree

-- The normal text of a file is accepted under the same limits and means the same, if it is no
-- longer than the limit.
abbrev pub NormalFitTextIsAccepted : Type 0
NormalFitTextIsAccepted =
    (bounds : Limits) (form : Form) (file : List ℕ) (tree : ImageTree) → FitMeans bounds file tree
    → length (fit_text form tree) ≤ bounds.file → bounds.file ≤ longest_text
    → IsAcceptedAs bounds (fit_text form tree) tree

-- If one of the texts of two image trees in a form is not too long, the texts are the same if and
-- only if the trees are.
abbrev pub SameTextSameTree : Type 0
SameTextSameTree =
    (form : Form) (one other : ImageTree) → IsImageTree one → IsImageTree other
    → length (fit_text form one) ≤ longest_text
    → (fit_text form one ≡ fit_text form other) ↔ (one ≡ other)

-- The normal text of a file has the verdicts, configurations, default and signatures of the file.
abbrev pub TextKeepsJudgement : Type 0
TextKeepsJudgement =
    (form : Form) (file : List ℕ) (tree other : ImageTree) → IsFitFile file tree
    → length (fit_text form tree) ≤ longest_text → IsFitFile (fit_text form tree) other
    → judgement other ≡ judgement tree

-- Files with the same normal text have the same verdicts, configurations, default and signatures.
abbrev pub SameTextSameJudgement : Type 0
SameTextSameJudgement =
    (form : Form) (file other_file : List ℕ) (tree other : ImageTree) → IsFitFile file tree
    → IsFitFile other_file other
    → length (fit_text form tree) ≤ longest_text → fit_text form tree ≡ fit_text form other
    → judgement tree ≡ judgement other

-- The text in the form Aligned with the alignment 4 is the text in the form External.
abbrev pub AlignedByFourIsExternal : Type 0
AlignedByFourIsExternal =
    (align : Align) (tree : ImageTree) → align_bytes align ≡ 4
    → fit_text (Aligned align) tree ≡ fit_text External tree

-- The length of a text in a form with this alignment follows from the length of its blob and the
-- sizes of its payloads. The length of the blob is a multiple of the alignment.
pub record HasExternalLength (form : Form) (align : ℕ) (tree : ImageTree) : Type 0 where
  pub is_length : length (fit_text form tree)
      ≡ length (blob_of form tree) + payloads_end align 0 tree.payloads
  pub blob_is_whole : length (blob_of form tree) % align ≡ 0

-- Each text with external payloads is that long.
abbrev pub EachExternalTextHasItsLength : Type 0
EachExternalTextHasItsLength =
    (form : Form) (align : ℕ) (tree : ImageTree) → alignment_of form ≡ Some align
    → HasExternalLength form align tree

-- Payloads end no earlier than the first few of them: a text is too long as soon as the first few
-- of its payloads are.
abbrev pub PayloadsEndLater : Type 0
PayloadsEndLater =
    (align : ℕ) (first later : List (Option (List ℕ))) → IsAlignment align
    → payloads_end align 0 first ≤ payloads_end align 0 (first ++ later)

-- The payloads of an external text are where the layout has them, and each begins at a multiple of
-- the alignment.
abbrev pub ExternalPayloadsArePlaced : Type 0
ExternalPayloadsArePlaced =
    (form : Form) (align : ℕ) (tree : ImageTree) → alignment_of form ≡ Some align
    → length (fit_text form tree) ≤ longest_text
    → (is : IsFitFile (fit_text form tree) tree)
    → AllZip
    (λ own place. (payload_place (fit_text form tree) (source_of own) ≡ place)
    × IfSome place (λ offset. offset % align ≡ 0))
    (each_own is.images) (payload_places align (length (blob_of form tree)) 0 tree.payloads)

-- The text of a built tree, in any form, is accepted under limits that hold it and four open
-- nodes, and means the tree.
abbrev pub BuiltIsAccepted : Type 0
BuiltIsAccepted =
    (bounds : Limits) (form : Form) (head : HeadModel) (plan : PlanModel)
    (images : List ImageSpecModel)
    → CanBeBuilt head images → IsPlanFor (names_of_images images) plan
    → 4 ≤ bounds.depth → length (fit_text form (built_tree head plan images)) ≤ bounds.file
    → bounds.file ≤ longest_text
    → IsAcceptedAs bounds (fit_text form (built_tree head plan images))
    (built_tree head plan images)

-- The hash nodes of a built image with these algorithms, the first of which has this number: each
-- has the digest of the payload, and its verdict is Good.
abbrev pub good_hashes : (number : ℕ) → List Algo → ImageSpecModel → List CheckedHash
good_hashes number [] image = []
good_hashes number (algo ∷ later) image =
    record {
      image = image.name;
      node_name = hash_node_name number;
      algo = Some (algorithm_name algo);
      value = Some (digest_of algo image.payload);
      verdict = Good;
    }
    ∷ good_hashes (number + 1) later image

-- The payloads of a built tree are those of its images in their order. Each image has one hash node
-- for each entry of the plan's algorithms, in their order, and the verdict on each is Good.
pub record HasGoodPayloads (head : HeadModel) (plan : PlanModel) (images : List ImageSpecModel)
    : Type 0 where
  pub payloads : (built_tree head plan images).payloads ≡ map (λ image. Some image.payload) images
  pub each : map (λ image. map (checked_hash image) (hash_nodes image))
      (images_of (built_tree head plan images))
      ≡ map (good_hashes 1 plan.algorithms) images
  pub verdicts : verdicts_of (built_tree head plan images)
      ≡ flat_map (good_hashes 1 plan.algorithms) images

-- Each built tree does.
abbrev pub BuiltHasGoodPayloads : Type 0
BuiltHasGoodPayloads = (head : HeadModel) (plan : PlanModel) (images : List ImageSpecModel)
    → HasGoodPayloads head plan images

-- How a value lists names: each name is followed by a zero. If the last byte of a value is a zero,
-- all of it is names.
pub record ReadsNames : Type 0 where
  pub listed : (names : List (List ℕ)) → AllByRecursion HasNoZero names
      → listed_names (strings_of names) ≡ names
  pub whole : (value : List ℕ) → IsTrue (ends_with nat_eq value (0 ∷ []))
      → strings_of (listed_names value) ≡ value
  pub no_zero : (value : List ℕ) → AllByRecursion HasNoZero (listed_names value)

-- The image with this name, with its payload, as a configuration lists it.
abbrev pub listed_by_name : List ImageSpecModel → List ℕ → ListedImage
listed_by_name images name = record {
  name = name;
  payload = option_map (λ image. image.payload) (find (λ image. bytes_eq image.name name) images);
}

-- What a configuration lists by these names. It has no key if there is no name.
abbrev pub list_by_names : List ImageSpecModel → List (List ℕ) → ListResult
list_by_names images [] = NoKey
list_by_names images (name ∷ later) = ListedImages (map (listed_by_name images) (name ∷ later))

-- A built tree has the configurations of the plan, in their order. Each lists the images with the
-- names under each key in their order, and the default is that of the plan.
pub record HasConfigurations (head : HeadModel) (plan : PlanModel) (images : List ImageSpecModel)
    : Type 0 where
  pub are_all : names (configuration_nodes (built_tree head plan images))
      ≡ configuration_names plan.configurations
  pub listed : AllByRecursion
      (λ configuration. (key : Key) → listed_of (built_tree head plan images) configuration.name key
      ≡ list_by_names images (configuration.lists key))
      plan.configurations
  pub default : default_of (built_tree head plan images) ≡ Some plan.default

-- This holds for each tree that can be built.
abbrev pub BuiltHasConfigurations : Type 0
BuiltHasConfigurations =
    (head : HeadModel) (plan : PlanModel) (images : List ImageSpecModel) → CanBeBuilt head images
    → IsPlanFor (names_of_images images) plan → HasConfigurations head plan images

-- What a configuration lists by the names of these images. It has no key if there is no image.
abbrev pub list_of_built : List ImageSpecModel → ListResult
list_of_built [] = NoKey
list_of_built (image ∷ later) =
    ListedImages
    (map (λ image. record { name = image.name; payload = Some image.payload }) (image ∷ later))

-- The configuration of a tree that is built by types lists the images of each type under its key,
-- in their order, and it is the default.
pub record HasConfigurationByTypes (head : HeadModel) (algorithms : List Algo)
    (images : List ImageSpecModel) : Type 0 where
  pub listed : (key : Key)
      → listed_of (built_tree head (plan_by_types algorithms images) images) configuration_name key
      ≡ list_of_built (filter (λ image. bytes_eq image.image_type (type_name key)) images)
  pub default : default_of (built_tree head (plan_by_types algorithms images) images)
      ≡ Some configuration_name

-- This holds for each tree that can be built by types.
abbrev pub BuiltByTypesHasConfiguration : Type 0
BuiltByTypesHasConfiguration =
    (head : HeadModel) (algorithms : List Algo) (images : List ImageSpecModel)
    → CanBeBuilt head images → HasConfigurationByTypes head algorithms images
