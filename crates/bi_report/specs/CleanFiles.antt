use Rattle.std.specs.Prelude.{ℕ, ◌+◌, ◌-◌, ◌≡◌, ◌≢◌, ◌≤◌, ◌↔◌, ◌⊎◌, IsTrue, IsFalse, IsSome, IfSome}
use Rattle.std.specs.Prelude.{Bool, Option, Some, List, [], drop, length}
use Rattle.std.specs.FinMap.{get}
use Rattle.std.specs.List.{AllByRecursion, AllZip, Contains, slice_get}
use Rattle.bi_base.specs.Cells.{u32_at}
use Rattle.bi_base.specs.declared.fault.Error.{Error}
use Rattle.bi_base.specs.declared.fault.Error.TheVariants.{OutOfMemory}
use Rattle.bi_base.specs.Limits.{Limits}
use Rattle.bi_blob.specs.Blob.{totalsize}
use Rattle.bi_blob.specs.Layout.{longest_text}
use Rattle.bi_blob.specs.Lookups.{Sibling, siblings}
use Rattle.bi_blob.specs.Tree.{Nodes, FileNode, FileProperty, PropertyMap, Root, names}
use Rattle.bi_coverage.specs.Coverage.{hashed_strings_name, name_end}
use Rattle.bi_coverage.specs.Paths.{LocatedNode, all_nodes, path_text}
use Rattle.bi_coverage.specs.Signatures.{needed_paths, recorded_paths, references, signed_nodes}
use Rattle.bi_fit.specs.declared.building.Head.{Head}
use Rattle.bi_fit.specs.declared.form.Form.{Form}
use Rattle.bi_fit.specs.declared.key.Key.{Key}
use Rattle.bi_fit.specs.Building.{HeadModel, PlanModel, ImageSpecModel, CanBeBuilt, IsPlanFor}
use Rattle.bi_fit.specs.Building.{built_tree, names_of_images}
use Rattle.bi_fit.specs.File.{FitMeans}
use Rattle.bi_fit.specs.ImageTree.{ImageTree, each_own}
use Rattle.bi_fit.specs.Judgement.{Image, images_of, CheckedHash, verdicts_of, BadList}
use Rattle.bi_fit.specs.Judgement.{Missing, configuration_nodes, listed_of, default_of}
use Rattle.bi_fit.specs.Names.{is_payload_name}
use Rattle.bi_fit.specs.Payloads.{source_of, payload_place, IsAt}
use Rattle.bi_hash.specs.declared.algo.Algo.{Algo}
use Rattle.bi_hash.specs.declared.verdicts.Verdict.TheVariants.{Good}
use Rattle.bi_hash.specs.Algos.{algorithm_name}
use Rattle.bi_legacy.specs.Reading.{LegacyModel, IsReadLegacy}
use Rattle.bi_norm.specs.declared.fit_building.ImageSpec.{ImageSpec}
use Rattle.bi_norm.specs.FitBuilding.{PlanSpecModel, IsBuiltAs}
use Rattle.bi_common.specs.declared.format.Format.{Format}
use Rattle.bi_common.specs.declared.format.Format.TheVariants.{Lines}
use Rattle.bi_report.specs.declared.check.Allowed.{Allowed}
use Rattle.bi_report.specs.CheckedFiles.{IsChecked, IsCheckError, IsCheckOutput}
use Rattle.bi_report.specs.Checking.{judged_hashes, strong_algorithms, used_hashes}
use Rattle.bi_report.specs.Reports.{AreGood}
use Rattle.bi_report.specs.SignedTrees.{unit_addresses}

-- What a clean boot image is: one in which everything is protected, but for what is allowed
-- (profile of this project). That checking it writes nothing is a law. It is the contract of a
-- function in `laws`.

-- ---- hash nodes

-- An image has a hash node whose verdict is Good and that U-Boot does not skip.
pub record HasGoodHash (image : Image) : Type 0 where
  pub hash : CheckedHash
  pub is_there : Contains (used_hashes (judged_hashes image)) hash
  pub is_good : hash.verdict ≡ Good

-- An image has such a hash node of a strong algorithm.
pub record HasStrongHash (image : Image) : Type 0 where
  pub hash : CheckedHash
  pub is_there : Contains (used_hashes (judged_hashes image)) hash
  pub is_good : hash.verdict ≡ Good
  pub algorithm : List ℕ
  pub has_algorithm : hash.algo ≡ Some algorithm
  pub is_strong : Contains strong_algorithms algorithm

-- An image with a payload has a Good verdict.
abbrev pub IsHashed : Image → Type 0
IsHashed image = IsSome image.payload → HasGoodHash image

-- An image with a payload that has a Good verdict has one of a strong algorithm.
abbrev pub IsNotWeak : Image → Type 0
IsNotWeak image = IsSome image.payload → HasGoodHash image → HasStrongHash image

-- U-Boot skips no hash node of an image.
abbrev pub HasNoSkippedHash : Image → Type 0
HasNoSkippedHash image = AllByRecursion (λ hash. IsFalse hash.is_skipped) (judged_hashes image)

-- ---- configurations

-- Under no key of this configuration there is a value that is not a list of names.
abbrev pub HasNoBadList : ImageTree → (configuration : List ℕ) → Type 0
HasNoBadList tree configuration = (key : Key) → listed_of tree configuration key ≢ BadList

-- No key of this configuration lists a name that no image has.
abbrev pub HasNoMissingImage : ImageTree → (configuration : List ℕ) → Type 0
HasNoMissingImage tree configuration =
    (key : Key) (index : ℕ) → listed_of tree configuration key ≢ Missing index

-- The default is the name of a configuration.
pub record NamesConfiguration (tree : ImageTree) : Type 0 where
  pub name : List ℕ
  pub is_default : default_of tree ≡ Some name
  pub is_there : Contains (names (configuration_nodes tree)) name

-- ---- signatures

-- There is a configuration, and each has a signed node.
pub record IsSigned (tree : ImageTree) : Type 0 where
  pub some : siblings (configuration_nodes tree) ≢ []
  pub each : AllByRecursion (λ configuration. signed_nodes configuration ≢ [])
      (siblings (configuration_nodes tree))

-- This is a signed node of a configuration of a tree.
pub record IsSignedNode (tree : ImageTree) (configuration signature : Sibling PropertyMap) : Type 0
  where
    pub is_configuration : Contains (siblings (configuration_nodes tree)) configuration
    pub is_signed : Contains (signed_nodes configuration) signature

-- This holds for each signed node of each configuration of a tree.
abbrev pub EachSignedNode : ImageTree
    → (Holds : (configuration signature : Sibling PropertyMap) → Type 0) → Type 0
EachSignedNode tree Holds = (configuration signature : Sibling PropertyMap)
    → IsSignedNode tree configuration signature → Holds configuration signature

-- This holds for each signed node that records a list of paths, and for these paths.
abbrev pub EachRecord : ImageTree
    → (Holds : (configuration signature : Sibling PropertyMap) → (recorded : List (List ℕ))
    → Type 0)
    → Type 0
EachRecord tree Holds = EachSignedNode tree
    (λ configuration signature. (recorded : List (List ℕ))
    → recorded_paths signature ≡ Some recorded → Holds configuration signature recorded)

-- A signed node reaches the end of the name of each property of a node of a file with this root
-- that it records. Properties that hold a payload or name its region do not count.
pub record ReachesStrings (file : List ℕ) (root : Root FileNode) (signature : Sibling PropertyMap)
    (recorded : List (List ℕ)) : Type 0 where
  pub value : List ℕ
  pub has_value : get signature.own hashed_strings_name ≡ Some value
  pub is_two_cells : length value ≡ 8
  pub reaches : (located : LocatedNode FileNode) (property : FileProperty)
      → Contains (all_nodes root) located → Contains recorded (path_text located.names)
      → Contains located.own.properties property → IsFalse (is_payload_name property.name)
      → name_end file property ≤ u32_at value 4

-- ---- trees

-- Nothing in a flattened image tree is a concern, but for what is allowed: no verdict is other than
-- Good; U-Boot skips no hash node; each image with a payload has a Good verdict, and one of a
-- strong algorithm; each list of each configuration names images that are there; there is a
-- configuration, and each has a signed node; each signed node records a list of paths, which as a
-- set are the needed paths of its configuration, and this has a reference; no name has a unit
-- address, if there is a signed node; and the default names a configuration, if there is one.
pub record IsCleanTree (allowed : Allowed) (tree : ImageTree) : Type 0 where
  pub bad_hash : IsFalse allowed.bad_hash → AreGood (verdicts_of tree)
  pub skipped_hash : IsFalse allowed.skipped_hash
      → AllByRecursion HasNoSkippedHash (images_of tree)
  pub unhashed : IsFalse allowed.unhashed → AllByRecursion IsHashed (images_of tree)
  pub weak_hash : IsFalse allowed.weak_hash → AllByRecursion IsNotWeak (images_of tree)
  pub bad_list : IsFalse allowed.bad_list
      → AllByRecursion (HasNoBadList tree) (names (configuration_nodes tree))
  pub missing : IsFalse allowed.missing
      → AllByRecursion (HasNoMissingImage tree) (names (configuration_nodes tree))
  pub unsigned : IsFalse allowed.unsigned → IsSigned tree
  pub no_nodes : IsFalse allowed.no_nodes
      → EachSignedNode tree (λ configuration signature. IsSome (recorded_paths signature))
  pub no_images : IsFalse allowed.no_images
      → EachRecord tree
      (λ configuration signature recorded. references tree configuration ≢ [])
  pub uncovered : IsFalse allowed.uncovered
      → EachRecord tree
      (λ configuration signature recorded. (path : List ℕ)
      → Contains (needed_paths tree configuration) path → Contains recorded path)
  pub foreign : IsFalse allowed.foreign
      → EachRecord tree
      (λ configuration signature recorded. (path : List ℕ)
      → Contains recorded path → Contains (needed_paths tree configuration) path)
  pub unit_address : IsFalse allowed.unit_address
      → (configuration signature : Sibling PropertyMap) → IsSignedNode tree configuration signature
      → unit_addresses tree.root ≡ []
  pub bad_default : IsFalse allowed.bad_default → names (configuration_nodes tree) ≢ []
      → NamesConfiguration tree

-- ---- files

-- Each of these bytes is zero.
abbrev pub AreZeros : List ℕ → Type 0
AreZeros bytes = AllByRecursion (λ byte. byte ≡ 0) bytes

-- A payload of an image node is in a file at the place that the node gives it, and ends at or
-- before this index, wherever that place is. A payload of no bytes ends where it begins.
pub record EndsBy (file : List ℕ) (index : ℕ) (own : FileNode) (payload : List ℕ) : Type 0 where
  pub place : ℕ
  pub is_place : payload_place file (source_of own) ≡ Some place
  pub is_at : IsAt file place payload
  pub is_before : place + length payload ≤ index

-- An index of a file is after an image tree with these image nodes and payloads: at or after the
-- end of the blob, and at or after the end of each payload.
pub record IsAfterContent (file : List ℕ) (images : Nodes FileNode)
    (payloads : List (Option (List ℕ))) (index : ℕ) : Type 0 where
  pub after_blob : totalsize file ≤ index
  pub after_payloads : AllZip (λ own payload. IfSome payload (EndsBy file index own))
      (each_own images) payloads

-- Each byte of a file after such an image tree is zero.
abbrev pub HasZerosAfter : List ℕ → Nodes FileNode → List (Option (List ℕ)) → Type 0
HasZerosAfter file images payloads =
    (index byte : ℕ) → IsAfterContent file images payloads index
    → slice_get file index ≡ Some byte → byte ≡ 0

-- Nothing in a file is a concern, but for what is allowed: it is a legacy image, which has no
-- configuration and so no signature, or a flattened image tree in which nothing is, and whose
-- signed nodes reach the names of the properties that they must cover; and no byte after the image
-- is other than zero.
pub data IsClean (allowed : Allowed) (limits : Limits) (file : List ℕ) : Type 0 where
  CleanLegacyImage : (parsed : LegacyModel) → IsReadLegacy limits file parsed
      → IsTrue allowed.unsigned
      → (IsFalse allowed.trailing → AreZeros (drop (length file - parsed.unused) file))
      → IsClean allowed limits file
  CleanImageTree : (tree : ImageTree) → (means : FitMeans limits file tree)
      → IsCleanTree allowed tree
      → (IsFalse allowed.strings → EachRecord tree
      (λ configuration signature. ReachesStrings file means.is_file.root signature))
      → (IsFalse allowed.trailing
      → HasZerosAfter file means.is_file.images tree.payloads)
      → IsClean allowed limits file

-- The law that checking a file writes nothing if and only if the file is clean.
abbrev pub EmptyIsClean : Type 0
EmptyIsClean =
    (allowed : Allowed) (limits : Limits) (file text : List ℕ)
    → IsChecked Lines allowed limits file text
    → (text ≡ []) ↔ IsClean allowed limits file

-- The law that the value of `check`, in each form, is whether the file is clean. The exit status
-- follows it.
abbrev pub CheckTellsClean : Type 0
CheckTellsClean =
    (format : Format) (allowed : Allowed) (limits : Limits) (clean : Bool) (file text : List ℕ)
    → IsCheckOutput format allowed limits clean file text
    → IsTrue clean ↔ IsClean allowed limits file

-- One of these algorithms is strong.
pub record HasStrongAlgorithm (algorithms : List Algo) : Type 0 where
  pub algo : Algo
  pub is_there : Contains algorithms algo
  pub is_strong : Contains strong_algorithms (algorithm_name algo)

-- Hash nodes with these algorithms protect an image, but for what is allowed: there is one, and one
-- of them is strong.
pub record ProtectImages (allowed : Allowed) (algorithms : List Algo) : Type 0 where
  pub unhashed : IsFalse allowed.unhashed → algorithms ≢ []
  pub weak_hash : IsFalse allowed.weak_hash → algorithms ≢ [] → HasStrongAlgorithm algorithms

-- The law that a built image tree, which has no signature, is clean if and only if none is asked
-- for, and it has no images or its hash nodes protect them. So nothing else in it is ever a
-- concern.
abbrev pub BuiltIsClean : Type 0
BuiltIsClean =
    (allowed : Allowed) (head : HeadModel) (plan : PlanModel) (images : List ImageSpecModel)
    → CanBeBuilt head images → IsPlanFor (names_of_images images) plan
    → IsCleanTree allowed (built_tree head plan images)
    ↔ (IsTrue allowed.unsigned × ((images ≡ []) ⊎ ProtectImages allowed plan.algorithms))

-- What checking a text finds, if it is that of a tree that is built of these images with hash nodes
-- of these algorithms: the only error is that memory runs out, and the text is clean if and only if
-- no signature is asked for, and there are no images or the hash nodes protect them. So its
-- payloads are within the payload bound, and no byte that is not zero follows them.
pub record IsBuiltClean (allowed : Allowed) (bounds : Limits) (images : List ImageSpec)
    (algorithms : List Algo) (text : List ℕ) : Type 0 where
  pub error : (error : Error) → IsCheckError bounds text error → error ≡ OutOfMemory
  pub is_clean : IsClean allowed bounds text
      ↔ (IsTrue allowed.unsigned × ((images ≡ []) ⊎ ProtectImages allowed algorithms))

-- The law that checking what is built, in any form, finds that, within limits that hold it, if at
-- least four nodes may be open.
abbrev pub BuiltTextIsClean : Type 0
BuiltTextIsClean =
    (allowed : Allowed) (limits bounds : Limits) (form : Form) (head : Head)
    (plan : PlanSpecModel) (images : List ImageSpec) (text : List ℕ)
    → IsBuiltAs limits form head plan images text
    → 4 ≤ bounds.depth → length text ≤ bounds.file → bounds.file ≤ longest_text
    → IsBuiltClean allowed bounds images plan.algorithms text
