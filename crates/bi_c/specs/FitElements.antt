use Rattle.std.specs.Prelude.{ℕ, ◌+◌, ◌≡◌, ◌<◌, List, [], ◌∷◌, length, map, Option, None, Some}
use Rattle.std.specs.Prelude.{unwrap_or, bytes_eq, if◌then◌else◌, ⊤}
use Rattle.std.specs.List.{AllByRecursion}
use Rattle.bi_base.specs.Limits.{Limits, IsInRange}
use Rattle.bi_blob.specs.Blob.{Reservation, totalsize}
use Rattle.bi_blob.specs.Lookups.{Sibling, node_named}
use Rattle.bi_blob.specs.Tree.{FileNode, Root, names}
use Rattle.bi_fit.specs.Content.{FitModel, index_of, tree_of}
use Rattle.bi_fit.specs.File.{FitMeans}
use Rattle.bi_fit.specs.ImageTree.{ImageTree}
use Rattle.bi_fit.specs.Judgement.{Image, images_of, ListedImage}
use Rattle.bi_fit.specs.Judgement.{ListResult, NoConfig, NoKey, BadList, Missing}
use Rattle.bi_fit.specs.Judgement.{ListedImages, configuration_nodes, default_of, listed_of}
use Rattle.bi_fit.specs.Names.{configurations_name}
use Rattle.bi_fit.specs.declared.configurations.ConfigError.{ConfigError}
use Rattle.bi_fit.specs.declared.key.Key.{Key}
use Rattle.bi_fit.specs.declared.configurations.ConfigError.TheVariants as list
use Rattle.bi_c.specs.Arguments.{bounds, HasKey, KeyCheck, key_of}
use Rattle.bi_c.specs.Calls.{IsTreeFailure}
use Rattle.bi_c.specs.TreeRegions.{HasNameBytes, children_of_found, name_region_of}
use Rattle.bi_c.specs.declared.failure.Failure.{Failure}
use Rattle.bi_c.specs.declared.failure.Failure.TheVariants.{OutOfMemory}
use Rattle.bi_c.specs.declared.failure.Failure.TheVariants.{NotFound}
use Rattle.bi_c.specs.declared.fit.FitFields.{FitFields}
use Rattle.bi_c.specs.declared.fit.ReservationElement.{ReservationElement}
use Rattle.bi_c.specs.declared.region.Region.{Region}

-- What calls from C return of a FIT besides its images: the fields of its blob, its memory
-- reservations and its configurations (profile of this project).

-- The fields are those of the blob of the FIT that the file is.
pub record AreFitFields (limit depth : ℕ) (file : List ℕ) (fields : FitFields) : Type 0 where
  pub limits : IsInRange limit depth
  pub tree : ImageTree
  pub means : FitMeans (bounds limit depth) file tree
  pub is_cpu : fields.boot_cpu ≡ tree.cpu
  pub is_size : fields.total_size ≡ totalsize file

-- The element of a memory reservation.
abbrev pub element_of_reservation : Reservation → ReservationElement
element_of_reservation reservation =
    record { address = reservation.address; size = reservation.size }

-- The elements are those of the memory reservations of the file, in their order.
pub record AreReservationElements (limit depth : ℕ) (file : List ℕ)
    (elements : List ReservationElement) (value : ℕ) : Type 0
  where
    pub limits : IsInRange limit depth
    pub tree : ImageTree
    pub means : FitMeans (bounds limit depth) file tree
    pub are_elements : elements ≡ map element_of_reservation tree.reservations
    pub no_value : value ≡ 0

-- The index of the first name that is equal to the given one, or the number of names if there is
-- none.
abbrev pub index_of_first : (name : List ℕ) → List (List ℕ) → ℕ
index_of_first name [] = 0
index_of_first name (first ∷ later) =
    if bytes_eq first name then 0 else index_of_first name later + 1

-- The index of the first name that is that of the default configuration, or the number of names if
-- there is no such name.
abbrev pub index_of_default : Option (List ℕ) → List (List ℕ) → ℕ
index_of_default None names = length names
index_of_default (Some default) names = index_of_first default names

-- The index of the default configuration of a tree, or the number of configurations.
abbrev pub default_index_of : ImageTree → ℕ
default_index_of tree = index_of_default (default_of tree) (names (configuration_nodes tree))

-- The configuration nodes of a tree in a file.
abbrev pub configuration_siblings : Root FileNode → List (Sibling FileNode)
configuration_siblings root = children_of_found (node_named root.children configurations_name)

-- The regions are those of the names of the configurations of the file, in their order. The number
-- is the index of the default one.
pub record AreConfigurationRegions (limit depth : ℕ) (file : List ℕ) (regions : List Region)
    (value : ℕ) : Type 0
  where
    pub limits : IsInRange limit depth
    pub tree : ImageTree
    pub means : FitMeans (bounds limit depth) file tree
    pub are_regions : regions ≡ map name_region_of (configuration_siblings means.is_file.root)
    pub have_bytes :
        AllByRecursion (HasNameBytes file) (configuration_siblings means.is_file.root)
    pub is_default : value ≡ default_index_of tree

-- The names of images.
abbrev pub tree_image_names : List Image → List (List ℕ)
tree_image_names images = map (λ image. image.entry.name) images

-- The index of a listed image among the images of a tree.
abbrev pub index_of_listed : ImageTree → ListedImage → ℕ
index_of_listed tree listed =
    index_of_first listed.name (tree_image_names (images_of tree))

-- The indices are those of the images that the configuration with the given name lists under a key,
-- in the order of its list. Each is the index of an image.
pub record AreImageIndices (limit depth key : ℕ) (file name : List ℕ) (indices : List ℕ)
    (value : ℕ) : Type 0
  where
    pub arguments : HasKey limit depth key
    pub tree : ImageTree
    pub means : FitMeans (bounds limit depth) file tree
    pub listed : List ListedImage
    pub is_listed : listed_of tree name (key_of key) ≡ ListedImages listed
    pub are_indices : indices ≡ map (index_of_listed tree) listed
    pub within : AllByRecursion (λ index. index < length (images_of tree)) indices
    pub no_value : value ≡ 0

-- The numbers of the reason why nothing is listed: the number of the reason, and the index of the
-- first name without an image, if the reason names one.
abbrev pub IsListReason : (reason index : ℕ) → ListResult → Type 0
IsListReason reason index NoConfig = (reason ≡ 4) × (index ≡ 0)
IsListReason reason index NoKey = (reason ≡ 5) × (index ≡ 0)
IsListReason reason index BadList = (reason ≡ 6) × (index ≡ 0)
IsListReason reason index (Missing missing) = (reason ≡ 7) × (index ≡ missing)
IsListReason reason index (ListedImages listed) = ⊥

-- The file means a tree in which the configuration with the given name lists nothing under a key,
-- for the given reason.
pub record ListsNothing (limits : Limits) (key : ℕ) (file name : List ℕ) (reason index : ℕ) : Type 0
  where
    pub tree : ImageTree
    pub means : FitMeans limits file tree
    pub is_reason : IsListReason reason index (listed_of tree name (key_of key))

-- Why a call that returns listed images fails.
abbrev pub IsListFailure : (limit depth key : ℕ) → (file name : List ℕ) → Failure → Type 0
IsListFailure limit depth key file name =
    let limits = bounds limit depth in
    IsTreeFailure (KeyCheck limit depth key) limits file (ListsNothing limits key file name)

-- The failure that an error of listing images becomes.
abbrev pub failure_of_list_error : ConfigError → Failure
failure_of_list_error list.NoConfig = NotFound 4 0
failure_of_list_error list.NoKey = NotFound 5 0
failure_of_list_error list.BadList = NotFound 6 0
failure_of_list_error (list.Missing index) = NotFound 7 index
failure_of_list_error list.OutOfMemory = OutOfMemory

-- The index of a listed image among the images that were read, or the number of images if there is
-- no such image.
abbrev pub index_among : FitModel → ListedImage → ℕ
index_among content listed =
    unwrap_or (index_of listed.name content.images) (length content.images)

-- The indices are those of the images that a configuration of the tree that was read lists.
pub record AreReadIndices (content : FitModel) (name : List ℕ) (key : Key) (indices : List ℕ)
    (value : ℕ) : Type 0
  where
    pub listed : List ListedImage
    pub is_listed : listed_of (tree_of content) name key ≡ ListedImages listed
    pub are_indices : indices ≡ map (index_among content) listed
    pub no_value : value ≡ 0

-- Why a configuration of the tree that was read lists nothing. Memory may run out.
abbrev pub IsListRefusal : FitModel → (name : List ℕ) → Key → Failure → Type 0
IsListRefusal content name key (NotFound reason index) =
    IsListReason reason index (listed_of (tree_of content) name key)
IsListRefusal content name key OutOfMemory = ⊤
IsListRefusal content name key other = ⊥
