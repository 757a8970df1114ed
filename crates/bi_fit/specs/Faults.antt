use Rattle.std.specs.Prelude.{◌≡◌, ℕ, ◌+◌, ◌≤◌, List, [], ◌∷◌, ◌++◌, Option, Some, None, IsSome}
use Rattle.std.specs.Prelude.{length}
use Rattle.bi_base.specs.declared.fault.Fault.{Fault}
use Rattle.bi_base.specs.declared.fault.Cause.TheVariants.{NoImages, BadCell, NoSize, OutsideFile}
use Rattle.bi_base.specs.Checks.{IsFirstFault}
use Rattle.bi_base.specs.Limits.{Limits}
use Rattle.bi_blob.specs.Tree.{Nodes, none, node, Root, FileProperty, FileNode}
use Rattle.bi_blob.specs.Blob.{Reservation, IsBlob, IsWithin}
use Rattle.bi_blob.specs.BlobFaults.{IsBlobFault}
use Rattle.bi_fit.specs.ImageTree.{image_nodes}
use Rattle.bi_fit.specs.Payloads.{PayloadSource, NoSource, Data, DataOffset, DataPosition}
use Rattle.bi_fit.specs.Payloads.{source_of, cell_number, external_base}

-- Why a blob within limits is not a flattened image tree, and at which offset: the first check that
-- fails. The order of the checks, and that a file with a fault is refused, is profile of this
-- project.

-- A check, with what it examines and the place of the token at which its fault is.
pub data FitCheck : Type 0 where
  HasImages : (images : Option (Nodes FileNode)) → (root_place : ℕ) → FitCheck
  HasBeginCell : (begin : FileProperty) → FitCheck
  HasSize : (size : Option FileProperty) → (begin_place : ℕ) → FitCheck
  HasSizeCell : (size : FileProperty) → FitCheck
  IsInFile : (end begin_place : ℕ) → FitCheck

-- What each of them requires of a file.
abbrev pub FitPasses : List ℕ → FitCheck → Type 0
FitPasses file (HasImages images root_place) = IsSome images
FitPasses file (HasBeginCell begin) = length begin.value ≡ 4
FitPasses file (HasSize size begin_place) = IsSome size
FitPasses file (HasSizeCell size) = length size.value ≡ 4
FitPasses file (IsInFile end begin_place) = end ≤ length file

-- The fault that each of them gives.
abbrev pub fit_fault : FitCheck → Fault
fit_fault (HasImages images root_place) = record { cause = NoImages; offset = root_place }
fit_fault (HasBeginCell begin) = record { cause = BadCell; offset = begin.place }
fit_fault (HasSize size begin_place) = record { cause = NoSize; offset = begin_place }
fit_fault (HasSizeCell size) = record { cause = BadCell; offset = size.place }
fit_fault (IsInFile end begin_place) = record { cause = OutsideFile; offset = begin_place }

-- The checks of the size of a region that begins at this offset.
abbrev pub size_checks : (begin : ℕ) → (begin_place : ℕ) → Option FileProperty → List FitCheck
size_checks begin begin_place None = HasSize None begin_place ∷ []
size_checks begin begin_place (Some size) =
    HasSize (Some size) begin_place
    ∷ HasSizeCell size
    ∷ IsInFile (begin + cell_number size) begin_place
    ∷ []

-- The checks of a region of the file, in their order.
abbrev pub region_checks : (base : ℕ) → FileProperty → Option FileProperty → List FitCheck
region_checks base begin size =
    HasBeginCell begin ∷ size_checks (base + cell_number begin) begin.place size

-- The checks of the source of a payload. There are none if it is not a region.
abbrev pub source_checks : List ℕ → PayloadSource → List FitCheck
source_checks file NoSource = []
source_checks file (Data data_property) = []
source_checks file (DataOffset offset size) = region_checks (external_base file) offset size
source_checks file (DataPosition position size) = region_checks 0 position size

-- The checks of image nodes: all of one before those of the next.
abbrev pub image_checks : List ℕ → Nodes FileNode → List FitCheck
image_checks file none = []
image_checks file (node name own children later) =
    source_checks file (source_of own) ++ image_checks file later

-- The checks of image nodes. There may be no child `images`.
abbrev pub images_checks : List ℕ → Option (Nodes FileNode) → List FitCheck
images_checks file None = []
images_checks file (Some images) = image_checks file images

-- The checks of a blob's tree, in their order.
abbrev pub fit_checks : List ℕ → Root FileNode → List FitCheck
fit_checks file root =
    HasImages (image_nodes root) root.own.place ∷ images_checks file (image_nodes root)

-- The fault of a file as a flattened image tree within limits: that of a blob, or else that of its
-- tree.
pub data IsFitFault (bounds : Limits) (file : List ℕ) (fault : Fault) : Type 0 where
  InBlob : IsBlobFault bounds file fault → IsFitFault bounds file fault
  InTree : (cpu : ℕ) → (reservations : List Reservation) → (root : Root FileNode)
      → IsBlob file cpu reservations root → IsWithin bounds file root
      → IsFirstFault (FitPasses file) fit_fault (fit_checks file root) fault
      → IsFitFault bounds file fault
