use Rattle.std.specs.Prelude.{◌≡◌, ◌≢◌, ◌⊎◌, ◌↔◌, ℕ, ◌+◌, ◌-◌, ◌<◌, ◌≤◌, Some, List, [], ◌∷◌}
use Rattle.std.specs.Prelude.{◌++◌, length, map, reverse}
use Rattle.std.specs.List.{slice_get}
use Rattle.bi_base.specs.declared.fault.Fault.{Fault}
use Rattle.bi_base.specs.Cells.{AreBytes, slice, u32_at}
use Rattle.bi_base.specs.Checks.{HasNoFault}
use Rattle.bi_base.specs.Limits.{Limits}
use Rattle.bi_blob.specs.Tokens.{Token, End, AreEncodings}
use Rattle.bi_blob.specs.Tree.{Nodes, Root, Property, FileProperty, FileNode, names, AreDistinct}
use Rattle.bi_blob.specs.Tree.{IsTree, AreProperties, depth_of, node_count_of}
use Rattle.bi_blob.specs.Lookups.{Sibling, node_at, node_named, property_named}
use Rattle.bi_blob.specs.Events.{Event, events_of}
use Rattle.bi_blob.specs.Following.{MayFollow, AreClosedEvents}
use Rattle.bi_blob.specs.Blob.{Reservation, IsBlob, IsBlobWithin, TreeBlocks, tree_blocks}
use Rattle.bi_blob.specs.Blob.{IsReadable}
use Rattle.bi_blob.specs.BlobFaults.{HasNoFaultBeforeTree, IsFaultBeforeTree, IsStructureFault}
use Rattle.bi_blob.specs.BlobFaults.{IsBlobFault, TokenPasses, token_checks, stage_after}
use Rattle.bi_blob.specs.BlobFaults.{place_after, ArePassed}

-- Laws of what a blob is (Devicetree Specification, chapter 5), and of its faults (profile of this
-- project).

-- Two boot processors, lists of memory reservations and trees are the same.
pub record SameContent {Own : Type 0} (cpu other_cpu : ℕ)
    (reservations other_reservations : List Reservation) (root other_root : Root Own)
    : Type 0 where
  pub same_cpu : cpu ≡ other_cpu
  pub same_reservations : reservations ≡ other_reservations
  pub same_root : root ≡ other_root

-- A file is a blob of at most one boot processor, one list of memory reservations and one tree
-- with its places.
abbrev pub OneBlob : Type 0
OneBlob =
    (file : List ℕ) (cpu other_cpu : ℕ) (reservations other_reservations : List Reservation)
    (root other_root : Root FileNode)
    → IsBlob file cpu reservations root → IsBlob file other_cpu other_reservations other_root
    → SameContent cpu other_cpu reservations other_reservations root other_root

-- A blob has fewer nodes than the file has bytes.
abbrev pub FewerNodesThanBytes : Type 0
FewerNodesThanBytes =
    (file : List ℕ) (cpu : ℕ) (reservations : List Reservation) (root : Root FileNode)
    → IsBlob file cpu reservations root → node_count_of root < length file

-- A file that is a blob within limits has no fault under them.
abbrev pub BlobHasNoFault : Type 0
BlobHasNoFault =
    (bounds : Limits) (file : List ℕ) (fault : Fault) → IsBlobWithin bounds file
    → ¬ (IsBlobFault bounds file fault)

-- A file has at most one fault under limits.
abbrev pub OneBlobFault : Type 0
OneBlobFault =
    (bounds : Limits) (file : List ℕ) (one other : Fault) → IsBlobFault bounds file one
    → IsBlobFault bounds file other → one ≡ other

-- A file of bytes is a blob within limits, or it has a fault under them.
abbrev pub BlobOrFault : Type 0
BlobOrFault =
    (bounds : Limits) (file : List ℕ) → AreBytes file
    → IsBlobWithin bounds file ⊎ ((fault : Fault) × IsBlobFault bounds file fault)

-- A file of bytes is a blob within limits if and only if it has no fault under them.
abbrev pub BlobWhereNoFault : Type 0
BlobWhereNoFault = (bounds : Limits) (file : List ℕ) → AreBytes file
    → IsBlobWithin bounds file ↔ ((fault : Fault) → ¬ (IsBlobFault bounds file fault))

-- Each of these tokens, the newest first, passes its checks at the offset after those before it,
-- and none is FDT_END.
abbrev pub AllTokensPass : TreeBlocks → ℕ → List Token → Type 0
AllTokensPass blocks depth_limit [] = Unit {0}
AllTokensPass blocks depth_limit (token ∷ before) =
    (token ≢ End)
    × HasNoFault
    (TokenPasses blocks depth_limit (place_after blocks before)
    (stage_after blocks.strings before))
    (token_checks (u32_at blocks.file (place_after blocks before)))
    × AllTokensPass blocks depth_limit before

-- A structure block begins with tokens that pass if and only if these pass and the bytes up to the
-- offset after them are their encodings, in the file with any three bytes after it, in which the
-- padding of the last token may end.
abbrev pub PassedWhereEncoded : Type 0
PassedWhereEncoded =
    (blocks : TreeBlocks) (depth_limit : ℕ) (tokens : List Token) (trailing : List ℕ)
    → IsReadable blocks → length trailing ≡ 3
    → ArePassed blocks depth_limit tokens
    ↔ (AllTokensPass blocks depth_limit tokens
    × AreEncodings (reverse tokens)
    (slice (blocks.file ++ trailing) blocks.begin (place_after blocks tokens - blocks.begin)))

-- These events are those of one tree, which a blob within the limit on depth can hold.
pub record HasOneTree (depth_limit : ℕ) (events : List Event) : Type 0 where
  pub root : Root (List Property)
  pub same : events_of root ≡ events
  pub only : (other : Root (List Property)) → events_of other ≡ events → other ≡ root
  pub is_tree : IsTree AreProperties root
  pub shallow : depth_of root ≤ depth_limit

-- Events are those of one tree that a blob can hold if and only if each may follow those before it
-- and the last ends the root.
abbrev pub ClosedEventsHaveOneTree : Type 0
ClosedEventsHaveOneTree =
    (depth_limit : ℕ) (events : List Event)
    → AreClosedEvents (MayFollow depth_limit) events ↔ HasOneTree depth_limit events

-- A file has a fault before its structure block or none. Such a fault is the fault of the file; and
-- if there is none, the fault of the file, if it has one, is in the structure block.
pub record IsDecidedBeforeTree (bounds : Limits) (file : List ℕ) : Type 0 where
  pub decided :
      HasNoFaultBeforeTree bounds file ⊎ ((fault : Fault) × IsFaultBeforeTree bounds file fault)
  pub apart :
      (fault : Fault) → HasNoFaultBeforeTree bounds file → ¬ (IsFaultBeforeTree bounds file fault)
  pub first : (fault : Fault) → IsFaultBeforeTree bounds file fault → IsBlobFault bounds file fault
  pub later : (fault : Fault) → HasNoFaultBeforeTree bounds file → IsBlobFault bounds file fault
      → IsStructureFault (tree_blocks file) bounds.depth fault

-- Faults of the header and of the reservations come before those of the structure block.
abbrev pub FaultBeforeTreeComesFirst : Type 0
FaultBeforeTreeComesFirst = (bounds : Limits) (file : List ℕ) → IsDecidedBeforeTree bounds file

-- Each of these nodes is found by its name, and only by its name; the node after it is the first
-- of its later siblings.
pub record FindsNodes (nodes : Nodes FileNode) : Type 0 where
  pub at_index : (index : ℕ) (sibling : Sibling FileNode) → node_at nodes index ≡ Some sibling
      → node_named nodes sibling.name ≡ Some sibling
  pub by_name : (name : List ℕ) (sibling : Sibling FileNode) → node_named nodes name ≡ Some sibling
      → (sibling.name ≡ name) × (index : ℕ) × (node_at nodes index ≡ Some sibling)
  pub next : (index : ℕ) (sibling : Sibling FileNode) → node_at nodes index ≡ Some sibling
      → node_at sibling.later 0 ≡ node_at nodes (index + 1)

-- Nodes with distinct names are found.
abbrev pub NodesAreFound : Type 0
NodesAreFound = (nodes : Nodes FileNode) → AreDistinct (names nodes) → FindsNodes nodes

-- Each of these properties is found by its name, and only by its name.
pub record FindsProperties (properties : List FileProperty) : Type 0 where
  pub at_index : (index : ℕ) (property : FileProperty) → slice_get properties index ≡ Some property
      → property_named properties property.name ≡ Some property
  pub by_name :
      (name : List ℕ) (property : FileProperty) → property_named properties name ≡ Some property
      → (property.name ≡ name) × (index : ℕ) × (slice_get properties index ≡ Some property)

-- Properties with distinct names are found.
abbrev pub PropertiesAreFound : Type 0
PropertiesAreFound =
    (properties : List FileProperty) → AreDistinct (map (λ property. property.name) properties)
    → FindsProperties properties
