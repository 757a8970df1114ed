use Rattle.std.specs.Prelude.{◌≡◌, ◌≢◌, ◌⊎◌, ℕ, ◌+◌, ◌*◌, ◌%◌, ◌<◌, ◌≤◌, List, [], ◌∷◌, length}
use Rattle.std.specs.Prelude.{◌==◌, if◌then◌else◌, fold, IsTrue}
use Rattle.bi_base.specs.declared.fault.Cause.{Cause}
use Rattle.bi_base.specs.declared.fault.Cause.TheVariants.{Truncated, BadMagic, BadTotalSize}
use Rattle.bi_base.specs.declared.fault.Cause.TheVariants.{BadVersion, BadOffset, BadToken}
use Rattle.bi_base.specs.declared.fault.Cause.TheVariants.{BadName, BadNameOffset}
use Rattle.bi_base.specs.declared.fault.Cause.TheVariants.{PropertyAfterChild, DuplicateProperty}
use Rattle.bi_base.specs.declared.fault.Cause.TheVariants.{DuplicateNode, TooDeep, TooLarge}
use Rattle.bi_base.specs.declared.fault.Fault.{Fault}
use Rattle.bi_base.specs.Cells.{u32_at, u64_at}
use Rattle.bi_base.specs.Checks.{IsFirstFault, HasNoFault}
use Rattle.bi_base.specs.Limits.{Limits}
use Rattle.bi_blob.specs.Tokens.{Token, BeginNode, EndNode, Prop, End, width, IsTokenAt, name_from}
use Rattle.bi_blob.specs.Tokens.{begin_node_number, prop_number}
use Rattle.bi_blob.specs.Tree.{IsChildName, IsPropertyName, IsNew}
use Rattle.bi_blob.specs.Events.{Event, NodeStart, NodeProperty, NodeEnd}
use Rattle.bi_blob.specs.Stages.{Stage, BeforeRoot, Inside, AfterRoot, next_stage, open_nodes}
use Rattle.bi_blob.specs.Stages.{child_names, property_names, is_expected}
use Rattle.bi_blob.specs.Blob.{magic, totalsize, off_dt_struct, off_dt_strings, off_mem_rsvmap}
use Rattle.bi_blob.specs.Blob.{version, last_comp_version, blob_magic, least_version}
use Rattle.bi_blob.specs.Blob.{reader_version, header_length, structure_end, strings_end}
use Rattle.bi_blob.specs.Blob.{TreeBlocks, tree_blocks}

-- Why a file is not a blob within limits, and at which offset: the first check that fails (profile
-- of this project, with the requirements of the Devicetree Specification, chapter 5). The checks of
-- the header come first, then the pairs of the memory reservation block, and then the tokens of the
-- structure block one by one.

-- The checks of the header (5.2).
pub data HeaderCheck : Type 0 where
  IsWithinLimit : HeaderCheck
  HasMagicCell : HeaderCheck
  HasMagic : HeaderCheck
  HasHeader : HeaderCheck
  HasVersion : HeaderCheck
  HasCompatibleVersion : HeaderCheck
  TotalHoldsHeader : HeaderCheck
  FileHoldsTotal : HeaderCheck
  PlacesReservations : HeaderCheck
  PlacesStructure : HeaderCheck
  PlacesStrings : HeaderCheck

-- Their order (profile of this project).
abbrev pub header_checks : List HeaderCheck
header_checks =
    IsWithinLimit ∷ HasMagicCell ∷ HasMagic ∷ HasHeader ∷ HasVersion ∷ HasCompatibleVersion
    ∷ TotalHoldsHeader ∷ FileHoldsTotal ∷ PlacesReservations ∷ PlacesStructure ∷ PlacesStrings
    ∷ []

-- What each of them requires. A check may read cells that a short file does not have; an earlier
-- check then fails.
abbrev pub HeaderPasses : Limits → List ℕ → HeaderCheck → Type 0
HeaderPasses bounds file IsWithinLimit = length file ≤ bounds.file
HeaderPasses bounds file HasMagicCell = 4 ≤ length file
HeaderPasses bounds file HasMagic = magic file ≡ blob_magic
HeaderPasses bounds file HasHeader = header_length file ≤ length file
HeaderPasses bounds file HasVersion = least_version ≤ version file
HeaderPasses bounds file HasCompatibleVersion = last_comp_version file ≤ reader_version
HeaderPasses bounds file TotalHoldsHeader = header_length file ≤ totalsize file
HeaderPasses bounds file FileHoldsTotal = totalsize file ≤ length file
HeaderPasses bounds file PlacesReservations =
    (header_length file ≤ off_mem_rsvmap file) × (off_mem_rsvmap file % 8 ≡ 0)
    × (off_mem_rsvmap file ≤ totalsize file)
HeaderPasses bounds file PlacesStructure =
    (header_length file ≤ off_dt_struct file) × (off_dt_struct file % 4 ≡ 0)
    × (off_dt_struct file ≤ structure_end file)
    × (structure_end file ≤ totalsize file)
HeaderPasses bounds file PlacesStrings =
    (header_length file ≤ off_dt_strings file) × (strings_end file ≤ totalsize file)

-- The fault of each of them.
abbrev pub header_fault : Limits → HeaderCheck → Fault
header_fault bounds IsWithinLimit = record { cause = TooLarge; offset = bounds.file }
header_fault bounds HasMagicCell = record { cause = Truncated; offset = 0 }
header_fault bounds HasMagic = record { cause = BadMagic; offset = 0 }
header_fault bounds HasHeader = record { cause = Truncated; offset = 0 }
header_fault bounds HasVersion = record { cause = BadVersion; offset = 20 }
header_fault bounds HasCompatibleVersion = record { cause = BadVersion; offset = 24 }
header_fault bounds TotalHoldsHeader = record { cause = BadTotalSize; offset = 4 }
header_fault bounds FileHoldsTotal = record { cause = Truncated; offset = 4 }
header_fault bounds PlacesReservations = record { cause = BadOffset; offset = 16 }
header_fault bounds PlacesStructure = record { cause = BadOffset; offset = 8 }
header_fault bounds PlacesStrings = record { cause = BadOffset; offset = 12 }

-- Each check of the header passes.
abbrev pub HasNoHeaderFault : Limits → List ℕ → Type 0
HasNoHeaderFault bounds file = HasNoFault (HeaderPasses bounds file) header_checks

-- The first check of the header that fails gives this fault.
abbrev pub IsHeaderFault : Limits → List ℕ → Fault → Type 0
IsHeaderFault bounds file fault =
    IsFirstFault (HeaderPasses bounds file) (header_fault bounds) header_checks fault

-- The pair of two zeros that ends the memory reservation block is at this offset (5.3.2).
pub record IsEndPair (file : List ℕ) (at : ℕ) : Type 0 where
  pub address : u64_at file at ≡ 0
  pub size : u64_at file (at + 8) ≡ 0

-- The memory reservation block at this offset has this many reservations, and its end pair ends at
-- `total` or before (5.3).
pub record HasReservations (file : List ℕ) (at total count : ℕ) : Type 0 where
  pub before : (index : ℕ) → index < count → ¬ (IsEndPair file (at + 16 * index))
  pub end : IsEndPair file (at + 16 * count)
  pub within : at + 16 * count + 16 ≤ total

-- Of the pairs of the memory reservation block, up to and including its end pair, the first that
-- extends past `total` gives the fault.
pub record IsReservationsFault (file : List ℕ) (at total : ℕ) (fault : Fault) : Type 0 where
  pub index : ℕ
  pub before : (earlier : ℕ) → earlier < index → ¬ (IsEndPair file (at + 16 * earlier))
  pub fits : at + 16 * index ≤ total
  pub past : total < at + 16 * index + 16
  pub is : fault ≡ record { cause = Truncated; offset = at + 16 * index }

-- The header and the memory reservation block of a file have no fault.
pub record HasNoFaultBeforeTree (bounds : Limits) (file : List ℕ) : Type 0 where
  pub header : HasNoHeaderFault bounds file
  pub count : ℕ
  pub reservations : HasReservations file (off_mem_rsvmap file) (totalsize file) count

-- The fault of a file before its structure block: in the header or in the memory reservation block.
abbrev pub IsFaultBeforeTree : Limits → List ℕ → Fault → Type 0
IsFaultBeforeTree bounds file fault =
    IsHeaderFault bounds file fault
    ⊎ (HasNoHeaderFault bounds file
    × IsReservationsFault file (off_mem_rsvmap file) (totalsize file) fault)

-- The checks of one token (5.4.1, 5.4.2).
pub data TokenCheck : Type 0 where
  HasTokenNumber : TokenCheck
  IsExpected : TokenCheck
  IsWithinDepth : TokenCheck
  HasNodeName : TokenCheck
  MayNameNode : TokenCheck
  IsNewNode : TokenCheck
  IsBeforeChildren : TokenCheck
  HasValue : TokenCheck
  HasPropertyName : TokenCheck
  MayNameProperty : TokenCheck
  IsNewProperty : TokenCheck

-- The order of the checks that only FDT_BEGIN_NODE has (profile of this project).
abbrev pub begin_checks : List TokenCheck
begin_checks = IsWithinDepth ∷ HasNodeName ∷ MayNameNode ∷ IsNewNode ∷ []

-- The order of the checks that only FDT_PROP has (profile of this project).
abbrev pub property_checks : List TokenCheck
property_checks =
    IsBeforeChildren ∷ HasValue ∷ HasPropertyName ∷ MayNameProperty ∷ IsNewProperty ∷ []

-- The checks of the token with this number, in order. If the block has no whole number at an
-- offset, `HasTokenNumber` fails, whatever is read there (5.4.1).
abbrev pub token_checks : ℕ → List TokenCheck
token_checks number =
    HasTokenNumber ∷ IsExpected
    ∷ (if number == begin_node_number then begin_checks
    else if number == prop_number then property_checks
    else [])

-- A node may have this name: an empty one as the root, and that of a child inside another node
-- (2.2.1).
abbrev pub MayBeNamed : Stage → List ℕ → Type 0
MayBeNamed BeforeRoot name = name ≡ []
MayBeNamed (Inside innermost outer) name = IsChildName name
MayBeNamed AfterRoot name = ⊥

-- These bytes have a zero byte from offset `at` on and before `end`, and so a name (5.4.1, 5.5).
abbrev pub HasName : List ℕ → ℕ → ℕ → Type 0
HasName bytes at end = at + length (name_from bytes at) < end

-- What each of them requires of the token at offset `place` of the file, at this stage. The name
-- of a node follows the token's number. The number of a property is followed by the length of its
-- value, the offset of its name, and its value.
abbrev pub TokenPasses : TreeBlocks → (depth_limit place : ℕ) → Stage → TokenCheck → Type 0
TokenPasses blocks depth_limit place stage HasTokenNumber = place + 4 ≤ blocks.end
TokenPasses blocks depth_limit place stage IsExpected =
    IsTrue (is_expected stage (u32_at blocks.file place))
TokenPasses blocks depth_limit place stage IsWithinDepth = length (open_nodes stage) < depth_limit
TokenPasses blocks depth_limit place stage HasNodeName = HasName blocks.file (place + 4) blocks.end
TokenPasses blocks depth_limit place stage MayNameNode =
    MayBeNamed stage (name_from blocks.file (place + 4))
TokenPasses blocks depth_limit place stage IsNewNode =
    IsNew (name_from blocks.file (place + 4)) (child_names stage)
TokenPasses blocks depth_limit place stage IsBeforeChildren = child_names stage ≡ []
TokenPasses blocks depth_limit place stage HasValue =
    place + 12 + u32_at blocks.file (place + 4) ≤ blocks.end
TokenPasses blocks depth_limit place stage HasPropertyName =
    HasName blocks.strings (u32_at blocks.file (place + 8)) (length blocks.strings)
TokenPasses blocks depth_limit place stage MayNameProperty =
    IsPropertyName (name_from blocks.strings (u32_at blocks.file (place + 8)))
TokenPasses blocks depth_limit place stage IsNewProperty =
    IsNew (name_from blocks.strings (u32_at blocks.file (place + 8))) (property_names stage)

-- The cause of each of them.
abbrev pub token_cause : TokenCheck → Cause
token_cause HasTokenNumber = Truncated
token_cause IsExpected = BadToken
token_cause IsWithinDepth = TooDeep
token_cause HasNodeName = Truncated
token_cause MayNameNode = BadName
token_cause IsNewNode = DuplicateNode
token_cause IsBeforeChildren = PropertyAfterChild
token_cause HasValue = Truncated
token_cause HasPropertyName = BadNameOffset
token_cause MayNameProperty = BadName
token_cause IsNewProperty = DuplicateProperty

-- The fault of each of them, always at the token.
abbrev pub token_fault : ℕ → TokenCheck → Fault
token_fault place check = record { cause = token_cause check; offset = place }

-- The events that a token encodes, with names from the strings block.
abbrev pub token_events : List ℕ → Token → List Event
token_events strings (BeginNode name) = NodeStart name ∷ []
token_events strings (Prop name_offset value) =
    NodeProperty (name_from strings name_offset, value) ∷ []
token_events strings EndNode = NodeEnd ∷ []
token_events strings token = []

-- The stage after these tokens, the newest first.
abbrev pub stage_after : List ℕ → List Token → Stage
stage_after strings [] = BeforeRoot
stage_after strings (token ∷ before) =
    fold next_stage (stage_after strings before) (token_events strings token)

-- The offset of the token after these, the newest first.
abbrev pub place_after : TreeBlocks → List Token → ℕ
place_after blocks [] = blocks.begin
place_after blocks (token ∷ before) = place_after blocks before + width token

-- This token comes after these, the newest first; it passes its checks, and it is not FDT_END.
pub record IsPassed (blocks : TreeBlocks) (depth_limit : ℕ) (before : List Token)
    (token : Token) : Type 0 where
  pub no_end : token ≢ End
  pub is_at : IsTokenAt blocks.file (place_after blocks before) token
  pub passes :
      HasNoFault
      (TokenPasses blocks depth_limit (place_after blocks before)
      (stage_after blocks.strings before))
      (token_checks (u32_at blocks.file (place_after blocks before)))

-- The structure block begins with these tokens, the newest first; each of them passes its checks,
-- and none is FDT_END.
abbrev pub ArePassed : TreeBlocks → ℕ → List Token → Type 0
ArePassed blocks depth_limit [] = Unit {0}
ArePassed blocks depth_limit (token ∷ before) =
    IsPassed blocks depth_limit before token × ArePassed blocks depth_limit before

-- Some tokens of the structure block pass, and of the checks of the token after them the first
-- that fails gives this fault.
pub record IsStructureFault (blocks : TreeBlocks) (depth_limit : ℕ) (fault : Fault) : Type 0 where
  pub before : List Token
  pub passed : ArePassed blocks depth_limit before
  pub first : IsFirstFault
      (TokenPasses blocks depth_limit (place_after blocks before)
      (stage_after blocks.strings before))
      (token_fault (place_after blocks before))
      (token_checks (u32_at blocks.file (place_after blocks before)))
      fault

-- The fault of a file as a blob within limits.
pub data IsBlobFault (bounds : Limits) (file : List ℕ) (fault : Fault) : Type 0 where
  InHeader : IsHeaderFault bounds file fault → IsBlobFault bounds file fault
  InReservations : HasNoHeaderFault bounds file
      → IsReservationsFault file (off_mem_rsvmap file) (totalsize file) fault
      → IsBlobFault bounds file fault
  InStructure : HasNoHeaderFault bounds file
      → (count : ℕ) → HasReservations file (off_mem_rsvmap file) (totalsize file) count
      → IsStructureFault (tree_blocks file) bounds.depth fault
      → IsBlobFault bounds file fault
