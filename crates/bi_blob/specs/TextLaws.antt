use Rattle.std.specs.Prelude.{◌≡◌, ℕ, ◌+◌, ◌*◌, ◌%◌, ◌≤◌, List, [], ◌∷◌, ◌++◌, length, sum_by}
use Rattle.std.specs.Prelude.{Contains, ◌↔◌}
use Rattle.bi_base.specs.declared.fault.Fault.{Fault}
use Rattle.bi_base.specs.Alignments.{IsAlignment}
use Rattle.bi_base.specs.Cells.{up4, AreBytes}
use Rattle.bi_base.specs.Limits.{Limits}
use Rattle.bi_blob.specs.Tokens.{End, AreEncodings, IsNameAt}
use Rattle.bi_blob.specs.Tree.{Root, Property, PropertyMap, FileNode, HasNoZero, AreDistinct}
use Rattle.bi_blob.specs.Tree.{IsNormal, tree_without_places, tree_without_order, depth_of}
use Rattle.bi_blob.specs.Events.{Event, NodeStart, NodeProperty, NodeEnd, events_of}
use Rattle.bi_blob.specs.Events.{file_events_of, EncodeEvents}
use Rattle.bi_blob.specs.Following.{most_open_nodes, MayFollowInText, AreClosedEvents}
use Rattle.bi_blob.specs.Blob.{Reservation, reservation_block, IsBlob, IsWithin, totalsize}
use Rattle.bi_blob.specs.BlobFaults.{IsBlobFault}
use Rattle.bi_blob.specs.BlobLaws.{SameContent, HasOneTree}
use Rattle.bi_blob.specs.Layout.{event_names, used_names, distinct_names, offset_in, tokens_of}
use Rattle.bi_blob.specs.Layout.{structure_block, strings_block, text_of_events, text_of_tree}
use Rattle.bi_blob.specs.Layout.{event_width, text_length, structure_place}
use Rattle.bi_blob.specs.Layout.{tree_with_places, in_byte_order, IsContent, IsNormalText}
use Rattle.bi_blob.specs.Layout.{longest_text}

-- Laws of the text of a blob (profile of this project). Each is the contract of a function in
-- `text_laws`.

-- The strings block of these events has each name that they use, and no other, once.
pub record HasNamesOnce (events : List Event) : Type 0 where
  pub same :
      (name : List ℕ)
      → Contains (distinct_names (used_names events)) name ↔ Contains (used_names events) name
  pub distinct : AreDistinct (distinct_names (used_names events))

-- The strings block of any events has the names that they use once.
abbrev pub EachNameIsThereOnce : Type 0
EachNameIsThereOnce = (events : List Event) → HasNamesOnce events

-- The strings block of these events and one more: a name that was not used before is added at its
-- end.
pub record GrowsByUse (events : List Event) : Type 0 where
  pub empty : strings_block [] ≡ []
  pub other :
      (event : Event) → event_names event ≡ []
      → strings_block (events ++ event ∷ []) ≡ strings_block events
  pub known : (property : Property) → Contains (used_names events) property.0
      → strings_block (events ++ NodeProperty property ∷ []) ≡ strings_block events
  pub new : (property : Property) → ¬ (Contains (used_names events) property.0)
      → strings_block (events ++ NodeProperty property ∷ [])
      ≡ strings_block events ++ (property.0 ++ 0 ∷ [])

-- A strings block has names in the order of their first use.
abbrev pub StringsGrowByUse : Type 0
StringsGrowByUse = (events : List Event) → GrowsByUse events

-- Each name that events use is at its offset in their strings block.
abbrev pub EachNameIsFound : Type 0
EachNameIsFound =
    (events : List Event) (name : List ℕ) → Contains (used_names events) name → HasNoZero name
    → IsNameAt (strings_block events) (offset_in (distinct_names (used_names events)) name) name

-- A name that events use has the same offset in their strings block after any further events.
abbrev pub OffsetsStay : Type 0
OffsetsStay =
    (events later : List Event) (name : List ℕ) → Contains (used_names events) name
    → offset_in (distinct_names (used_names (events ++ later))) name
    ≡ offset_in (distinct_names (used_names events)) name

-- A name that is used for the first time has its offset at the end of the strings block of the
-- events before.
abbrev pub NewOffsetIsAtEnd : Type 0
NewOffsetIsAtEnd =
    (events : List Event) (property : Property) → ¬ (Contains (used_names events) property.0)
    → offset_in (distinct_names (used_names (events ++ NodeProperty property ∷ []))) property.0
    ≡ length (strings_block events)

-- The structure block of a text is the encoding of tokens and FDT_END. Over the strings block,
-- these tokens encode the events of the tree, at its places.
pub record EncodesTree (reservations : List Reservation) (root : Root (List Property))
    : Type 0 where
  pub is_encoded :
      AreEncodings (tokens_of (events_of root) ++ End ∷ []) (structure_block (events_of root))
  pub encodes :
      EncodeEvents (strings_block (events_of root)) (structure_place reservations)
      (tokens_of (events_of root)) (file_events_of (tree_with_places reservations root))

-- The blocks of a text that is not too long encode its tree.
abbrev pub TextEncodesItsTree : Type 0
TextEncodesItsTree =
    (align cpu : ℕ) (reservations : List Reservation) (root : Root (List Property))
    → IsAlignment align → IsContent cpu reservations root
    → length (text_of_tree align cpu reservations root) ≤ longest_text
    → EncodesTree reservations root

-- This file is a blob of these and of nothing else. Its tree has the places of the layout and the
-- same depth, and its total size is the length of the text.
pub record IsBlobOf (file : List ℕ) (align cpu : ℕ) (reservations : List Reservation)
    (root : Root (List Property)) : Type 0 where
  pub blob : IsBlob file cpu reservations (tree_with_places reservations root)
  pub same_tree : tree_without_places (tree_with_places reservations root) ≡ root
  pub same_depth : depth_of (tree_with_places reservations root) ≡ depth_of root
  pub only : (other_cpu : ℕ) (other_reservations : List Reservation) (other_root : Root FileNode)
      → IsBlob file other_cpu other_reservations other_root
      → SameContent cpu other_cpu reservations other_reservations
      (tree_with_places reservations root) other_root
  pub is_total : totalsize file ≡ length (text_of_tree align cpu reservations root)

-- A text that is not too long, with any bytes after it, is a blob of exactly its content.
abbrev pub TextIsBlob : Type 0
TextIsBlob =
    (align cpu : ℕ) (reservations : List Reservation) (root : Root (List Property))
    (rest : List ℕ)
    → IsAlignment align → IsContent cpu reservations root
    → length (text_of_tree align cpu reservations root) ≤ longest_text → AreBytes rest
    → IsBlobOf (text_of_tree align cpu reservations root ++ rest) align cpu reservations root

-- A file is a blob of these and nothing else within limits, and has no fault under them.
pub record IsAccepted (bounds : Limits) (file : List ℕ) (align cpu : ℕ)
    (reservations : List Reservation) (root : Root (List Property)) : Type 0 where
  pub is_blob : IsBlobOf file align cpu reservations root
  pub is_within : IsWithin bounds file (tree_with_places reservations root)
  pub no_fault : (fault : Fault) → ¬ (IsBlobFault bounds file fault)

-- A text that is not too long, with any bytes after it, is accepted under limits of at least its
-- whole length and the depth of its tree.
abbrev pub TextIsAccepted : Type 0
TextIsAccepted =
    (bounds : Limits) (align cpu : ℕ) (reservations : List Reservation)
    (root : Root (List Property)) (rest : List ℕ)
    → IsAlignment align → IsContent cpu reservations root
    → length (text_of_tree align cpu reservations root) ≤ longest_text → AreBytes rest
    → length (text_of_tree align cpu reservations root ++ rest) ≤ bounds.file
    → depth_of root ≤ bounds.depth
    → IsAccepted bounds (text_of_tree align cpu reservations root ++ rest) align cpu reservations
    root

-- A normal text that is not too long, with any bytes after it, is accepted under limits of at least
-- its whole length and the depth of its tree.
abbrev pub NormalTextIsAccepted : Type 0
NormalTextIsAccepted =
    (bounds : Limits) (cpu : ℕ) (reservations : List Reservation) (root : Root (List Property))
    (text rest : List ℕ)
    → IsContent cpu reservations root → IsNormalText cpu reservations root text
    → length text ≤ longest_text → AreBytes rest
    → length (text ++ rest) ≤ bounds.file → depth_of root ≤ bounds.depth
    → IsAccepted bounds (text ++ rest) 4 cpu reservations root

-- The length of a text.
pub record HasTextLength (align cpu : ℕ) (reservations : List Reservation)
    (root : Root (List Property)) : Type 0 where
  pub is_length : length (text_of_tree align cpu reservations root)
      ≡ text_length align (length (reservation_block reservations))
      (length (structure_block (events_of root))) (length (strings_block (events_of root)))
  pub is_whole : length (text_of_tree align cpu reservations root) % align ≡ 0

-- Each text is as long as its header and its blocks, padded to a multiple of its alignment.
abbrev pub EachTextHasItsLength : Type 0
EachTextHasItsLength =
    (align cpu : ℕ) (reservations : List Reservation) (root : Root (List Property))
    → IsAlignment align → HasTextLength align cpu reservations root

-- The length of a text of these events, and of each of its blocks: sixteen bytes for each
-- reservation and for the end pair, the width of each event and four bytes for FDT_END, and each
-- name once with a zero byte.
pub record HasLengthOfEvents (align cpu : ℕ) (reservations : List Reservation)
    (events : List Event) : Type 0 where
  pub reserved : length (reservation_block reservations) ≡ 16 * length reservations + 16
  pub structure : length (structure_block events) ≡ sum_by event_width events + 4
  pub strings :
      length (strings_block events)
      ≡ sum_by (λ name. length name + 1) (distinct_names (used_names events))
  pub is_length : length (text_of_events align cpu reservations events)
      ≡ text_length align (length (reservation_block reservations))
      (length (structure_block events)) (length (strings_block events))
  pub is_whole : length (text_of_events align cpu reservations events) % align ≡ 0

-- Each text of events is as long as its header and its blocks, padded to a multiple of its
-- alignment.
abbrev pub TextOfEventsHasItsLength : Type 0
TextOfEventsHasItsLength =
    (align cpu : ℕ) (reservations : List Reservation) (events : List Event)
    → IsAlignment align → HasLengthOfEvents align cpu reservations events

-- The number of bytes of each event's token.
pub record HasEventWidths : Type 0 where
  pub node_start : (name : List ℕ) → event_width (NodeStart name) ≡ up4 (length name + 5)
  pub property :
      (property : Property) → event_width (NodeProperty property) ≡ up4 (length property.1 + 12)
  pub node_end : event_width NodeEnd ≡ 4

-- What a blob holds is content: it can be laid out again.
abbrev pub BlobHasContent : Type 0
BlobHasContent =
    (file : List ℕ) (cpu : ℕ) (reservations : List Reservation) (root : Root FileNode)
    → IsBlob file cpu reservations root
    → IsContent cpu reservations (tree_without_places root)

-- Contents with the same text, if it is not too long, are the same: distinct contents have distinct
-- texts.
abbrev pub TextHasOneContent : Type 0
TextHasOneContent =
    (align cpu other_cpu : ℕ) (reservations other_reservations : List Reservation)
    (root other_root : Root (List Property))
    → IsAlignment align
    → IsContent cpu reservations root → IsContent other_cpu other_reservations other_root
    → length (text_of_tree align cpu reservations root) ≤ longest_text
    → text_of_tree align cpu reservations root
    ≡ text_of_tree align other_cpu other_reservations other_root
    → SameContent cpu other_cpu reservations other_reservations root other_root

-- Two texts are each followed by other bytes, and neither text is too long. If the files are the
-- same, the contents are the same, and so are the bytes after the texts.
abbrev pub TextWithRestHasOneContent : Type 0
TextWithRestHasOneContent =
    (align cpu other_cpu : ℕ) (reservations other_reservations : List Reservation)
    (root other_root : Root (List Property))
    → (rest other_rest : List ℕ)
    → IsAlignment align
    → IsContent cpu reservations root → IsContent other_cpu other_reservations other_root
    → length (text_of_tree align cpu reservations root) ≤ longest_text
    → length (text_of_tree align other_cpu other_reservations other_root) ≤ longest_text
    → text_of_tree align cpu reservations root ++ rest
    ≡ text_of_tree align other_cpu other_reservations other_root ++ other_rest
    → SameContent cpu other_cpu reservations other_reservations root other_root
    × (rest ≡ other_rest)

-- A tree with properties by name has one normal order of them.
pub record HasOneOrder (root : Root PropertyMap) : Type 0 where
  pub is_normal : IsNormal (in_byte_order root)
  pub is_same : tree_without_order (in_byte_order root) ≡ root
  pub only :
      (other : Root (List Property)) → IsNormal other → tree_without_order other ≡ root
      → other ≡ in_byte_order root

-- Each tree has one normal order.
abbrev pub EachTreeHasOneOrder : Type 0
EachTreeHasOneOrder = (root : Root PropertyMap) → HasOneOrder root

-- Content may be laid out in normal order, and then has the same depth.
pub record MayBeOrdered (cpu : ℕ) (reservations : List Reservation)
    (root : Root (List Property)) : Type 0 where
  pub is_content : IsContent cpu reservations (in_byte_order (tree_without_order root))
  pub same_depth : depth_of (in_byte_order (tree_without_order root)) ≡ depth_of root

-- All content may be laid out in normal order.
abbrev pub ContentMayBeOrdered : Type 0
ContentMayBeOrdered =
    (cpu : ℕ) (reservations : List Reservation) (root : Root (List Property))
    → IsContent cpu reservations root
    → MayBeOrdered cpu reservations root

-- If one of two normal texts is not too long, the texts are the same if and only if their boot
-- processors, memory reservations and trees are, with the properties of each node by name.
abbrev pub NormalTextTellsContent : Type 0
NormalTextTellsContent =
    (cpu other_cpu : ℕ) (reservations other_reservations : List Reservation)
    (root other_root : Root (List Property))
    → (text other_text : List ℕ)
    → IsContent cpu reservations root → IsContent other_cpu other_reservations other_root
    → IsNormalText cpu reservations root text
    → IsNormalText other_cpu other_reservations other_root other_text
    → length text ≤ longest_text
    → (text ≡ other_text)
    ↔ SameContent cpu other_cpu reservations other_reservations (tree_without_order root)
    (tree_without_order other_root)

-- Two normal texts are each followed by other bytes, and neither text is too long. The files are
-- the same if and only if the boot processors, the memory reservations, the trees, with the
-- properties of each node by name, and the bytes after the texts are.
abbrev pub NormalTextWithRestTellsContent : Type 0
NormalTextWithRestTellsContent =
    (cpu other_cpu : ℕ) (reservations other_reservations : List Reservation)
    (root other_root : Root (List Property))
    → (text other_text rest other_rest : List ℕ)
    → IsContent cpu reservations root → IsContent other_cpu other_reservations other_root
    → IsNormalText cpu reservations root text
    → IsNormalText other_cpu other_reservations other_root other_text
    → length text ≤ longest_text → length other_text ≤ longest_text
    → (text ++ rest ≡ other_text ++ other_rest)
    ↔ (SameContent cpu other_cpu reservations other_reservations (tree_without_order root)
    (tree_without_order other_root)
    × (rest ≡ other_rest))

-- These events are those of one tree, which a blob can hold and which has the properties of each
-- node in byte order.
pub record HasOneNormalTree (events : List Event) : Type 0 where
  pub tree : HasOneTree most_open_nodes events
  pub is_normal : IsNormal tree.root

-- Events are those of one normal tree that a blob can hold if and only if each may follow those
-- before it in a normal text and the last ends the root.
abbrev pub NormalEventsHaveOneTree : Type 0
NormalEventsHaveOneTree =
    (events : List Event) → AreClosedEvents MayFollowInText events ↔ HasOneNormalTree events
