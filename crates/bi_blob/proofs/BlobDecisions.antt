use Rattle.std.proofs.Common.{◌≡◌, ℕ, ◌+◌, ◌-◌, ◌^◌, Bool, true, false, List, [], ◌∷◌, ◌++◌, length, take, drop, map, sym, ◌∙◌, rules}
use Rattle.std.specs.Prelude.{◌==◌, ◌&&◌, nat_le, nat_lt, bytes_eq}
use Rattle.std.specs.List.{AllByRecursion, list_all}
use Rattle.std.proofs.lemmas.Bool.{and_parts, false≢true}
use Rattle.std.proofs.lemmas.List.{take-append-drop, append_assoc}
use Rattle.bi_base.proofs.EqualBytes.{same_bytes}
use Rattle.bi_base.specs.Cells.{slice, AreBytes}
use Rattle.bi_base.proofs.ByteLists.{AreBytes-none, AreBytes-cons}
use Rattle.bi_blob.specs.Tokens.{Token, BeginNode, EndNode, Prop, Nop, End, token_bytes, width, IsEncoding, AreEncodings, IsNameAt}
use Rattle.bi_blob.specs.Tree.{Nodes, none, node, Root, Property, FileNode, names, AreDistinct, AreProperties, AreNodes}
use Rattle.bi_blob.specs.Tree.{tree_without_places, depth_of}
use Rattle.bi_blob.specs.Events.{FileEvent, FileNodeStart, FileNodeProperty, FileNodeEnd, EncodeEvents, file_events_of}
use Rattle.bi_blob.specs.Blob.{Reservation, IsReservation, reservation_block, TreeBlocks, tree_blocks, boot_cpuid_phys, off_mem_rsvmap}
use Rattle.bi_blob.specs.Blob.{totalsize}
use Rattle.bi_blob.specs.BlobFaults.{header_checks}
use Rattle.bi_base.specs.Limits.{widest}
use Rattle.bi_blob.specs.KnownBlobs.{IsKnownBlob}
use Rattle.bi_blob.proofs.CheckDecisions.{all_decide, le_decides, lt_decides, eq_decides, lacks_byte, lacks_byte_decides, is_new}
use Rattle.bi_blob.proofs.CheckDecisions.{is_new_decides, is_property_name, is_property_name_decides, is_child_name, is_child_name_decides}
use Rattle.bi_blob.proofs.HeaderDecisions.{test, fine_by_test}
use Rattle.bi_blob.proofs.TokenDecisions.{is_token, is_token_decides}
use Rattle.bi_blob.proofs.Blobs.Headers.{HasNoHeaderFault-Header}

-- A file that is tested to have a header, memory reservations and a tree is a blob of them.

-- Each number is a byte.
are_bytes : (bytes : List ℕ) → list_all (λ b. nat_lt b 256) bytes ≡ true → AreBytes bytes
are_bytes [] e = AreBytes-none
are_bytes (byte ∷ later) e =
    let parts = and_parts (nat_lt byte 256) (list_all (λ b. nat_lt b 256) later) e in
    AreBytes-cons byte later ((lt_decides byte 256).0 parts.0) (are_bytes later parts.1)

-- Whether bytes begin with others.
unfoldable pub begins_with : List ℕ → List ℕ → Bool
begins_with bytes front = bytes_eq (take (length front) bytes) front

begins_with_sound : (bytes front : List ℕ) → begins_with bytes front ≡ true → bytes ≡ front ++ drop (length front) bytes
unfolding begins_with
begins_with_sound bytes front e = search (rules, take-append-drop, same_bytes)

-- Whether bytes are a token with its padding.
unfoldable pub is_encoding : Token → List ℕ → Bool
is_encoding token bytes = is_token token && (begins_with bytes (token_bytes token) && length bytes == width token)

is_encoding_sound : (token : Token) (bytes : List ℕ) → is_encoding token bytes ≡ true → IsEncoding token bytes
unfolding is_encoding
is_encoding_sound token bytes e =
    let all = and_parts (is_token token) (begins_with bytes (token_bytes token) && length bytes == width token) e in
    let parts = and_parts (begins_with bytes (token_bytes token)) (length bytes == width token) all.1 in
    record {
      is_token = (is_token_decides token).0 all.0;
      padding = drop (length (token_bytes token)) bytes;
      is_encoded = begins_with_sound bytes (token_bytes token) parts.0;
      whole = (eq_decides (length bytes) (width token)).0 parts.1;
    }

-- Whether bytes are tokens, one after the other.
unfoldable pub are_encodings : List Token → List ℕ → Bool
are_encodings [] bytes = bytes_eq bytes []
are_encodings (token ∷ later) bytes =
    is_encoding token (take (width token) bytes) && are_encodings later (drop (width token) bytes)

are_encodings_sound : (tokens : List Token) (bytes : List ℕ) → are_encodings tokens bytes ≡ true → AreEncodings tokens bytes
unfolding are_encodings
are_encodings_sound [] bytes e = same_bytes bytes [] e
are_encodings_sound (token ∷ later) bytes e =
    let parts = and_parts (is_encoding token (take (width token) bytes)) (are_encodings later (drop (width token) bytes)) e in
    (is_encoding_sound token (take (width token) bytes) parts.0, are_encodings_sound later (drop (width token) bytes) parts.1)

-- Whether a name is at an offset of a strings block.
unfoldable pub is_name_at : List ℕ → ℕ → List ℕ → Bool
is_name_at strings offset name = lacks_byte 0 name && begins_with (drop offset strings) (name ++ 0 ∷ [])

is_name_at_sound : (strings : List ℕ) (offset : ℕ) (name : List ℕ) → is_name_at strings offset name ≡ true → IsNameAt strings offset name
unfolding is_name_at
is_name_at_sound strings offset name e =
    let parts = and_parts (lacks_byte 0 name) (begins_with (drop offset strings) (name ++ 0 ∷ [])) e in
    record {
      no_zero = (lacks_byte_decides 0 name).0 parts.0;
      trailing = drop (length (name ++ 0 ∷ [])) (drop offset strings);
      is_at = begins_with_sound (drop offset strings) (name ++ 0 ∷ []) parts.1
          ∙ append_assoc name (0 ∷ []) (drop (length (name ++ 0 ∷ [])) (drop offset strings));
    }

-- Whether tokens encode events.
unfoldable pub encode_events : List ℕ → ℕ → List Token → List FileEvent → Bool
encode_events strings at [] [] = true
encode_events strings at (Nop ∷ tokens) later = encode_events strings (at + width Nop) tokens later
encode_events strings at (BeginNode token_name ∷ tokens) (FileNodeStart place name ∷ later) =
    (bytes_eq token_name name && at == place) && encode_events strings (at + width (BeginNode token_name)) tokens later
encode_events strings at (Prop offset value ∷ tokens) (FileNodeProperty property ∷ later) =
    (is_name_at strings offset property.name && (bytes_eq value property.value && at == property.place))
    && encode_events strings (at + width (Prop offset value)) tokens later
encode_events strings at (EndNode ∷ tokens) (FileNodeEnd ∷ later) = encode_events strings (at + width EndNode) tokens later
encode_events strings at tokens later = false

encode_events_sound : (strings : List ℕ) (at : ℕ) (tokens : List Token) (later : List FileEvent) →
    encode_events strings at tokens later ≡ true → EncodeEvents strings at tokens later
unfolding encode_events
encode_events_sound strings at [] [] e = tt
encode_events_sound strings at (Nop ∷ tokens) later e = encode_events_sound strings (at + width Nop) tokens later e
encode_events_sound strings at (BeginNode token_name ∷ tokens) (FileNodeStart place name ∷ later) e =
    let all = and_parts _ _ e in
    search (rules, and_parts, same_bytes, eq_decides, encode_events_sound strings (at + width (BeginNode token_name)) tokens later all.1)
encode_events_sound strings at (Prop offset value ∷ tokens) (FileNodeProperty property ∷ later) e =
    let all = and_parts _ _ e in
    let named = and_parts _ _ all.0 in
    let parts = and_parts (bytes_eq value property.value) (at == property.place) named.1 in (
      record {
        name = is_name_at_sound strings offset property.name named.0;
        value = same_bytes value property.value parts.0;
        place = (eq_decides at property.place).0 parts.1;
      },
      encode_events_sound strings (at + width (Prop offset value)) tokens later all.1,
    )
encode_events_sound strings at (EndNode ∷ tokens) (FileNodeEnd ∷ later) e =
    encode_events_sound strings (at + width EndNode) tokens later e
encode_events_sound strings at tokens later e = false≢true e

-- Whether names are distinct.
unfoldable pub are_distinct : List (List ℕ) → Bool
are_distinct [] = true
are_distinct (name ∷ later) = is_new name later && are_distinct later

are_distinct_sound : (names : List (List ℕ)) → are_distinct names ≡ true → AreDistinct names
unfolding are_distinct
are_distinct_sound [] e = tt
are_distinct_sound (name ∷ later) e =
    let parts = and_parts (is_new name later) (are_distinct later) e in
    ((is_new_decides name later).0 parts.0, are_distinct_sound later parts.1)

-- Whether a node may have properties.
unfoldable pub are_properties : List Property → Bool
are_properties properties =
    list_all (λ (property : Property). is_property_name property.0) properties
    && are_distinct (map (λ (property : Property). property.0) properties)

are_properties_sound : (properties : List Property) → are_properties properties ≡ true → AreProperties properties
unfolding are_properties
are_properties_sound properties e = search (rules, and_parts, all_decide, is_property_name, is_property_name_decides, are_distinct_sound)

-- Whether a tree may have nodes.
unfoldable pub are_nodes : Nodes (List Property) → Bool
are_nodes none = true
are_nodes (node name properties children later) =
    (is_child_name name && (are_properties properties && is_new name (names later))) && (are_nodes children && are_nodes later)

are_nodes_sound : (nodes : Nodes (List Property)) → are_nodes nodes ≡ true → AreNodes AreProperties nodes
unfolding are_nodes
are_nodes_sound none e = tt
are_nodes_sound (node name properties children later) e =
    let all = and_parts _ _ e in
    let own = and_parts _ _ all.0 in
    let parts = and_parts _ _ own.1 in
    let rest = and_parts _ _ all.1 in (
      record {
        is_name = (is_child_name_decides name).0 own.0;
        is_own = are_properties_sound properties parts.0;
        is_new = (is_new_decides name (names later)).0 parts.1;
      },
      are_nodes_sound children rest.0,
      are_nodes_sound later rest.1,
    )

-- Whether a blob can hold reservations.
unfoldable pub are_reservations : List Reservation → Bool
are_reservations [] = true
are_reservations (reservation ∷ later) =
    (nat_lt reservation.address (2 ^ 64) && (nat_lt reservation.size (2 ^ 64) && nat_lt 0 (reservation.address + reservation.size)))
    && are_reservations later

are_reservations_sound : (reservations : List Reservation) → are_reservations reservations ≡ true →
    AllByRecursion IsReservation reservations
unfolding are_reservations
are_reservations_sound [] e = tt
are_reservations_sound (reservation ∷ later) e =
    let all = and_parts _ _ e in
    search (rules, and_parts, lt_decides, are_reservations_sound later all.1)

-- The bytes from the memory reservation block on.
abbrev from_reservations : List ℕ → List ℕ
from_reservations file = slice file (off_mem_rsvmap file) (totalsize file - off_mem_rsvmap file)

-- The bytes of the structure block.
abbrev structure_of : TreeBlocks → List ℕ
structure_of blocks = slice blocks.file blocks.begin (blocks.end - blocks.begin)

-- Whether a file has a header, boot processor and memory reservations.
unfoldable pub has_header : List ℕ → ℕ → List Reservation → Bool
has_header file cpu reservations =
    (list_all (λ b. nat_lt b 256) file && list_all (test widest file) header_checks)
    && (boot_cpuid_phys file == cpu &&
    (are_reservations reservations && begins_with (from_reservations file) (reservation_block reservations)))

-- Whether a structure block has tokens of this length that encode a tree.
unfoldable pub has_tree : TreeBlocks → List Token → ℕ → Root FileNode → Bool
has_tree blocks tokens size root =
    (are_encodings (tokens ++ End ∷ [])
    (take size (structure_of blocks)) && encode_events blocks.strings blocks.begin tokens (file_events_of root))
    && ((are_properties (tree_without_places root).own && are_nodes (tree_without_places root).children) && nat_le (depth_of root) 64)

-- A file that is tested to have these is a blob of them. `size` is the length of the tokens.
pub known_blob : (file : List ℕ) (cpu : ℕ) (reservations : List Reservation) (root : Root FileNode) (tokens : List Token) (size : ℕ) →
    has_header file cpu reservations ≡ true → has_tree (tree_blocks file) tokens size root ≡ true → IsKnownBlob file cpu reservations root
unfolding has_header has_tree
known_blob file cpu reservations root tokens size header tree =
    let all = and_parts _ _ header in
    let first = and_parts _ _ all.0 in
    let rest = and_parts _ _ all.1 in
    let reserved = and_parts _ _ rest.1 in
    let both = and_parts _ _ tree in
    let block = and_parts _ _ both.0 in
    let content = and_parts _ _ both.1 in
    let own = and_parts _ _ content.0 in
    let fine = fine_by_test widest file first.1 in
    record {
      blob = record {
        bytes = are_bytes file first.0;
        header = HasNoHeaderFault-Header widest file fine;
        is_cpu = (eq_decides (boot_cpuid_phys file) cpu).0 rest.0;
        reserved = record {
          are_reservations = are_reservations_sound reservations reserved.0;
          trailing = drop (length (reservation_block reservations)) (from_reservations file);
          is_at = begins_with_sound (from_reservations file) (reservation_block reservations) reserved.1;
        };
        holds = record {
          tokens = tokens;
          structure = take size (structure_of (tree_blocks file));
          trailing = drop size (structure_of (tree_blocks file));
          is_at = sym (take-append-drop size (structure_of (tree_blocks file)));
          is_encoded = are_encodings_sound (tokens ++ End ∷ []) (take size (structure_of (tree_blocks file))) block.0;
          encodes = encode_events_sound (tree_blocks file).strings (tree_blocks file).begin tokens (file_events_of root) block.1;
          is_tree = record {
            is_own = are_properties_sound (tree_without_places root).own own.0;
            children = are_nodes_sound (tree_without_places root).children own.1;
          };
        };
      };
      within = record { short = fine.0; shallow = (le_decides (depth_of root) 64).0 content.1 };
    }
