use Rattle.std.proofs.Common.{◌≡◌, ℕ, zero, suc, Bool, true, false, cond, List, [], ◌∷◌, codes, map, Option, None, Some, refl, sym}
use Rattle.std.proofs.Common.{ap, ap₂, ◌∙◌}
use Rattle.std.specs.Prelude.{nat_eq, unwrap_or}
use Rattle.std.specs.Fmt.{decimal}
use Rattle.std.specs.FinMap.{entries, same_entries_map}
use Rattle.std.specs.List.{AllByRecursion, ends_with, list_all}
use Rattle.std.proofs.lemmas.Bool.{and_parts}
use Rattle.bi_base.proofs.EqualBytes.{other_bytes}
use Rattle.bi_blob.specs.Blob.{Reservation, IsReservation}
use Rattle.bi_blob.specs.Layout.{strings_of}
use Rattle.bi_blob.specs.Tree.{Nodes, none, node, Property}
use Rattle.bi_fit.specs.ImageTree.{ImageTree}
use Rattle.bi_fit.specs.Judgement.{listed_names}
use Rattle.bi_fit.proofs.NameLists.{reads_names}
use Rattle.bi_legacy.specs.Codes.{CodeName, os_names, arch_names, type_names, compression_names, name_of_code}
use Rattle.bi_legacy.specs.Meaning.{FitsFields, LegacyImage}
use Rattle.bi_common.specs.CommonLines.{code_word, named_code, reservation_object}
use Rattle.bi_common.specs.Json.{Json, JsonMembers, JsonValues, Member, json_array, json_members, json_values}
use Rattle.bi_common.specs.Json.{json_null, json_number, json_string, array_of, object_of, no_value, next_value, no_member}
use Rattle.bi_common.specs.Json.{next_member}
use Rattle.bi_common.specs.ValueTexts.{are_quotable_texts, hexadecimal_digits, is_quotable}
use Rattle.bi_common.proofs.ReadableWords.Numbers.{same_hexadecimal_64}
use Rattle.bi_common.proofs.ReadableWords.ShownNames.{same_digits, same_shown}
use Rattle.bi_describe.specs.DescriptionJson.{digest_object, fit_object, legacy_object, node_members, node_objects, payload_or_null}
use Rattle.bi_describe.specs.DescriptionJson.{property_object}
use Rattle.bi_describe.specs.DescriptionLaws.{AreSimilarImages}
use Rattle.bi_describe.specs.Descriptions.{DescribedNode, NodePayload, NotAnImage, OfImage, PayloadDigest, described_nodes}
use Rattle.bi_describe.specs.Descriptions.{digest_of_payload}
use Rattle.bi_describe.specs.Descriptions.{plain_node}
use Rattle.bi_describe.proofs.ReadableDescriptions.CodeWords.{same_code}
use Rattle.bi_describe.proofs.ReadableDescriptions.ItemTrees.{SameParts}

-- Meanings whose descriptions are one value of JSON are similar.

-- ---- parts of a value

abbrev member_at : ℕ → JsonMembers → Json
member_at index no_member = json_null
member_at zero (next_member name value later) = value
member_at (suc index) (next_member name value later) = member_at index later

abbrev first_name : JsonMembers → List ℕ
first_name no_member = []
first_name (next_member name value later) = name

abbrev members_of : Json → JsonMembers
members_of (object_of members) = members
members_of value = no_member

abbrev value_at : ℕ → Json → Json
value_at index value = member_at index (members_of value)

abbrev string_of : Json → List ℕ
string_of (json_string bytes) = bytes
string_of value = []

abbrev number_of : Json → ℕ
number_of (json_number number) = number
number_of value = 0

abbrev values_of : Json → JsonValues
values_of (array_of values) = values
values_of value = no_value

abbrev first_value : JsonValues → Json
first_value no_value = json_null
first_value (next_value value later) = value

abbrev later_values : JsonValues → JsonValues
later_values no_value = no_value
later_values (next_value value later) = later

-- The elements of lists are read back from their values.
same_each : {X : Type 0} (f : X → Json) → ((a b : X) → f a ≡ f b → a ≡ b) → (one other : List X) →
    json_values (map f one) ≡ json_values (map f other) → one ≡ other
same_each f reads [] [] same = refl
same_each f reads [] (b ∷ other) same = absurd cc
same_each f reads (a ∷ one) [] same = absurd cc
same_each f reads (a ∷ one) (b ∷ other) same =
    ap₂ (λ x later. x ∷ later) (reads a b (ap first_value same)) (same_each f reads one other (ap later_values same))

-- ---- legacy images

same_digest : (one other : PayloadDigest) → digest_object one ≡ digest_object other → one ≡ other
same_digest one other same =
    ap₂ (λ size sha256. record { size = size; sha256 = sha256 }) (ap (λ value. number_of (value_at 0 value)) same)
    (same_digits false one.sha256 other.sha256 (ap (λ value. string_of (value_at 1 value)) same))

same_parts : (one other : List (List ℕ)) → json_values (map (λ part. digest_object (digest_of_payload part)) one)
    ≡ json_values (map (λ part. digest_object (digest_of_payload part)) other) → map digest_of_payload one ≡ map digest_of_payload other
same_parts [] [] same = refl
same_parts [] (b ∷ other) same = absurd cc
same_parts (a ∷ one) [] same = absurd cc
same_parts (a ∷ one) (b ∷ other) same =
    ap₂ (λ (digest : PayloadDigest) later. digest ∷ later) (same_digest _ _ (ap first_value same))
    (same_parts one other (ap later_values same))

-- The word of a code.
abbrev word_of : Json → List ℕ
word_of (json_string bytes) = bytes
word_of (json_number number) = decimal number
word_of value = []

word_is : (name : Option (List ℕ)) (code : ℕ) → word_of (named_code name code) ≡ unwrap_or name (decimal code)
word_is None code = refl
word_is (Some name) code = refl

words_same : (names : List CodeName) (m n : ℕ) → named_code (name_of_code names m) m ≡ named_code (name_of_code names n) n →
    code_word names m ≡ code_word names n
words_same names m n same = sym (word_is (name_of_code names m) m) ∙ ap word_of same ∙ word_is (name_of_code names n) n

pub similar_objects : (one other : LegacyImage) → FitsFields one → FitsFields other → legacy_object one ≡ legacy_object other →
    AreSimilarImages one other
similar_objects one other fits also same = record {
  name = same_shown one.name other.name (ap (λ value. string_of (value_at 1 value)) same);
  time = ap (λ value. number_of (value_at 2 value)) same;
  load = ap (λ value. number_of (value_at 3 value)) same;
  entry = ap (λ value. number_of (value_at 4 value)) same;
  os = same_code os_names one.os other.os refl fits.os also.os (words_same os_names one.os other.os (ap (value_at 5) same));
  arch = same_code arch_names one.arch other.arch refl fits.arch also.arch (words_same arch_names one.arch other.arch (ap
      (value_at 6) same));
  image_type = same_code type_names one.image_type other.image_type refl fits.image_type also.image_type
      (words_same type_names one.image_type other.image_type (ap (value_at 7) same));
  compression = same_code compression_names one.compression other.compression refl fits.compression also.compression
      (words_same compression_names one.compression other.compression (ap (value_at 8) same));
  parts = same_parts one.parts other.parts (ap (λ value. values_of (value_at 9 value)) same);
}

-- ---- flattened image trees

same_reservation : (one other : Reservation) → IsReservation one → IsReservation other → reservation_object one ≡ reservation_object other →
    one ≡ other
same_reservation one other is also same =
    ap₂ (λ address size. record { address = address; size = size })
    (same_hexadecimal_64 one.address other.address is.address_fits also.address_fits (ap (λ value. string_of (value_at 0 value)) same))
    (same_hexadecimal_64 one.size other.size is.size_fits also.size_fits (ap (λ value. string_of (value_at 1 value)) same))

same_reservations : (one other : List Reservation) → AllByRecursion IsReservation one → AllByRecursion IsReservation other →
    json_values (map reservation_object one) ≡ json_values (map reservation_object other) → one ≡ other
same_reservations [] [] are also same = refl
same_reservations [] (b ∷ other) are also same = absurd cc
same_reservations (a ∷ one) [] are also same = absurd cc
same_reservations (a ∷ one) (b ∷ other) are also same =
    ap₂ (λ (x : Reservation) later. x ∷ later) (same_reservation a b are.0 also.0 (ap first_value same))
    (same_reservations one other are.1 also.1 (ap later_values same))

same_strings : (one other : List (List ℕ)) → json_values (map json_string one) ≡ json_values (map json_string other) → one ≡ other
same_strings one other same = same_each json_string (λ a b same. ap string_of same) one other same

-- The member for a value.
abbrev value_members : Bool → List ℕ → JsonMembers
value_members b value =
    let member : Member = cond b (codes "strings", json_array (map json_string (listed_names value)))
    (codes "hex", json_string (hexadecimal_digits value)) in
    next_member member.0 member.1 no_member

same_value : (one other : List ℕ) → value_members (are_quotable_texts one) one ≡ value_members (are_quotable_texts other) other →
    one ≡ other
same_value one other same = by (are_quotable_texts one) (are_quotable_texts other) refl refl same
  where
    whole : (value : List ℕ) → are_quotable_texts value ≡ true → strings_of (listed_names value) ≡ value
    whole value is = reads_names.whole value (and_parts (ends_with nat_eq value (0 ∷ [])) (list_all is_quotable (listed_names value)) is).0

    by : (p q : Bool) → are_quotable_texts one ≡ p → are_quotable_texts other ≡ q → value_members p one ≡ value_members q other →
        one ≡ other
    by true true is also same =
        sym (whole one is)
        ∙ ap strings_of (same_strings (listed_names one) (listed_names other) (ap (λ members. values_of (member_at 0 members)) same))
        ∙ whole other also
    by false false is also same = same_digits false one other (ap (λ members. string_of (member_at 0 members)) same)
    by true false is also same = absurd (other_bytes (codes "strings") (codes "hex") refl (ap first_name same))
    by false true is also same = absurd (other_bytes (codes "hex") (codes "strings") refl (ap first_name same))

abbrev later_members : JsonMembers → JsonMembers
later_members no_member = no_member
later_members (next_member name value later) = later

same_property : (one other : Property) → property_object one ≡ property_object other → one ≡ other
same_property one other same =
    ap₂ (λ name value. (name, value)) (same_shown one.0 other.0 (ap (λ value. string_of (value_at 0 value)) same))
    (same_value one.1 other.1 (ap (λ value. later_members (members_of value)) same))

same_payload : (one other : Option PayloadDigest) → payload_or_null one ≡ payload_or_null other → one ≡ other
same_payload None None same = refl
same_payload None (Some digest) same = absurd cc
same_payload (Some digest) None same = absurd cc
same_payload (Some one) (Some other) same = ap Some (same_digest one other same)

-- What a node has besides its name, and its children.
same_own : (own other : DescribedNode) (children others : List Json) →
    json_members (node_members own children) ≡ json_members (node_members other others) →
    (own ≡ other) × (json_values children ≡ json_values others)
same_own own other children others same = by own.payload other.payload same
  where
    whole : {p q : NodePayload} → json_values (map property_object (entries own.properties))
        ≡ json_values (map property_object (entries other.properties)) → p ≡ q →
        ◌≡◌ {A = DescribedNode} (record own { payload = p }) (record other { payload = q })
    whole properties payload =
        ap₂ (λ properties payload. record { properties = properties; payload = payload })
        (same_entries_map own.properties other.properties (same_each property_object same_property (entries own.properties)
        (entries other.properties) properties)) payload

    by : (p q : NodePayload) → json_members (node_members (record own { payload = p }) children)
        ≡ json_members (node_members (record other { payload = q }) others) →
        ◌≡◌ {A = DescribedNode} (record own { payload = p }) (record other { payload = q }) × (json_values children ≡ json_values others)
    by NotAnImage NotAnImage same =
        (whole (ap (λ members. values_of (member_at 0 members)) same) refl, ap (λ members. values_of (member_at 1 members)) same)
    by (OfImage one) (OfImage two) same = (
      whole (ap (λ members. values_of (member_at 1 members)) same) (ap OfImage (same_payload one two (ap (member_at 0) same))),
      ap (λ members. values_of (member_at 2 members)) same,
    )
    by NotAnImage (OfImage two) same = absurd (other_bytes (codes "properties") (codes "payload") refl (ap first_name same))
    by (OfImage one) NotAnImage same = absurd (other_bytes (codes "payload") (codes "properties") refl (ap first_name same))

same_nodes : (one other : Nodes DescribedNode) → json_values (node_objects one) ≡ json_values (node_objects other) → one ≡ other
same_nodes none none same = refl
same_nodes none (node name own children later) same = absurd cc
same_nodes (node name own children later) none same = absurd cc
same_nodes (node name own children later) (node other_name other_own other_children other_later) same =
    let first = ap first_value same in
    let owns = same_own own other_own (node_objects children) (node_objects other_children)
    (ap (λ value. later_members (members_of value)) first) in
    let names = same_shown name other_name (ap (λ value. string_of (value_at 0 value)) first) in
    let below = same_nodes children other_children owns.1 in
    let after = same_nodes later other_later (ap later_values same) in
    whole names owns.0 below after
  where
    whole : {a b : List ℕ} {c d : DescribedNode} {e f g h : Nodes DescribedNode} → a ≡ b → c ≡ d → e ≡ f → g ≡ h →
        node a c e g ≡ node b d f h
    whole p q r s = cc

pub same_tree_parts : (one other : ImageTree) → AllByRecursion IsReservation one.reservations →
    AllByRecursion IsReservation other.reservations → fit_object one ≡ fit_object other → SameParts one other
same_tree_parts one other are also same =
    let nodes : Nodes DescribedNode = described_nodes one.root.children one.payloads in
    let other_nodes : Nodes DescribedNode = described_nodes other.root.children other.payloads in
    let root = same_own (plain_node one.root.own) (plain_node other.root.own) (node_objects nodes) (node_objects other_nodes)
    (ap (λ value. members_of (value_at 3 value)) same) in
    record {
      cpu = ap (λ value. number_of (value_at 1 value)) same;
      reservations = same_reservations one.reservations other.reservations are also
          (ap (λ value. values_of (value_at 2 value)) same);
      own = root.0;
      nodes = same_nodes nodes other_nodes root.1;
    }

-- The kinds differ.
pub kinds_apart : (one : LegacyImage) (other : ImageTree) → legacy_object one ≡ fit_object other → ⊥
kinds_apart one other same =
    other_bytes (codes "legacy") (codes "fit") refl (ap (λ value. string_of (value_at 0 value)) same)
