use Rattle.std.proofs.Common.{◌≡◌, ℕ, ◌<◌, ◌^◌, ◌==◌, Bool, true, false, cond, not, List, [], ◌∷◌, bytes_eq, codes, length, map, None}
use Rattle.std.proofs.Common.{Some, refl, arith}
use Rattle.std.specs.FinMap.{entries}
use Rattle.std.specs.List.{AllByRecursion, list_all}
use Rattle.std.proofs.lemmas.Bool.{and_parts}
use Rattle.bi_base.specs.Cells.{AreBytes, cell8}
use Rattle.bi_base.specs.Limits.{Limits}
use Rattle.bi_base.proofs.ByteLists.{AreBytes-cell8}
use Rattle.bi_blob.specs.Blob.{Reservation}
use Rattle.bi_blob.specs.Tree.{Nodes, none, node, Property}
use Rattle.bi_fit.specs.File.{IsFitFile}
use Rattle.bi_fit.specs.ImageTree.{ImageTree}
use Rattle.bi_fit.specs.Judgement.{listed_names}
use Rattle.bi_fit.proofs.TextLaws.{file_means_image_tree}
use Rattle.bi_fit.proofs.TreeContents.{AreBlobProperties}
use Rattle.bi_legacy.specs.Codes.{CodeName, os_names, arch_names, type_names, compression_names, name_of_code}
use Rattle.bi_legacy.specs.Meaning.{LegacyImage}
use Rattle.bi_legacy.specs.Text.{IsLegacyImage}
use Rattle.bi_legacy.proofs.ImageOfFile.{image_of_file}
use Rattle.bi_norm.specs.Meaning.{Meaning, OfLegacy, OfFit, Means}
use Rattle.bi_common.specs.CommonLines.{named_code, reservation_object}
use Rattle.bi_common.specs.Json.{Json, Member, json_array, json_members, json_string, json_values}
use Rattle.bi_common.specs.Shown.{hexadecimal_64}
use Rattle.bi_common.specs.ValueTexts.{are_quotable_texts, hexadecimal_digits, is_printable, is_quotable}
use Rattle.bi_common.proofs.JsonSizes.{part_sizes_small}
use Rattle.bi_common.proofs.JsonTexts.{json_lines_are_json}
use Rattle.bi_common.proofs.PrintedTexts.{ArePrinted, known_printed}
use Rattle.bi_common.proofs.PrintedWords.{digits_of_bytes, name_printed}
use Rattle.bi_describe.specs.DescriptionJson.{digest_object, digest_object_with, fit_object, fit_object_with, legacy_object}
use Rattle.bi_describe.specs.DescriptionJson.{legacy_object_with, meaning_object, node_members, node_members_with, node_objects_with}
use Rattle.bi_describe.specs.DescriptionJson.{property_object, value_member}
use Rattle.bi_describe.specs.Descriptions.{PayloadDigest, NodePayload, NotAnImage, OfImage, DescribedNode, described_nodes}
use Rattle.bi_describe.specs.Descriptions.{digest_of_payload}
use Rattle.bi_describe.specs.Descriptions.{plain_node}
use Rattle.bi_describe.specs.JsonLaws.{DescriptionsAreJson}
use Rattle.bi_describe.proofs.JsonReading.{AreSmall, CanReadMembers, CanReadValue, CanReadValues, has_numbers, is_small, known_small}
use Rattle.bi_describe.proofs.ShownNodes.{AreShown, IsShownDigest, IsShownPayload, all_shown, digest_shown, root_shown}

-- The JSON of a description can be read back, and each description in JSON is JSON.

-- ---- strings

printed_small : (text : List ℕ) → ArePrinted text → AreSmall text
printed_small [] are = tt
printed_small (byte ∷ later) are = (let low = are.0.1 in omega (arith, low), printed_small later are.1)

digits_small : (bytes : List ℕ) → AreBytes bytes → AreSmall (hexadecimal_digits bytes)
digits_small bytes are = printed_small (hexadecimal_digits bytes) (digits_of_bytes bytes are)

address_small : (number : ℕ) → AreSmall (hexadecimal_64 number)
address_small number = (omega arith, (omega arith, digits_small (cell8 number) (AreBytes-cell8 number)))

texts_read : (texts : List (List ℕ)) → list_all is_quotable texts ≡ true → CanReadValues (json_values (map json_string texts))
texts_read [] are = tt
texts_read (text ∷ later) are =
    let both = and_parts (is_quotable text) (list_all is_quotable later) are in
    let printable = and_parts (not (bytes_eq text [])) (list_all is_printable text) both.0 in
    (printed_small text (known_printed text printable.1), texts_read later both.1)

-- ---- legacy images

abbrev HasSmallNames : List CodeName → Type 0
HasSmallNames names = list_all (λ (name : CodeName). is_small name.name) names ≡ true

code_read : (names : List CodeName) → HasSmallNames names → (code : ℕ) → code < 2 ^ 8 →
    CanReadValue (named_code (name_of_code names code) code)
code_read [] are code small = omega (arith, small)
code_read (entry ∷ later) are code small = by (entry.code == code) (code_read later first.1 code small)
  where
    first : (is_small entry.name ≡ true) × HasSmallNames later
    first = and_parts (is_small entry.name) (list_all (λ (name : CodeName). is_small name.name) later) are

    by : (b : Bool) → CanReadValue (named_code (name_of_code later code) code) →
        CanReadValue (named_code (cond b (Some entry.name) (name_of_code later code)) code)
    by true rest = known_small entry.name first.0
    by false rest = rest

pub digest_read_with : (later : List Member) (digest : PayloadDigest) → IsShownDigest digest → CanReadMembers (json_members later) →
    CanReadValue (digest_object_with later digest)
digest_read_with later digest shown can = (refl, (shown.small, (refl, (digits_small digest.sha256 shown.bytes, can))))

digest_read : (digest : PayloadDigest) → IsShownDigest digest → CanReadValue (digest_object digest)
digest_read digest shown = digest_read_with [] digest shown tt

parts_read : (parts : List (List ℕ)) → AllByRecursion (λ (part : List ℕ). length part < 2 ^ 64) parts →
    CanReadValues (json_values (map (λ part. digest_object (digest_of_payload part)) parts))
parts_read [] small = tt
parts_read (part ∷ later) small = (digest_read (digest_of_payload part) (digest_shown part small.0), parts_read later small.1)

pub legacy_read_with : (parts : List Json) (image : LegacyImage) → IsLegacyImage image → CanReadValues (json_values parts) →
    CanReadValue (legacy_object_with parts image)
legacy_read_with parts image is can = (
  refl,
  (
    known_small (codes "legacy") refl,
    (
      refl,
      (
        printed_small _ (name_printed image.name is.name_bytes),
        (
          refl,
          (
            omega (arith, is.ranges.time),
            (
              refl,
              (
                omega (arith, is.ranges.load),
                (
                  refl,
                  (
                    omega (arith, is.ranges.entry),
                    (
                      refl,
                      (
                        code_read os_names refl image.os is.ranges.os,
                        (
                          refl,
                          (
                            code_read arch_names refl image.arch is.ranges.arch,
                            (
                              refl,
                              (
                                code_read type_names refl image.image_type is.ranges.image_type,
                                (
                                  refl,
                                  (
                                    code_read compression_names refl image.compression is.ranges.compression,
                                    (refl, (can, tt)),
                                  ),
                                ),
                              ),
                            ),
                          ),
                        ),
                      ),
                    ),
                  ),
                ),
              ),
            ),
          ),
        ),
      ),
    ),
  ),
)

legacy_read : (image : LegacyImage) → IsLegacyImage image → CanReadValue (legacy_object image)
legacy_read image is =
    legacy_read_with (map (λ part. digest_object (digest_of_payload part)) image.parts) image is
    (parts_read image.parts (part_sizes_small image is))

-- ---- flattened image trees

value_read : (value : List ℕ) → AreBytes value → CanReadMembers (json_members (value_member value ∷ []))
value_read value bytes = by (are_quotable_texts value) refl
  where
    by : (b : Bool) → are_quotable_texts value ≡ b → CanReadMembers
        (json_members (cond b (codes "strings", json_array (map json_string (listed_names value)))
        (codes "hex", json_string (hexadecimal_digits value)) ∷ []))
    by true is = (refl, (texts_read (listed_names value) (and_parts _ (list_all is_quotable (listed_names value)) is).1, tt))
    by false is = (refl, (digits_small value bytes, tt))

properties_read : (properties : List Property) → AreBlobProperties properties → CanReadValues (json_values (map property_object properties))
properties_read [] good = tt
properties_read (property ∷ later) good = (
  (refl, (printed_small _ (name_printed property.0 good.0.name_bytes), value_read property.1 good.0.value_bytes)),
  properties_read later good.1,
)

pub own_read_with : (later : List Member) (own : DescribedNode) (children : List Json) → CanReadMembers (json_members later) →
    AreBlobProperties (entries own.properties) → IsShownPayload own.payload → CanReadValues (json_values children) →
    CanReadMembers (json_members (node_members_with later own children))
own_read_with later own children can_later good shown can = by own.payload shown
  where
    lasts : CanReadMembers (json_members (node_members (plain_node own.properties) children))
    lasts = (refl, (properties_read (entries own.properties) good, (refl, (can, tt))))

    by : (payload : NodePayload) → IsShownPayload payload →
        CanReadMembers (json_members (node_members_with later (record own { payload = payload }) children))
    by NotAnImage shown = lasts
    by (OfImage None) shown = (refl, (tt, lasts))
    by (OfImage (Some digest)) shown = (refl, (digest_read_with later digest shown can_later, lasts))

pub nodes_read_with : (inside : List ℕ → List Member) → ((name : List ℕ) → CanReadMembers (json_members (inside name))) →
    (nodes : Nodes DescribedNode) → AreShown nodes → CanReadValues (json_values (node_objects_with inside nodes))
nodes_read_with inside can none shown = tt
nodes_read_with inside can (node name own children later) shown = (
  (
    refl,
    (
      printed_small _ (name_printed name shown.0.name_bytes),
      own_read_with (inside name) own (node_objects_with inside children) (can name) shown.0.properties shown.0.payload
          (nodes_read_with inside can children shown.1),
    ),
  ),
  nodes_read_with inside can later shown.2,
)

pub reservations_read : (reservations : List Reservation) → CanReadValues (json_values (map reservation_object reservations))
reservations_read [] = tt
reservations_read (reservation ∷ later) =
    ((refl, (address_small reservation.address, (refl, (address_small reservation.size, tt)))), reservations_read later)

pub fit_read_with : (inside : List ℕ → List Member) → ((name : List ℕ) → CanReadMembers (json_members (inside name))) →
    (file : List ℕ) (tree : ImageTree) → IsFitFile file tree → CanReadValue (fit_object_with inside tree)
fit_read_with inside can file tree is =
    let nodes : Nodes DescribedNode = described_nodes tree.root.children tree.payloads in
    let good = file_means_image_tree file tree is in
    let root = own_read_with [] (plain_node tree.root.own) (node_objects_with inside nodes) tt (root_shown file tree is) tt
    (nodes_read_with inside can nodes (all_shown file tree is)) in (
      refl,
      (
        known_small (codes "fit") refl,
        (
          refl,
          (
            omega (arith, good.cpu_fits),
            (refl, (reservations_read tree.reservations, (refl, (root, tt)))),
          ),
        ),
      ),
    )

fit_read : (file : List ℕ) (tree : ImageTree) → IsFitFile file tree → CanReadValue (fit_object tree)
fit_read file tree is = fit_read_with (λ name. []) (λ name. tt) file tree is

-- The JSON of the description of what a file means.
pub can_read : (limits : Limits) (file : List ℕ) (meaning : Meaning) → Means limits file meaning → CanReadValue (meaning_object meaning)
can_read limits file (OfLegacy image) means = legacy_read image (image_of_file file image means.is_file)
can_read limits file (OfFit tree) means = fit_read file tree means.is_file

pub descriptions_are_json : DescriptionsAreJson
descriptions_are_json limits file meaning range means =
    json_lines_are_json (meaning_object meaning) (has_numbers (meaning_object meaning) (can_read limits file meaning means))
