use Rattle.std.proofs.Common.{◌≡◌, ℕ, false, List, [], ◌∷◌, ◌++◌, Option, None, Some, append-nil, bytes_eq, codes, drop, map, refl, ap}
use Rattle.std.proofs.Common.{◌<◌, ◌+◌, get_or, length, sym, take, ◌∙◌}
use Rattle.std.proofs.lemmas.Grind.{flat_map-append}
use Rattle.std.proofs.lemmas.List.{drop_more}
use Rattle.bi_blob.specs.Blob.{Reservation}
use Rattle.bi_blob.specs.Tree.{Root}
use Rattle.bi_fdt.specs.Content.{Blob}
use Rattle.bi_legacy.specs.Codes.{arch_names, compression_names, name_of_code, os_names, type_names}
use Rattle.bi_legacy.specs.Meaning.{LegacyImage, image_of}
use Rattle.bi_common.specs.CommonLines.{header_code_lines, header_field_lines, header_lines, named_field, reservation_line}
use Rattle.bi_common.specs.LineTokens.{LineToken, line_tokens, tokens_of_lines}
use Rattle.bi_common.specs.Lines.{Line, Text}
use Rattle.bi_describe.specs.declared.describe.kept.legacy.KeptLegacy.{KeptLegacy}
use Rattle.bi_describe.specs.declared.describe.kept.legacy.KeptPart.{KeptPart}
use Rattle.bi_describe.specs.ComparedNodes.{ComparedNode}
use Rattle.bi_describe.specs.DeepDescriptions.{InsidesShown, line_at, lines_with_inside, place_of_line}
use Rattle.bi_describe.specs.Descriptions.{head_lines, part_line}
use Rattle.bi_describe.specs.Ignoring.{OfPart}
use Rattle.bi_describe.specs.MadeParts.{digest_of_part}
use Rattle.bi_describe.specs.KeptEntries.{root_entries}
use Rattle.bi_describe.specs.KeptImages.{IsKeptLegacy, numbered_part}
use Rattle.bi_describe.specs.ReadDescription.{root_lines}
use Rattle.bi_describe.specs.ReducedMeanings.{ReducedLegacy, ReducedTree, fields_alone, reduced_header_lines, reduced_legacy_lines}
use Rattle.bi_describe.specs.ReducedMeanings.{reduced_part_lines, reduced_root_lines, reduced_tree_lines, time_lines}
use Rattle.bi_describe.specs.TreeEntries.{EntryModel}
use Rattle.bi_describe.proofs.DeepFacts.{deep_tokens-append}
use Rattle.bi_describe.proofs.TreeLines.{reduced_lines_are}

-- The lines before parts and before a tree are about no payload.

code_alone : (shown : InsidesShown) (key : List ℕ) (name : Option (List ℕ)) (code : ℕ) → bytes_eq key (codes "part") ≡ false →
    line_at shown (place_of_line (Text key ∷ named_field name code ∷ [])) (Text key ∷ named_field name code ∷ [])
    ≡ (Text key ∷ named_field name code ∷ []) ∷ []
code_alone shown key None code is = rw is refl
code_alone shown key (Some name) code is = refl

codes_alone : (shown : InsidesShown) (image : LegacyImage) → lines_with_inside shown (header_code_lines image) ≡ header_code_lines image
codes_alone shown image =
    let os = code_alone shown (codes "os") (name_of_code os_names image.os) image.os refl in
    let arch = code_alone shown (codes "arch") (name_of_code arch_names image.arch) image.arch refl in
    let kind = code_alone shown (codes "type") (name_of_code type_names image.image_type) image.image_type refl in
    let compression = code_alone shown (codes "compression") (name_of_code compression_names image.compression) image.compression refl in
    (λ i. os i ++ (arch i ++ (kind i ++ (compression i ++ []))))

header_alone : (shown : InsidesShown) (image : LegacyImage) → lines_with_inside shown (header_lines image) ≡ header_lines image
header_alone shown image = ap (λ (lines : List Line). header_field_lines image ++ lines) (codes_alone shown image)

-- The lines before those of the codes.
abbrev reduced_fields : LegacyImage → (time : List Line) → List Line
reduced_fields image time = take 2 (header_field_lines image) ++ (time ++ drop 3 (header_field_lines image))

reduced_header_alone : (shown : InsidesShown) (image : LegacyImage) (time : Option ℕ) →
    lines_with_inside shown (reduced_header_lines image time) ≡ reduced_header_lines image time
reduced_header_alone shown image None = ap (λ (lines : List Line). reduced_fields image [] ++ lines) (codes_alone shown image)
reduced_header_alone shown image (Some time) =
    ap (λ (lines : List Line). reduced_fields image (time_lines (Some time)) ++ lines) (codes_alone shown image)

reservations_alone : (shown : InsidesShown) (reservations : List Reservation) →
    lines_with_inside shown (map reservation_line reservations) ≡ map reservation_line reservations
reservations_alone shown [] = refl
reservations_alone shown (reservation ∷ later) =
    ap (λ (lines : List Line). reservation_line reservation ∷ lines) (reservations_alone shown later)

-- ---- tokens

pub legacy_apart : (shown : InsidesShown) (image : LegacyImage) (parts : List Line) →
    tokens_of_lines (lines_with_inside shown (header_lines image ++ parts))
    ≡ tokens_of_lines (header_lines image) ++ tokens_of_lines (lines_with_inside shown parts)
legacy_apart shown image parts =
    deep_tokens-append shown (header_lines image) parts
    ∙ ap (λ (lines : List Line). tokens_of_lines lines ++ tokens_of_lines (lines_with_inside shown parts)) (header_alone shown image)

pub reduced_legacy_apart : (shown : InsidesShown) (image : LegacyImage) (time : Option ℕ) (parts : List Line) →
    tokens_of_lines (lines_with_inside shown (reduced_header_lines image time ++ parts))
    ≡ tokens_of_lines (reduced_header_lines image time) ++ tokens_of_lines (lines_with_inside shown parts)
reduced_legacy_apart shown image time parts =
    deep_tokens-append shown (reduced_header_lines image time) parts
    ∙ ap (λ (lines : List Line). tokens_of_lines lines ++ tokens_of_lines (lines_with_inside shown parts))
    (reduced_header_alone shown image time)

pub tree_apart : (shown : InsidesShown) (cpu : ℕ) (reservations : List Reservation) (nodes : List Line) →
    tokens_of_lines (lines_with_inside shown (head_lines cpu ++ (map reservation_line reservations ++ nodes)))
    ≡ tokens_of_lines (head_lines cpu)
    ++ (tokens_of_lines (map reservation_line reservations) ++ tokens_of_lines (lines_with_inside shown nodes))
tree_apart shown cpu reservations nodes =
    deep_tokens-append shown (head_lines cpu) (map reservation_line reservations ++ nodes)
    ∙ ap (λ (tokens : List LineToken). tokens_of_lines (head_lines cpu) ++ tokens)
    (deep_tokens-append shown (map reservation_line reservations) nodes
    ∙ ap (λ (lines : List Line). tokens_of_lines lines ++ tokens_of_lines (lines_with_inside shown nodes))
    (reservations_alone shown reservations))

-- The lines of what stays of a legacy image, and of a tree, as they are put.
pub kept_legacy_lines : (shown : InsidesShown) (image : ReducedLegacy) (made : KeptLegacy) → IsKeptLegacy image made →
    tokens_of_lines (reduced_header_lines (fields_alone (image_of made.fields [])) made.time)
    ++ tokens_of_lines (lines_with_inside shown (reduced_part_lines (map numbered_part made.parts.items)))
    ≡ tokens_of_lines (lines_with_inside shown (reduced_legacy_lines image))
kept_legacy_lines shown image made is =
    sym (reduced_legacy_apart shown (fields_alone (image_of made.fields [])) made.time
    (reduced_part_lines (map numbered_part made.parts.items)))
    ∙ (λ i. tokens_of_lines (lines_with_inside shown
    (reduced_header_lines (is.fields i) (is.time i) ++ reduced_part_lines (is.parts i))))

pub kept_tree_lines : (shown : InsidesShown) (tree : ReducedTree) (blob : Blob) (entries : List EntryModel) → blob.cpu ≡ tree.cpu →
    blob.reservations ≡ tree.reservations → Some entries ≡ root_entries tree.root →
    tokens_of_lines (head_lines blob.cpu)
    ++ (tokens_of_lines (map reservation_line blob.reservations) ++ tokens_of_lines (lines_with_inside shown (root_lines entries)))
    ≡ tokens_of_lines (lines_with_inside shown (reduced_tree_lines tree))
kept_tree_lines shown tree blob entries cpu reservations is =
    sym (tree_apart shown blob.cpu blob.reservations (root_lines entries))
    ∙ ap (λ (lines : List Line). tokens_of_lines (lines_with_inside shown lines))
    (reduced_lines_are tree blob entries cpu reservations is)

-- If the root is left out, there are only the lines before it.
pub kept_head_lines : (shown : InsidesShown) (tree : ReducedTree) (cpu : ℕ) (reservations : List Reservation) → cpu ≡ tree.cpu →
    reservations ≡ tree.reservations → None ≡ root_entries tree.root →
    tokens_of_lines (head_lines cpu) ++ tokens_of_lines (map reservation_line reservations)
    ≡ tokens_of_lines (lines_with_inside shown (reduced_tree_lines tree))
kept_head_lines shown tree cpu reservations is also none = by tree.root none
  where
    by : (root : Option (Root ComparedNode)) → None ≡ root_entries root →
        tokens_of_lines (head_lines cpu) ++ tokens_of_lines (map reservation_line reservations)
        ≡ tokens_of_lines (lines_with_inside shown
        (head_lines tree.cpu ++ (map reservation_line tree.reservations ++ reduced_root_lines root)))
    by None none =
        ap (λ (tokens : List LineToken). tokens_of_lines (head_lines cpu) ++ tokens)
        (sym (append-nil (tokens_of_lines (map reservation_line reservations))))
        ∙ sym (tree_apart shown cpu reservations [])
        ∙ (λ i. tokens_of_lines (lines_with_inside shown (head_lines (is i) ++ (map reservation_line (also i) ++ []))))
    by (Some root) none = absurd cc

-- The lines of a part are put before those of the later ones.
pub part_before : (shown : InsidesShown) (parts : List KeptPart) (index : ℕ) (part : KeptPart) → part ≡ get_or parts index part →
    index < length parts →
    tokens_of_lines (lines_with_inside shown (reduced_part_lines (map numbered_part (drop index parts))))
    ≡ tokens_of_lines (line_at shown (Some (OfPart part.index)) (part_line part.index (digest_of_part part.part)))
    ++ tokens_of_lines (lines_with_inside shown (reduced_part_lines (map numbered_part (drop (index + 1) parts))))
part_before shown parts index part is within =
    ap (λ (parts : List KeptPart). tokens_of_lines (lines_with_inside shown (reduced_part_lines (map numbered_part parts))))
    (drop_more parts index part within ∙ ap (λ item. item ∷ drop (index + 1) parts) (sym is))
    ∙ flat_map-append line_tokens (line_at shown (Some (OfPart part.index)) (part_line part.index (digest_of_part part.part)))
    (lines_with_inside shown (reduced_part_lines (map numbered_part (drop (index + 1) parts))))
