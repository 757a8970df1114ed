use Rattle.std.proofs.Common.{◌≡◌, ℕ, List, [], ◌∷◌, ◌++◌, codes, map, refl, sym, ap, ap₂, ◌∙◌, append_assoc}
use Rattle.bi_fdt.specs.Content.{Blob}
use Rattle.bi_fit.specs.Content.{FitModel, tree_of}
use Rattle.bi_legacy.specs.declared.fields.Fields.{Fields}
use Rattle.bi_legacy.specs.Meaning.{LegacyImage, image_of}
use Rattle.bi_common.specs.CommonLines.{header_members, reservation_line}
use Rattle.bi_common.specs.Json.{Json, Member, json_array, json_object}
use Rattle.bi_common.specs.JsonTokens.{JsonToken, BeginObject, EndObject, json_tokens, member_tokens, one}
use Rattle.bi_common.specs.Lines.{Line}
use Rattle.bi_common.proofs.WrittenTokens.{member_tokens-append}
use Rattle.bi_describe.specs.declared.describe.entries.Entry.{Entry}
use Rattle.bi_describe.specs.declared.describe.part.DescribedPart.{DescribedPart}
use Rattle.bi_describe.specs.MadeParts.{bytes_of_parts, digest_of_part}
use Rattle.bi_describe.specs.ReadDescription.{described_parts_member, read_legacy_lines, read_legacy_tokens, read_lines, read_tokens}
use Rattle.bi_describe.specs.DescriptionJson.{digest_object, fit_object, legacy_object}
use Rattle.bi_describe.specs.Descriptions.{digest_of_payload, fit_lines, head_lines, legacy_lines}
use Rattle.bi_describe.specs.TreeEntries.{as_entry, tree_entries}
use Rattle.bi_describe.proofs.EntryTokens.{tokens_of_tree}
use Rattle.bi_describe.proofs.TreeLines.{lines_of_tree}

-- What a description is made from has the lines and the tokens of the description.

-- The digests of parts are those of their bytes.
pub digests_of_bytes : (parts : List DescribedPart) → map digest_of_part parts ≡ map digest_of_payload (bytes_of_parts parts)
digests_of_bytes [] = refl
digests_of_bytes (part ∷ later) = ap (λ digests. digest_of_part part ∷ digests) (digests_of_bytes later)

pub digests_of_parts_are : (parts : List DescribedPart) (image : LegacyImage) → bytes_of_parts parts ≡ image.parts →
    map digest_of_part parts ≡ map digest_of_payload image.parts
digests_of_parts_are parts image is = digests_of_bytes parts ∙ ap (map digest_of_payload) is

-- The objects of parts are those of their digests.
objects_of_parts : (parts : List (List ℕ)) →
    map digest_object (map digest_of_payload parts) ≡ map (λ part. digest_object (digest_of_payload part)) parts
objects_of_parts [] = refl
objects_of_parts (part ∷ later) = ap (λ (objects : List Json). digest_object (digest_of_payload part) ∷ objects) (objects_of_parts later)

-- A legacy image with these fields, and parts of these digests.
pub legacy_lines_are : (fields : Fields) (image : LegacyImage) (parts : List DescribedPart) → image_of fields image.parts ≡ image →
    map digest_of_part parts ≡ map digest_of_payload image.parts →
    read_legacy_lines (image_of fields []) (map digest_of_part parts) ≡ legacy_lines image
legacy_lines_are fields image parts is digests =
    ap (read_legacy_lines (image_of fields [])) digests
    ∙ ap (λ (own : LegacyImage). read_legacy_lines own (map digest_of_payload image.parts)) is

legacy_in_parts : (image : LegacyImage) → read_legacy_tokens image (map digest_of_payload image.parts) ≡ json_tokens (legacy_object image)
legacy_in_parts image =
    let parts : List Member = described_parts_member (map digest_of_payload image.parts) ∷ [] in
    ap (λ (tokens : List JsonToken). one BeginObject ++ tokens)
    (sym (append_assoc (member_tokens (header_members image)) (member_tokens parts) (one EndObject))
    ∙ ap (λ (tokens : List JsonToken). tokens ++ one EndObject) (sym (member_tokens-append (header_members image) parts)))
    ∙ ap (λ (objects : List Json). json_tokens (json_object (header_members image ++ (codes "parts", json_array objects) ∷ [])))
    (objects_of_parts image.parts)

pub legacy_tokens_are : (fields : Fields) (image : LegacyImage) (parts : List DescribedPart) → image_of fields image.parts ≡ image →
    map digest_of_part parts ≡ map digest_of_payload image.parts →
    read_legacy_tokens (image_of fields []) (map digest_of_part parts) ≡ json_tokens (legacy_object image)
legacy_tokens_are fields image parts is digests =
    ap (read_legacy_tokens (image_of fields [])) digests
    ∙ ap (λ (own : LegacyImage). read_legacy_tokens own (map digest_of_payload image.parts)) is
    ∙ legacy_in_parts image

-- A flattened image tree with this blob and these entries.
pub fit_lines_are : (content : FitModel) (blob : Blob) (made : List Entry) → blob ≡ content.blob →
    map as_entry made ≡ tree_entries (tree_of content) → read_lines blob (map as_entry made) ≡ fit_lines (tree_of content)
fit_lines_are content blob made is entries_are =
    ap₂ read_lines is entries_are
    ∙ ap (λ (lines : List Line). head_lines content.blob.cpu ++ (map reservation_line content.blob.reservations ++ lines))
    (lines_of_tree (tree_of content))

pub fit_tokens_are : (content : FitModel) (blob : Blob) (made : List Entry) → blob ≡ content.blob →
    map as_entry made ≡ tree_entries (tree_of content) → read_tokens blob (map as_entry made) ≡ json_tokens (fit_object (tree_of content))
fit_tokens_are content blob made is entries_are = ap₂ read_tokens is entries_are ∙ tokens_of_tree content
