use Rattle.std.specs.Prelude.{ℕ, List, [], ◌∷◌, ◌++◌, codes, map}
use Rattle.bi_fdt.specs.Content.{Blob}
use Rattle.bi_legacy.specs.Meaning.{LegacyImage}
use Rattle.bi_common.specs.CommonLines.{header_lines, header_members, reservation_line}
use Rattle.bi_common.specs.CommonLines.{reservations_member}
use Rattle.bi_common.specs.Json.{Member, json_array, json_number, json_string}
use Rattle.bi_common.specs.JsonTokens.{JsonToken, BeginObject, EndObject, member_tokens, one}
use Rattle.bi_common.specs.Lines.{Line}
use Rattle.bi_describe.specs.DescriptionJson.{digest_object}
use Rattle.bi_describe.specs.Descriptions.{PayloadDigest, head_lines, node_line, part_lines}
use Rattle.bi_describe.specs.EntryTokens.{root_tokens}
use Rattle.bi_describe.specs.TreeEntries.{EntryModel, entry_lines}

-- The description of a boot image, by what reading it returned.

-- The lines of a tree with these entries, the root first.
abbrev pub root_lines : List EntryModel → List Line
root_lines entries = node_line [] ∷ entry_lines [] entries

-- The lines of a flattened image tree whose blob is this, and whose tree has these entries.
abbrev pub read_lines : Blob → List EntryModel → List Line
read_lines blob entries =
    head_lines blob.cpu ++ (map reservation_line blob.reservations ++ root_lines entries)

-- The lines of a legacy image with these fields, and parts of these digests.
abbrev pub read_legacy_lines : LegacyImage → List PayloadDigest → List Line
read_legacy_lines image parts = header_lines image ++ part_lines 0 parts

-- The members of a flattened image tree before its memory reservations.
abbrev pub processor_members : (cpu : ℕ) → List Member
processor_members cpu =
    (codes "kind", json_string (codes "fit")) ∷ (codes "boot_cpu", json_number cpu) ∷ []

-- The tokens of a flattened image tree whose blob is this, and whose tree has these entries.
abbrev pub read_tokens : Blob → List EntryModel → List JsonToken
read_tokens blob entries =
    one BeginObject
    ++ (member_tokens (processor_members blob.cpu)
    ++ (member_tokens (reservations_member blob.reservations ∷ [])
    ++ (root_tokens entries ++ one EndObject)))

-- The member for parts of these digests.
abbrev pub described_parts_member : List PayloadDigest → Member
described_parts_member parts = (codes "parts", json_array (map digest_object parts))

-- The tokens of a legacy image with these fields, and parts of these digests.
abbrev pub read_legacy_tokens : LegacyImage → List PayloadDigest → List JsonToken
read_legacy_tokens image parts =
    one BeginObject
    ++ (member_tokens (header_members image) ++ (member_tokens (described_parts_member parts ∷ [])
    ++ one EndObject))

-- The members of a devicetree before its root.
abbrev pub blob_members : Blob → List Member
blob_members blob =
    (codes "boot_cpu", json_number blob.cpu) ∷ reservations_member blob.reservations ∷ []
