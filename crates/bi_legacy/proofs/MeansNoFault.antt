use Rattle.std.proofs.Common.{◌≡◌, ℕ, ◌<◌, ◌^◌, Bool, true, false, List, [], ◌∷◌, length, slice_index, arith, sym, ap, ◌∙◌, MatchBool}
use Rattle.std.proofs.Common.{if◌then◌else◌}
use Rattle.bi_base.specs.Checks.{HasNoFault}
use Rattle.bi_base.specs.Crc.{crc32}
use Rattle.bi_base.specs.Limits.{Limits}
use Rattle.bi_legacy.specs.Faults.{Passes, InPartTable, HasNoLegacyFault, body_of}
use Rattle.bi_legacy.specs.PartTables.{TablePasses, table_checks}
use Rattle.bi_legacy.specs.File.{LegacyMeans}
use Rattle.bi_legacy.specs.Meaning.{LegacyImage, has_part_table}
use Rattle.bi_legacy.specs.Parts.{HasPartTable, HoldsParts}
use Rattle.bi_legacy.proofs.HeaderReads.{magic_read, header_sum_read, size_read, data_sum_read, type_read, body_read}
use Rattle.bi_legacy.proofs.HeaderReads.{header_without_checksum_read, length-file}
use Rattle.bi_legacy.proofs.TableParts.{table_has_end, table_parts_fit}
use Rattle.bi_legacy.proofs.CheckLists.{HasNoFault-map}
use Rattle.bi_legacy.proofs.PartSlices.{ends_pass}

-- A file that has a meaning within the limits fails no check.

-- Where data holds parts, the checks of the parts pass.
parts_pass : (has_table : Bool) (body : List ℕ) (parts : List (List ℕ)) → length body < 2 ^ 32 →
    MatchBool has_table (HasPartTable parts body) (parts ≡ body ∷ []) →
    HasNoFault (TablePasses body) (if has_table then table_checks body else [])
parts_pass true body parts fits holds =
    (table_has_end parts body fits holds, ends_pass body 0 _ _ (table_parts_fit parts body fits holds))
parts_pass false body parts fits holds = tt

-- A file that means an image within the limits fails no check.
pub means_no_fault : (file : List ℕ) (image : LegacyImage) (limits : Limits) → LegacyMeans limits file image → HasNoLegacyFault limits file
means_no_fault file image limits means =
    let is = means.is_file in
    let body = body_read file image is in
    let size = size_read file image is in
    let long = length-file file image is in
    let held : HoldsParts (slice_index file 30) (body_of file) image.parts = rw (body, type_read file image is) is.parts in
    let sum = header_sum_read file image is ∙ ap crc32 (sym (header_without_checksum_read file image is)) in
    let data_sum = data_sum_read file image is ∙ ap crc32 (sym body) in
    let parts = HasNoFault-map (Passes limits file) InPartTable _
    (parts_pass (has_part_table (slice_index file 30)) (body_of file) image.parts (rw body is.size) held) in
    (means.short, (omega arith, (magic_read file image is, (omega arith, (sum, (omega arith, (data_sum, parts)))))))
