use Rattle.std.proofs.Common.{◌≡◌, ◌<◌, ◌≤◌, true, false, length, arith, refl, sym}
use Rattle.std.proofs.lemmas.Result.{err_from_is_err_and}
use Rattle.bi_legacy.specs.Emitting.{image_of_parts}
use Rattle.bi_legacy.specs.Meaning.{has_part_table}
use Rattle.bi_legacy.specs.Text.{legacy_text}
use Rattle.bi_legacy.proofs.EmitFaults.{length-text, count-bytes_of, part_table-within, can_be_written, fault_in_parts, text_too_long}
use Rattle.bi_legacy.proofs.emitting.check_image.Goals as goal

pub returns-in_default-clause-fault : goal.returns-in_default-clause-fault
returns-in_default-clause-fault c =
    let image = image_of_parts c.args.fields c.args.parts.now in
    let name = c.if-not-is_image_name.ensures.0 refl in
    let count = count-bytes_of (has_part_table image.image_type) c.args.parts.now (c.if-not-can_have_parts.ensures.0 refl) in
    let long : c.args.limits.file < length (legacy_text image) = omega (arith, length-text image name, c.in_default.ensures) in
    rw (c.refuse-in_default.ensures, c.file-in_default.ensures.value) (text_too_long image c.args.limits name count long)

pub check_parts-requires : goal.check_parts-requires
check_parts-requires c =
    let is_table : has_part_table c.args.fields.image_type ≡ true = sym c.if-has_part_table.ensures in
    omega (arith, part_table-within c.args.fields.image_type c.args.parts.now is_table, c.in-Some.ensures)

pub returns-in_err-check_parts-clause-fault : goal.returns-in_err-check_parts-clause-fault
returns-in_err-check_parts-clause-fault c =
    let image = image_of_parts c.args.fields c.args.parts.now in
    let name = c.if-not-is_image_name.ensures.0 refl in
    let count = count-bytes_of (has_part_table image.image_type) c.args.parts.now (c.if-not-can_have_parts.ensures.0 refl) in
    let short : length (legacy_text image) ≤ c.args.limits.file = omega (arith, length-text image name, c.in-Some.ensures) in
    let p = err_from_is_err_and c.from_residual.result c.from_residual.ensures.1 in
    rw (p.1, p.2) (fault_in_parts image c.args.limits true _ name count short
    (sym c.if-has_part_table.ensures) c.in_err-check_parts.ensures.fault)

pub returns-in_ok-check_parts-clause-ok : goal.returns-in_ok-check_parts-clause-ok
returns-in_ok-check_parts-clause-ok c =
    let image = image_of_parts c.args.fields c.args.parts.now in
    let name = c.if-not-is_image_name.ensures.0 refl in
    let count = count-bytes_of (has_part_table image.image_type) c.args.parts.now (c.if-not-can_have_parts.ensures.0 refl) in
    let short : length (legacy_text image) ≤ c.args.limits.file = omega (arith, length-text image name, c.in-Some.ensures) in
    can_be_written image c.args.limits true name count short (sym c.if-has_part_table.ensures) c.in_ok-check_parts.ensures.ok

pub returns-else-has_part_table-clause-ok : goal.returns-else-has_part_table-clause-ok
returns-else-has_part_table-clause-ok c =
    let image = image_of_parts c.args.fields c.args.parts.now in
    let name = c.if-not-is_image_name.ensures.0 refl in
    let count = count-bytes_of (has_part_table image.image_type) c.args.parts.now (c.if-not-can_have_parts.ensures.0 refl) in
    let short : length (legacy_text image) ≤ c.args.limits.file = omega (arith, length-text image name, c.in-Some.ensures) in
    can_be_written image c.args.limits false name count short (sym c.if-has_part_table.ensures) tt
