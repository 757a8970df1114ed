use Rattle.std.proofs.Common.{◌≡◌, ap, slice_index}
use Rattle.std.proofs.lemmas.Result.{err_from_is_err_and}
use Rattle.bi_legacy.specs.Meaning.{LegacyImage}
use Rattle.bi_legacy.proofs.CheckLists.{header_and_body_pass, fault_in_body}
use Rattle.bi_legacy.proofs.legacy.parse.Goals as goal

pub returns-in_err-table-clause-fault : goal.returns-in_err-table-clause-fault
returns-in_err-table-clause-fault c =
    let type_is : c.fields_of-fields.result.image_type
    ≡ slice_index c.args.file.now 30 = ap (λ (i : LegacyImage). i.image_type) c.fields_of-fields.ensures in
    let p = err_from_is_err_and c.from_residual-in_err-table.result c.from_residual-in_err-table.ensures.1 in
    rw (p.1, p.2) (fault_in_body c.args.file.now c.args.limits _ _ _ type_is c.body_at-body.ensures c.in_ok-check_header.ensures.ok
    c.in_err-table.ensures.fault)

pub returns-clause-no_fault : goal.returns-clause-no_fault
returns-clause-no_fault c =
    let type_is : c.fields_of-fields.result.image_type
    ≡ slice_index c.args.file.now 30 = ap (λ (i : LegacyImage). i.image_type) c.fields_of-fields.ensures in
    header_and_body_pass c.args.file.now c.args.limits _ _ type_is c.body_at-body.ensures c.in_ok-check_header.ensures.ok
    c.in_ok-table.ensures.ok
