use Rattle.std.proofs.Common.{◌≡◌, false, true, refl, subst}
use Rattle.bi_base.specs.declared.fault.Error.TheVariants.{Refused}
use Rattle.bi_base.proofs.Refusals.{error_passed_on}
use Rattle.bi_fit.specs.Reading.{IsFitReadError}
use Rattle.bi_norm.proofs.FilesWithoutMeaning.{no_tree_fault, tree_error, legacy_fault}
use Rattle.bi_norm.proofs.image.BootImage.read.Goals as goal

pub returns-in_err-read-in-Err-clause-failed : goal.returns-in_err-read-in-Err-clause-failed
returns-in_err-read-in-Err-clause-failed c =
    let is : c.in-Err.error ≡ Refused no_tree_fault = c.if-is_no_tree.ensures.0 refl in
    error_passed_on _ (Refused c.in_err-read-in-Err.field-0.0) _ c.from_residual.ensures.1
    (legacy_fault c.args.limits c.args.file.now c.in_err-read-in-Err.field-0.0
    (subst (IsFitReadError c.args.limits c.args.file.now) is c.in-Err.ensures.failed) c.in_err-read-in-Err.ensures.fault)

pub returns-else-is_no_tree-clause-failed : goal.returns-else-is_no_tree-clause-failed
returns-else-is_no_tree-clause-failed c =
    tree_error c.args.limits c.args.file.now c.in-Err.error
    (λ same. let e : false ≡ true = c.if-is_no_tree.ensures.1 same in cc) c.in-Err.ensures.failed
