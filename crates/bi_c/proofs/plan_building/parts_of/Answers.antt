use Rattle.std.proofs.lemmas.Result.{err_from_is_err_and}
use Rattle.bi_c.specs.PlanBuilding.{pieces_of_call}
use Rattle.bi_c.proofs.PlanBuilding.{no_algorithms, no_lists, no_texts, specs_inside}
use Rattle.bi_c.proofs.plan_building.parts_of.Goals as goal

pub returns-in_err-texts_of-clause-failed : goal.returns-in_err-texts_of-clause-failed
returns-in_err-texts_of-clause-failed c =
    let p = err_from_is_err_and c.from_residual-in_err-texts_of.result c.from_residual-in_err-texts_of.ensures.1 in
    rw (p.1, p.2) (λ options valid. no_texts (pieces_of_call c.args.input.now options c.args.arrays) valid
    (specs_inside c.args.input.now c.args.arrays.images.now c.in_ok-specs_of.field-0.items c.in_ok-specs_of.ensures.specs)
    c.in_err-texts_of.field-0.0 c.in_err-texts_of.ensures.failed)

pub returns-in_err-pieces-clause-failed : goal.returns-in_err-pieces-clause-failed
returns-in_err-pieces-clause-failed c =
    let p = err_from_is_err_and c.from_residual-in_err-pieces.result c.from_residual-in_err-pieces.ensures.1 in
    rw (p.1, p.2) (λ options valid. no_lists (pieces_of_call c.args.input.now options c.args.arrays) valid
    (specs_inside c.args.input.now c.args.arrays.images.now c.in_ok-specs_of.field-0.items c.in_ok-specs_of.ensures.specs)
    c.in_ok-texts_of.ensures.inside
    c.in_err-pieces.field-0.0 c.in_err-pieces.ensures.failed)

pub returns-in_err-algorithms_of-clause-failed : goal.returns-in_err-algorithms_of-clause-failed
returns-in_err-algorithms_of-clause-failed c =
    let p = err_from_is_err_and c.from_residual-in_err-algorithms_of.result c.from_residual-in_err-algorithms_of.ensures.1 in
    rw (p.1, p.2) (λ options valid. no_algorithms (pieces_of_call c.args.input.now options c.args.arrays) valid
    (specs_inside c.args.input.now c.args.arrays.images.now c.in_ok-specs_of.field-0.items c.in_ok-specs_of.ensures.specs)
    c.in_ok-texts_of.ensures.inside
    c.in_ok-pieces.ensures.inside
    c.in_err-algorithms_of.field-0.0 c.in_err-algorithms_of.ensures.failed)
