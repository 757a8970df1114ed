use Rattle.std.proofs.Common.{refl, subst, sym}
use Rattle.bi_c.specs.Answers.{FilledNothing}
use Rattle.bi_c.specs.PlanBuilding.{IsPlannedTree, PlanPieces}
use Rattle.bi_c.proofs.CallAnswers.{buffer_is_filled}
use Rattle.bi_c.proofs.plan_building.bootimg_build_fit_as.Goals as goal

pub returns-in-Ok : goal.returns-in-Ok
returns-in-Ok c =
    let pieces : PlanPieces = record {
      input = c.args.input.now;
      options = c.args.options.now;
      images = c.args.images.now;
      texts = c.args.texts.now;
      configurations = c.args.configurations.now;
      lists = c.args.lists.now;
      algorithms = c.args.algorithms.now;
    } in
    buffer_is_filled _ _ c.deref.result.now _ _ 0 _ _
    (subst (λ text. IsPlannedTree pieces text 0) (sym c.deref.ensures.value) c.in-Ok.ensures.built) c.fill.ensures.answer
    c.fill.ensures.filled

pub returns-in-Err : goal.returns-in-Err
returns-in-Err c = FilledNothing c.in-Err.failure c.in-Err.ensures.failed refl c.fail.ensures.answer c.fail.ensures.status
