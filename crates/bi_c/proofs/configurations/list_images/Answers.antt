use Rattle.std.proofs.Common.{List, map, refl, ap, ◌∙◌}
use Rattle.bi_fit.specs.declared.configurations.Named.{Named}
use Rattle.bi_fit.specs.JudgementCalls.{listed_image}
use Rattle.bi_c.specs.Answers.{FilledNothing}
use Rattle.bi_c.specs.FitElements.{index_among}
use Rattle.bi_c.proofs.CallAnswers.{fills_as}
use Rattle.bi_c.proofs.ListedIndices.{list_refusal}
use Rattle.bi_c.proofs.configurations.list_images.Goals as goal

pub returns-in-Ok : goal.returns-in-Ok
returns-in-Ok c =
    fills_as _ _ _ _ _ _ _ _
    (λ indices value just. record {
      listed = map listed_image c.in-Ok.listed.items;
      is_listed = c.in-Ok.ensures.listed;
      are_indices = just.is_text
          ∙ ap (λ (it : List Named). map (index_among c.args.fit.now) (map listed_image it)) c.deref.ensures.value;
      no_value = just.is_number;
    })
    (λ failure none. absurd none) c.fill_indices.ensures

pub returns-in-Err : goal.returns-in-Err
returns-in-Err c =
    FilledNothing c.failure_of_list.result
    (list_refusal c.args.fit.now c.args.name.now c.args.key c.in-Err.error c.failure_of_list.result c.failure_of_list.ensures
    c.in-Err.ensures.failed)
    refl c.fail.ensures.answer c.fail.ensures.status
