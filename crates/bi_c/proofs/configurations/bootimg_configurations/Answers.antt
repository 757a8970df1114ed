use Rattle.std.proofs.Common.{refl, sym, ap, map, ◌∙◌}
use Rattle.bi_blob.specs.Tree.{FileNode, Root}
use Rattle.bi_fit.specs.Reading.{IsFitReadError}
use Rattle.bi_c.specs.declared.failure.Failure.TheVariants.{WrongArgument}
use Rattle.bi_c.specs.Answers.{FilledNothing}
use Rattle.bi_c.specs.FitElements.{configuration_siblings}
use Rattle.bi_c.specs.TreeRegions.{children_of_found, name_region_of}
use Rattle.bi_c.proofs.CallAnswers.{not_so, is_so, fills_as, failed_of_one}
use Rattle.bi_c.proofs.CheckFacts.{limits_are_wrong}
use Rattle.bi_c.proofs.FitFiles.{means_within, configuration_bytes}
use Rattle.bi_c.proofs.configurations.bootimg_configurations.Goals as goal

pub returns-in_default : goal.returns-in_default
returns-in_default c = FilledNothing (WrongArgument c.wrong_limit.result 0)
    (limits_are_wrong c.args.limit c.args.depth _ c.wrong_limit.ensures (not_so _ c.in_default.ensures.in_range))
    refl c.fail.ensures.answer c.fail.ensures.status

pub returns-in-Ok : goal.returns-in-Ok
returns-in-Ok c =
    let read = c.in-Ok.ensures.read in
    fills_as _ _ _ _ _ _ _ _
    (λ regions value just. record {
      limits = is_so _ c.in-Some.ensures.in_range;
      tree = _;
      means = means_within c.args.limit c.args.depth c.args.file.now c.in-Some.limits c.in-Ok.fit c.in-Some.ensures.value read;
      are_regions = just.is_text
          ∙ ap (λ found. map name_region_of (children_of_found found)) c.configurations_node.ensures
          ∙ ap (λ (root : Root FileNode). map name_region_of (configuration_siblings root)) (sym read.same_root);
      have_bytes = configuration_bytes c.in-Some.limits c.args.file.now c.in-Ok.fit read;
      is_default = just.is_number ∙ c.default_index.ensures;
    })
    (λ failure none. absurd none) c.fill_children.ensures

pub returns-in-Err : goal.returns-in-Err
returns-in-Err c =
    FilledNothing c.failure_of.result
    (failed_of_one c.args.limit c.args.depth (λ limits. IsFitReadError limits c.args.file.now) c.in-Some.limits c.in-Err.error
    c.failure_of.result (is_so _ c.in-Some.ensures.in_range) c.in-Some.ensures.value c.failure_of.ensures (λ l is. is) (λ l is. is)
    c.in-Err.ensures.failed)
    refl c.fail-in-Err.ensures.answer c.fail-in-Err.ensures.status
