use Rattle.std.proofs.Common.{◌≡◌, [], get_or, map, take_all, sym, subst, arith, rules}
use Rattle.std.specs.Prelude.{IfSome}
use Rattle.std.specs.List.{AllByRecursion}
use Rattle.bi_blob.specs.Tree.{HasNoZero}
use Rattle.bi_fit.specs.Building.{ImageSpecModel, IsText}
use Rattle.bi_fit.specs.NamedImages.{named_model, named_models}
use Rattle.bi_norm.specs.FitBuilding.{own_texts_of_image}
use Rattle.bi_norm.proofs.OwnTexts.{all_texts_pass, image_texts_at, length-image_texts, models_more, no_checked_image, none_passed}
use Rattle.bi_norm.proofs.OwnTexts.{texts_fail}
use Rattle.bi_norm.proofs.OwnTexts.{texts_of_option, texts_pass}
use Rattle.bi_norm.proofs.fit_building.texts.check_image_texts.Goals as goal

pub loop-index-init : goal.loop-index-init
loop-index-init c =
    record { passed = none_passed (map own_texts_of_image (named_models c.args.images.now)); texts = tt }

pub returns-then-not-has_text-clause-fault : goal.returns-then-not-has_text-clause-fault
returns-then-not-has_text-clause-fault c =
    let images = c.args.images.now in
    let index = c.loop-index.index in
    let first = texts_fail (map own_texts_of_image (named_models images)) index []
    (omega (arith, c.loop-index-test.true, length-image_texts images)) c.loop-index.invariant.passed
    (λ fine. c.has_text.ensures.other c.if-not-has_text.true
    (subst (AllByRecursion HasNoZero) (image_texts_at images index no_checked_image c.loop-index-test.true) fine)) in
    search rules

pub loop-index-preserved : goal.loop-index-preserved
loop-index-preserved c =
    let images = c.args.images.now in
    let index = c.loop-index.index in
    let is = c.has_text.ensures.text c.if-not-has_text.false in
    record {
      passed = texts_pass (map own_texts_of_image (named_models images)) index []
          (omega (arith, c.loop-index-test.true, length-image_texts images)) c.loop-index.invariant.passed
          (subst (AllByRecursion HasNoZero) (sym (image_texts_at images index no_checked_image c.loop-index-test.true))
          (texts_of_option (named_model (get_or images index no_checked_image)).description is));
      texts = models_more (λ (image : ImageSpecModel). IfSome image.description IsText) named_model images index no_checked_image
          c.loop-index-test.true c.loop-index.invariant.texts is;
    }

pub returns-clause-passed : goal.returns-clause-passed
returns-clause-passed c =
    let images = c.args.images.now in
    all_texts_pass (map own_texts_of_image (named_models images)) c.loop-index.index
    (omega (arith, c.loop-index-test.false, length-image_texts images)) c.loop-index.invariant.passed

pub returns-clause-texts : goal.returns-clause-texts
returns-clause-texts c =
    subst (λ images. AllByRecursion (λ (image : ImageSpecModel). IfSome image.description IsText) (named_models images))
    (take_all c.loop-index.index c.args.images.now c.loop-index-test.false) c.loop-index.invariant.texts
