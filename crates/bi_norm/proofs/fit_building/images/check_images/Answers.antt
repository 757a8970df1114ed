use Rattle.std.proofs.Common.{◌≡◌, ℕ, ◌+◌, ◌<◌, ◌≤◌, List, [], ◌∷◌, ◌++◌, map, take, take_all, get_or, length, Option, sym, ap, subst, ◌∙◌}
use Rattle.std.proofs.Common.{rules, arith}
use Rattle.std.proofs.lemmas.Bool.{not-true, not-false}
use Rattle.std.proofs.lemmas.Result.{err_from_is_err_and}
use Rattle.bi_base.proofs.ListMembers.{each-map}
use Rattle.bi_blob.specs.NameSets.{HoldsNames}
use Rattle.bi_blob.specs.Tree.{IsNew, AreDistinct}
use Rattle.bi_blob.proofs.Blobs.OpenNodes.{AreDistinct-push}
use Rattle.bi_blob.proofs.NameSets.{HoldsNames-insert, HoldsNames-new, HoldsNames-held}
use Rattle.bi_fit.specs.declared.building.NamedImage.{NamedImage}
use Rattle.bi_fit.specs.NamedImages.{named_models}
use Rattle.bi_norm.specs.declared.fit_building.ImageSpec.{ImageSpec}
use Rattle.bi_norm.specs.declared.fit_building.ImageTexts.{ImageTexts}
use Rattle.bi_norm.specs.BuildChecks.{AllPass, IsFirstFailure, IsPlainImage, given_for, fields_and_names}
use Rattle.std.specs.Borrow.{Bor}
use Rattle.bi_norm.specs.FitBuilding.{GivenImage, texts_models, descriptions_models, spec_model}
use Rattle.bi_norm.proofs.ImageChecks.{names_of_given, names-given_images, length-given_images, no_spec, no_given, given_here}
use Rattle.bi_norm.proofs.ImageChecks.{image_names_more, named_more, image_fails, name_fails, first_passed, passed_more, passed_all}
use Rattle.bi_norm.proofs.ImageChecks.{can_all}
use Rattle.bi_norm.proofs.fit_building.images.check_images.Goals as goal

-- An index of an image is one of them,
within_given : (texts : List (Option ImageTexts)) (descriptions : List (Option (Bor (List ℕ)))) (images : List ImageSpec) (index : ℕ) →
    index < length images → index < length (given_for texts descriptions images)
within_given texts descriptions images index within =
    omega (arith, length-given_images (texts_models texts) (descriptions_models descriptions) images, within)

-- and an index past the images is past them.
past_given : (texts : List (Option ImageTexts)) (descriptions : List (Option (Bor (List ℕ)))) (images : List ImageSpec) (index : ℕ) →
    length images ≤ index → length (given_for texts descriptions images) ≤ index
past_given texts descriptions images index past =
    omega (arith, length-given_images (texts_models texts) (descriptions_models descriptions) images, past)

all_given : (texts : List (Option ImageTexts)) (descriptions : List (Option (Bor (List ℕ)))) (images : List ImageSpec) (index : ℕ) →
    length images ≤ index → take index (given_for texts descriptions images) ≡ given_for texts descriptions images
all_given texts descriptions images index past =
    take_all index (given_for texts descriptions images) (past_given texts descriptions images index past)

pub returns-in_err-next-clause-failed : goal.returns-in_err-next-clause-failed
returns-in_err-next-clause-failed c =
    let texts = c.args.texts.now in
    let descriptions = c.args.descriptions.now in
    let images = c.args.images.now in
    let index = c.loop-index.index in
    let here = given_here texts descriptions images index c.element_at.result c.element_at-description.result c.loop-index-test.true
    c.element_at.ensures c.element_at-description.ensures in
    let p = err_from_is_err_and c.from_residual.result c.from_residual.ensures.1 in
    rw (p.1, p.2)
    (image_fails (given_for texts descriptions images) index no_given (within_given texts descriptions images index c.loop-index-test.true)
    c.loop-index.invariant.passed c.in_err-next.field-0.0
    (subst (λ (image : GivenImage). IsFirstFailure (fields_and_names index image) c.in_err-next.field-0.0) here
    c.in_err-next.ensures.fault))

pub returns-in_err-insert-clause-failed : goal.returns-in_err-insert-clause-failed
returns-in_err-insert-clause-failed c =
    let texts = c.args.texts.now in
    let descriptions = c.args.descriptions.now in
    let images = c.args.images.now in
    let index = c.loop-index.index in
    let here = given_here texts descriptions images index c.element_at.result c.element_at-description.result c.loop-index-test.true
    c.element_at.ensures c.element_at-description.ensures in
    let p = err_from_is_err_and c.from_residual-in_err-insert.result c.from_residual-in_err-insert.ensures.1 in
    rw (p.1, p.2)
    (first_passed (given_for texts descriptions images) index no_given (within_given texts descriptions images index c.loop-index-test.true)
    c.loop-index.invariant.passed (subst (λ (image : GivenImage). AllPass (fields_and_names index image)) here c.in_ok-next.ensures.passed))

pub returns-then-not-branch-clause-failed : goal.returns-then-not-branch-clause-failed
returns-then-not-branch-clause-failed c =
    let texts = c.args.texts.now in
    let descriptions = c.args.descriptions.now in
    let images = c.args.images.now in
    let index = c.loop-index.index in
    let given = given_for texts descriptions images in
    let here = given_here texts descriptions images index c.element_at.result c.element_at-description.result c.loop-index-test.true
    c.element_at.ensures c.element_at-description.ensures in
    let has = not-false _ (sym c.in_ok-insert.ensures.added ∙ c.if-not-branch.true) in
    let held = HoldsNames-held c.loop-index.names (get_or images index no_spec).name
    (names_of_given (take index given)) c.loop-index.invariant.names has in
    let also_held = subst (λ (image : GivenImage). ¬ (IsNew image.spec.name.now (names_of_given (take index given)))) here held in
    let first = name_fails given index no_given (within_given texts descriptions images index c.loop-index-test.true)
    c.loop-index.invariant.passed
    (subst (λ (image : GivenImage). AllPass (fields_and_names index image)) here c.in_ok-next.ensures.passed) also_held in
    search rules

pub loop-index-preserved : goal.loop-index-preserved
loop-index-preserved c =
    let texts = c.args.texts.now in
    let descriptions = c.args.descriptions.now in
    let images = c.args.images.now in
    let index = c.loop-index.index in
    let given = given_for texts descriptions images in
    let within = within_given texts descriptions images index c.loop-index-test.true in
    let here = given_here texts descriptions images index c.element_at.result c.element_at-description.result c.loop-index-test.true
    c.element_at.ensures c.element_at-description.ensures in
    let name = (get_or images index no_spec).name in
    let lacks = not-true _ (sym c.in_ok-insert.ensures.added ∙ c.if-not-branch.false) in
    let new = HoldsNames-new c.loop-index.names name (names_of_given (take index given)) c.loop-index.invariant.names lacks in
    let more = ap (λ (image : GivenImage). names_of_given (take index given) ++ image.spec.name.now ∷ []) here
    ∙ sym (image_names_more given index no_given within c.loop-index.invariant.passed) in
    record {
      names = subst (HoldsNames c.insert.new.self) more
          (HoldsNames-insert c.loop-index.names c.insert.new.self name (names_of_given (take index given)) c.loop-index.invariant.names
          c.in_ok-insert.ensures.updates);
      distinct = subst AreDistinct more
          (AreDistinct-push (names_of_given (take index given)) name.now c.loop-index.invariant.distinct new);
      named = subst (λ (named : List NamedImage). named_models named ≡ map spec_model (take (index + 1) given))
          (sym c.in_ok-push.ensures.items)
          (named_more given index no_given within c.loop-index.named.items c.in_ok-next.next c.loop-index.invariant.named
          (c.in_ok-next.ensures.named ∙ ap spec_model here));
      passed = passed_more given index no_given within c.loop-index.invariant.passed
          (subst (λ (image : GivenImage). AllPass (fields_and_names index image)) here c.in_ok-next.ensures.passed)
          (subst (λ (image : GivenImage). IsPlainImage (spec_model image)) here c.in_ok-next.ensures.can)
          (subst (λ (image : GivenImage). IsNew image.spec.name.now (names_of_given (take index given))) here new);
    }

pub returns-in_err-push-clause-failed : goal.returns-in_err-push-clause-failed
returns-in_err-push-clause-failed c =
    let texts = c.args.texts.now in
    let descriptions = c.args.descriptions.now in
    let images = c.args.images.now in
    let index = c.loop-index.index in
    let here = given_here texts descriptions images index c.element_at.result c.element_at-description.result c.loop-index-test.true
    c.element_at.ensures c.element_at-description.ensures in
    let p = err_from_is_err_and c.from_residual-in_err-push.result c.from_residual-in_err-push.ensures.1 in
    rw (p.1, p.2)
    (first_passed (given_for texts descriptions images) index no_given (within_given texts descriptions images index c.loop-index-test.true)
    c.loop-index.invariant.passed (subst (λ (image : GivenImage). AllPass (fields_and_names index image)) here c.in_ok-next.ensures.passed))

pub returns-clause-passed : goal.returns-clause-passed
returns-clause-passed c =
    let texts = c.args.texts.now in
    let descriptions = c.args.descriptions.now in
    let images = c.args.images.now in
    c.loop-index.invariant.passed.left.passes
    (passed_all (given_for texts descriptions images) c.loop-index.index
    (past_given texts descriptions images c.loop-index.index c.loop-index-test.false))

pub returns-clause-can : goal.returns-clause-can
returns-clause-can c =
    let texts = c.args.texts.now in
    let descriptions = c.args.descriptions.now in
    let images = c.args.images.now in
    let given = given_for texts descriptions images in
    let index = c.loop-index.index in
    each-map IsPlainImage spec_model given
    (c.loop-index.invariant.passed.can (can_all given index (past_given texts descriptions images index c.loop-index-test.false)))

pub returns-clause-distinct : goal.returns-clause-distinct
returns-clause-distinct c =
    let texts = c.args.texts.now in
    let descriptions = c.args.descriptions.now in
    let images = c.args.images.now in
    subst AreDistinct
    (ap names_of_given (all_given texts descriptions images c.loop-index.index c.loop-index-test.false) ∙ names-given_images
    (texts_models texts) (descriptions_models descriptions) images)
    c.loop-index.invariant.distinct

pub returns-clause-named : goal.returns-clause-named
returns-clause-named c =
    c.loop-index.invariant.named
    ∙ ap (map spec_model) (all_given c.args.texts.now c.args.descriptions.now c.args.images.now c.loop-index.index c.loop-index-test.false)

pub returns-clause-names : goal.returns-clause-names
returns-clause-names c =
    let texts = c.args.texts.now in
    let descriptions = c.args.descriptions.now in
    let images = c.args.images.now in
    subst (HoldsNames c.loop-index.names)
    (ap names_of_given (all_given texts descriptions images c.loop-index.index c.loop-index-test.false) ∙ names-given_images
    (texts_models texts) (descriptions_models descriptions) images)
    c.loop-index.invariant.names
