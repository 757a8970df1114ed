use Rattle.std.proofs.Common.{◌≡◌, ℕ, List, Bool, true, false, filter, sym, ap, ◌∙◌}
use Rattle.std.specs.Option.{is_some}
use Rattle.bi_blob.specs.Layout.{is_among}
use Rattle.bi_blob.specs.Tree.{names}
use Rattle.bi_fit.specs.Content.{tree_of}
use Rattle.bi_fit.specs.Judgement.{listed_names}
use Rattle.bi_coverage.specs.Paths.{with_all_new}
use Rattle.bi_coverage.specs.Signatures.{images_in}
use Rattle.bi_coverage.proofs.Meanings.{image_among}
use Rattle.bi_coverage.proofs.ReferenceLists.{image_first, other_first}
use Rattle.bi_coverage.proofs.references.add_images.Goals as goal

pub loop-name-preserved-in_ok-add : goal.loop-name-preserved-in_ok-add
loop-name-preserved-in_ok-add c =
    let is_image : List ℕ → Bool = λ name. is_among name (names (images_in (tree_of c.args.fit.now))) in
    let is : is_image c.in-Some.name.now ≡ true =
    sym (image_among c.args.fit.now c.requires.held c.in-Some.name.now) ∙ ap is_some (sym c.image.ensures) ∙ sym c.is_some.ensures
    ∙ c.if-is_some.true in
    ap (λ held. with_all_new held (filter is_image (listed_names c.in-Some.later.now))) c.in_ok-add.ensures
    ∙ sym (image_first is_image c.loop-name.found c.loop-name.rest.now c.in-Some.name.now c.in-Some.later.now c.in-Some.ensures is)
    ∙ c.loop-name.invariant

pub loop-name-preserved : goal.loop-name-preserved
loop-name-preserved c =
    let is_image : List ℕ → Bool = λ name. is_among name (names (images_in (tree_of c.args.fit.now))) in
    let is : is_image c.in-Some.name.now ≡ false =
    sym (image_among c.args.fit.now c.requires.held c.in-Some.name.now) ∙ ap is_some (sym c.image.ensures) ∙ sym c.is_some.ensures
    ∙ c.if-is_some.false in
    sym (other_first is_image c.loop-name.found c.loop-name.rest.now c.in-Some.name.now c.in-Some.later.now c.in-Some.ensures is)
    ∙ c.loop-name.invariant

pub returns : goal.returns
returns c =
    let is_image : List ℕ → Bool = λ name. is_among name (names (images_in (tree_of c.args.fit.now))) in
    ap (λ names. with_all_new c.loop-name.found (filter is_image names)) (sym c.in_default.ensures) ∙ c.loop-name.invariant
