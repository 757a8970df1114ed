use Rattle.std.proofs.Common.{ap, refl, ◌∙◌, arith}
use Rattle.std.proofs.lemmas.Result.{err_from_is_err_and}
use Rattle.bi_base.specs.Commands.{WasRefused}
use Rattle.bi_base.specs.Errors.{IsFaultOrNoMemory}
use Rattle.bi_fit.specs.Building.{built_tree}
use Rattle.bi_fit.specs.BuiltNodes.{built_payloads}
use Rattle.bi_fit.specs.Documents.{length_after_blob, IsTextOfTree, IsTextFault}
use Rattle.bi_fit.specs.NamedImages.{head_model, named_models, plan_model}
use Rattle.bi_fit.specs.NormalNodes.{payloads_of}
use Rattle.bi_fit.proofs.AppendedTexts.{wrote_of_kind, wrote_none_of_kind}
use Rattle.bi_fit.proofs.BuiltPayloads.{are_within, payloads_to_place}
use Rattle.bi_fit.proofs.WholeTexts.{too_long_after, too_long_text, is_text_of_tree}
use Rattle.bi_fit.proofs.building.append_built.Goals as goal

pub returns-in_err-after-clause-failed : goal.returns-in_err-after-clause-failed
returns-in_err-after-clause-failed g c =
    let tree = built_tree (head_model c.args.head) (plan_model c.args.plan) (named_models c.args.images.now) in
    let list = c.deref.result.now in
    let same = payloads_to_place list c.args.images.now (c.deref.ensures.value ∙ c.in_ok-placed.ensures) in
    let refused = c.in_err-after.ensures.fault in
    let p = err_from_is_err_and c.from_residual-in_err-after.result c.from_residual-in_err-after.ensures.1 in
    rw (p.1, p.2)
    (WasRefused (too_long_after c.args.form tree
    (payloads_of list) same c.args.limits c.file.result c.file.ensures.value c.in_err-after.field-0.0 refused.0 refused.1) refl)

pub build_doc-requires-clause-within : goal.build_doc-requires-clause-within
build_doc-requires-clause-within g c =
    let list = c.deref.result.now in
    let same = payloads_to_place list c.args.images.now (c.deref.ensures.value ∙ c.in_ok-placed.ensures) in
    are_within c.args.form (built_payloads (named_models c.args.images.now))
    (omega (arith, ap (length_after_blob c.args.form) same, c.in_ok-after.ensures.length, c.in_ok-after.ensures.within))

pub returns-in_err-text-clause-failed : goal.returns-in_err-text-clause-failed
returns-in_err-text-clause-failed g c =
    let tree = built_tree (head_model c.args.head) (plan_model c.args.plan) (named_models c.args.images.now) in
    let list = c.deref-5.result.now in
    let same = payloads_to_place list c.args.images.now (c.deref-5.ensures.value ∙ c.in_ok-placed.ensures) in
    let refused = c.in_err-text.ensures.fault in
    let p = err_from_is_err_and c.from_residual-in_err-text.result c.from_residual-in_err-text.ensures.1 in
    rw (p.1, p.2)
    (WasRefused (too_long_text c.args.form tree
    (payloads_of list) same c.args.limits c.file-2.result c.file-2.ensures.value c.in_err-text.field-0.0 refused.0 c.in_ok-document.document
    c.in_ok-document.ensures.document refused.1) refl)

pub returns-clause-appended : goal.returns-clause-appended
returns-clause-appended g c =
    let tree = built_tree (head_model c.args.head) (plan_model c.args.plan) (named_models c.args.images.now) in
    let list = c.deref-5.result.now in
    let same = payloads_to_place list c.args.images.now (c.deref-5.ensures.value ∙ c.in_ok-placed.ensures) in
    let is = is_text_of_tree c.args.form tree
    (payloads_of list) same c.args.limits c.file-2.result c.file-2.ensures.value c.in_ok-document.document c.in_ok-document.ensures.document
    c.in_ok-text.text c.in_ok-text.ensures.text c.in_ok-text.ensures.short in
    wrote_of_kind g.S.Sink.appends g.S.Sink.fails
    (IsTextOfTree c.args.limits c.args.form tree) c.args.sink.now c.in_ok-text.text c.emit.result c.emit.new.sink is c.emit.ensures

pub returns-clause-failed : goal.returns-clause-failed
returns-clause-failed g c =
    let tree = built_tree (head_model c.args.head) (plan_model c.args.plan) (named_models c.args.images.now) in
    let list = c.deref-5.result.now in
    let same = payloads_to_place list c.args.images.now (c.deref-5.ensures.value ∙ c.in_ok-placed.ensures) in
    let is = is_text_of_tree c.args.form tree
    (payloads_of list) same c.args.limits c.file-2.result c.file-2.ensures.value c.in_ok-document.document c.in_ok-document.ensures.document
    c.in_ok-text.text c.in_ok-text.ensures.text c.in_ok-text.ensures.short in
    wrote_none_of_kind g.S.Sink.appends g.S.Sink.fails (IsTextOfTree c.args.limits c.args.form tree)
    (IsFaultOrNoMemory (IsTextFault c.args.limits c.args.form tree)) c.args.sink.now c.in_ok-text.text c.emit.result
    c.emit.new.sink is c.emit.ensures
