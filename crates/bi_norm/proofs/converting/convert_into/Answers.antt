use Rattle.std.proofs.Common.{◌≡◌, ◌∙◌, ◌≤◌, [], ◌∷◌, ap, refl, arith}
use Rattle.std.proofs.lemmas.Result.{err_from_is_err_and}
use Rattle.bi_blob.specs.Layout.{longest_text}
use Rattle.bi_fit.specs.declared.form.Form.TheVariants.{Embedded}
use Rattle.bi_hash.specs.declared.algo.Algo.TheVariants.{Sha256}
use Rattle.bi_fit.specs.Building.{HeadModel, built_tree, plan_by_types}
use Rattle.bi_base.specs.Errors.{IsFaultOrNoMemory}
use Rattle.bi_fit.specs.Documents.{IsTextOfTree, IsTextFault}
use Rattle.bi_fit.specs.NamedImages.{named_models}
use Rattle.bi_norm.specs.Converting.{converted_images, IsConvertedFile, IsConvertError, NotLegacy, NotConvertible, head_of_image}
use Rattle.bi_base.specs.Commands.{WasRefused}
use Rattle.bi_fit.proofs.AppendedTexts.{result_appended_as, result_failed_as}
use Rattle.bi_norm.proofs.Conversions.{conversion_can_be_built, tree_is, is_converted, is_convert_error}
use Rattle.bi_norm.proofs.converting.convert_into.Goals as goal

pub returns-in_err-image-clause-failed : goal.returns-in_err-image-clause-failed
returns-in_err-image-clause-failed g c =
    let p = err_from_is_err_and c.from_residual.result c.from_residual.ensures.1 in
    rw (p.1, p.2) (WasRefused (NotLegacy c.in_err-image.ensures.fault.is_fault c.in_err-image.ensures.fault.means_nothing) refl)

pub returns-in_err-names-clause-failed : goal.returns-in_err-names-clause-failed
returns-in_err-names-clause-failed g c =
    let p = err_from_is_err_and c.from_residual-in_err-names.result c.from_residual-in_err-names.ensures.1 in
    let parsed = c.in_ok-image.ensures.read in
    rw (p.1, p.2) (WasRefused (NotConvertible c.in_ok-image.image.image parsed.means c.in_err-names.ensures.fault) refl)

pub append_built_by_types-requires : goal.append_built_by_types-requires
append_built_by_types-requires g c =
    let fields = c.fields-fields.result in
    let head : HeadModel = record { description = fields.name.now; time = fields.time } in
    let are : named_models c.deref.result.now
    ≡ converted_images c.in_ok-image.image.image = ap named_models c.deref.ensures.value ∙ c.in_ok-images.ensures in
    record {
      can = conversion_can_be_built c.args.limits c.args.file.now c.in_ok-image.image.image head
          (named_models c.deref.result.now) c.in_ok-image.ensures.read.means (ap head_of_image c.fields-fields.ensures) are;
    }

pub returns-clause-appended : goal.returns-clause-appended
returns-clause-appended g c =
    let limits = c.args.limits in
    let file = c.args.file.now in
    let parsed = c.in_ok-image.image in
    let fields = c.fields-fields.result in
    let head : HeadModel = record { description = fields.name.now; time = fields.time } in
    let images = named_models c.deref.result.now in
    let are : images ≡ converted_images parsed.image = ap named_models c.deref.ensures.value ∙ c.in_ok-images.ensures in
    let same = tree_is parsed.image head images (ap head_of_image c.fields-fields.ensures) are in
    let most : limits.file ≤ longest_text = omega arith in
    result_appended_as g.S.Sink.appends (IsTextOfTree limits Embedded (built_tree head (plan_by_types (Sha256 ∷ []) images) images))
    (IsConvertedFile limits file) c.args.sink.now c.append_built_by_types.new.sink c.append_built_by_types.result
    (λ text is. is_converted limits file parsed
    (built_tree head (plan_by_types (Sha256 ∷ []) images) images) text c.in_ok-image.ensures.read c.in_ok-names.ensures.can most same is)
    c.append_built_by_types.ensures.appended

pub returns-clause-failed : goal.returns-clause-failed
returns-clause-failed g c =
    let limits = c.args.limits in
    let file = c.args.file.now in
    let parsed = c.in_ok-image.image in
    let opened = c.in_ok-image.ensures.read in
    let can = c.in_ok-names.ensures.can in
    let fields = c.fields-fields.result in
    let head : HeadModel = record { description = fields.name.now; time = fields.time } in
    let images = named_models c.deref.result.now in
    let are : images ≡ converted_images parsed.image = ap named_models c.deref.ensures.value ∙ c.in_ok-images.ensures in
    let tree = built_tree head (plan_by_types (Sha256 ∷ []) images) images in
    let same = tree_is parsed.image head images (ap head_of_image c.fields-fields.ensures) are in
    let most : limits.file ≤ longest_text = omega arith in
    result_failed_as g.S.Sink.fails (IsTextOfTree limits Embedded tree) (IsConvertedFile limits file)
    (IsFaultOrNoMemory (IsTextFault limits Embedded tree))
    (IsConvertError limits file) c.args.sink.now c.append_built_by_types.new.sink c.append_built_by_types.result
    (λ text is. is_converted limits file parsed tree text opened can most same is)
    (λ error is. is_convert_error limits file parsed tree error opened can same is)
    c.append_built_by_types.ensures.failed
