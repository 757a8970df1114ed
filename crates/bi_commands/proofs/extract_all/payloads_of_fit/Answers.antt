use Rattle.std.proofs.Common.{◌++◌, ◌+◌, List, drop, get_or, map, sym, ap, ◌∙◌, append-nil}
use Rattle.std.proofs.lemmas.List.{drop_all, drop_more}
use Rattle.bi_fit.proofs.PayloadEnds.{no_image}
use Rattle.bi_fit.specs.declared.image.Image.{Image}
use Rattle.bi_fit.specs.Content.{FitModel, image_model}
use Rattle.bi_commands.specs.declared.extract_all.Payload.{Payload}
use Rattle.bi_commands.specs.ExtractingAll.{PayloadFile}
use Rattle.bi_commands.specs.Payloads.{payload_file}
use Rattle.bi_commands.proofs.PayloadFiles.{files_of_content, files_of_models, one_more_image}
use Rattle.bi_commands.proofs.extract_all.payloads_of_fit.Goals as goal

pub loop-image-init : goal.loop-image-init
loop-image-init c =
    ap (λ (payloads : List Payload). map payload_file payloads ++ files_of_models (map image_model c.images-image-items.result.now))
    c.new-payloads.ensures.items
    ∙ ap files_of_models c.images-image-items.ensures
    ∙ ap (λ (fit : FitModel). files_of_models fit.images) (c.fit.ensures ∙ c.in_ok-bounded.ensures.same)

pub loop-image-preserved : goal.loop-image-preserved
loop-image-preserved c =
    let images : List Image = c.images-image-items.result.now in
    let index = c.loop-image.image-index in
    let files : List PayloadFile = map payload_file c.loop-image.payloads.items in
    one_more_image files (map payload_file c.add_payload.new.payloads.items) (image_model (get_or images index no_image))
    (map image_model (drop (index + 1) images)) _ c.in_ok-add_payload.ensures
    (ap (λ (images : List Image). files ++ files_of_models (map image_model images))
    (sym (drop_more images index no_image c.loop-image-test.true))
    ∙ c.loop-image.invariant)

pub returns-clause-payloads : goal.returns-clause-payloads
returns-clause-payloads c =
    let files : List PayloadFile = map payload_file c.loop-image.payloads.items in
    sym (append-nil files)
    ∙ ap (λ (images : List Image). files ++ files_of_models (map image_model images))
    (sym (drop_all c.loop-image.image-index c.images-image-items.result.now c.loop-image-test.false))
    ∙ c.loop-image.invariant
    ∙ files_of_content c.args.fit.now c.requires.held
