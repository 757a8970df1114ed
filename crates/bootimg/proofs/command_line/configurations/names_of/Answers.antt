use Rattle.std.proofs.Common.{ap, subst, sym, take, get_or, [], ◌∷◌, ◌∙◌, None}
use Rattle.std.proofs.lemmas.List.{map-append, take_more}
use Rattle.bi_blob.specs.NameSets.{HoldsNames}
use Rattle.bi_blob.proofs.NameSets.{HoldsNames-insert}
use Rattle.bi_norm.specs.FitBuilding.{names_of_specs}
use Rattle.bi_norm.specs.declared.fit_building.ImageSpec.{ImageSpec}
use Rattle.bootimg.proofs.command_line.configurations.names_of.Goals as goal

-- What a list of images gives past its end.
abbrev no_image : ImageSpec
no_image = record {
  name = record { ref_ptr = (0, 0); now = [] };
  image_type = 0;
  arch = 0;
  os = 0;
  compression = 0;
  load = None;
  entry = None;
  payload = record { ref_ptr = (0, 0); now = [] };
}

pub loop-image-preserved : goal.loop-image-preserved
loop-image-preserved c =
    let images = c.args.images.now in
    let index = c.loop-image.image-index in
    let image = get_or images index no_image in
    let more = ap names_of_specs (take_more images index no_image c.loop-image-test.true)
    ∙ map-append (λ (spec : ImageSpec). spec.name.now) (take index images) (image ∷ []) in
    subst (HoldsNames c.insert.new.self) (sym more)
    (HoldsNames-insert c.loop-image.names c.insert.new.self image.name (names_of_specs (take index images)) c.loop-image.invariant
    c.in_ok-insert.ensures.updates)
