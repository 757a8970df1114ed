use Rattle.std.proofs.Common.{◌+◌, List, ap, drop, get_or, map, refl}
use Rattle.std.proofs.lemmas.List.{drop_all, drop_more}
use Rattle.bi_fit.specs.declared.image.Image.{Image}
use Rattle.bi_fit.specs.Content.{image_model}
use Rattle.bi_fit.proofs.PayloadEnds.{no_image}
use Rattle.bi_common.specs.JsonTokens.{JsonToken, json_tokens, value_tokens}
use Rattle.bi_report.specs.FitListing.{image_object}
use Rattle.bi_report.specs.ReadListing.{read_image_entry}
use Rattle.bi_report.proofs.PutInTurn.{put_begins, put_ends, put_goes_on}
use Rattle.bi_report.proofs.list.fit.put_image_objects.Goals as goal

-- The objects of images.
abbrev objects : List Image → List JsonToken
objects images = value_tokens (map image_object (map read_image_entry (map image_model images)))

pub loop-image-init : goal.loop-image-init
loop-image-init g c = put_begins g.J.JsonPen.puts g.met.J.JsonPen.puts_nothing c.args.json.now _ _ refl

pub loop-image-preserved : goal.loop-image-preserved
loop-image-preserved g c =
    let images = c.args.images.now in
    let index = c.loop-image.image-index in
    put_goes_on g.J.JsonPen.puts g.met.J.JsonPen.puts_in_turn c.args.json.now c.loop-image.json c.put_image_object.new.json
    (json_tokens (image_object (read_image_entry (image_model (get_or images index no_image))))) (objects (drop (index + 1) images)) _ _
    c.loop-image.invariant (ap objects (drop_more images index no_image c.loop-image-test.true)) c.put_image_object.ensures

pub returns : goal.returns
returns g c =
    put_ends g.J.JsonPen.puts c.args.json.now c.loop-image.json _ _ c.loop-image.invariant
    (ap objects (drop_all c.loop-image.image-index c.args.images.now c.loop-image-test.false))
