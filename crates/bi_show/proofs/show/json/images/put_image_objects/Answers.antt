use Rattle.std.proofs.Common.{List, ap, ap₂, map, refl, subst, sym, ◌∙◌}
use Rattle.bi_blob.specs.Lookups.{Sibling}
use Rattle.bi_blob.specs.Tree.{FileNode}
use Rattle.bi_fdt.specs.Views.{node_of}
use Rattle.bi_fit.specs.Content.{AreAtTheirPlaces, ImageModel, image_model}
use Rattle.bi_fit.specs.ImagesWithNodes.{models_left, nodes_left}
use Rattle.bi_common.specs.JsonTokens.{JsonToken, json_tokens, value_tokens}
use Rattle.bi_report.proofs.PutInTurn.{put_begins, put_ends, put_goes_on}
use Rattle.bi_show.specs.ReadObjects.{read_image_object, read_image_objects}
use Rattle.bi_show.proofs.show.json.images.put_image_objects.Goals as goal

-- The objects of images with their nodes.
abbrev objects : List (Sibling FileNode) → List ImageModel → List JsonToken
objects entries images = value_tokens (read_image_objects entries images)

pub loop-node-preserved : goal.loop-node-preserved
loop-node-preserved g c =
    let steps = c.in-Some.ensures.steps in
    let images = ap (map image_model) steps.images in
    record {
      placed = (subst (AreAtTheirPlaces c.args.digests.now) images c.loop-node.invariant.placed).1;
      are_put =
          put_goes_on g.J.JsonPen.puts g.met.J.JsonPen.puts_in_turn c.args.json.now c.loop-node.json c.put_image_object.new.json
          (json_tokens (read_image_object (node_of c.in-Some.node) (image_model c.in-Some.image.now)))
          (objects (nodes_left c.next.new.self) (models_left c.next.new.self)) _ _ c.loop-node.invariant.are_put
          (ap₂ objects steps.nodes images) c.put_image_object.ensures;
    }
