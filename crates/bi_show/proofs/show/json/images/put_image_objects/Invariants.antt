use Rattle.bi_blob.specs.Lookups.{siblings}
use Rattle.bi_fit.specs.Content.{AreAtTheirPlaces}
use Rattle.bi_fit.specs.HashNodes.{file_images}
use Rattle.bi_fit.specs.ImagesWithNodes.{models_left, nodes_left}
use Rattle.bi_common.specs.JsonTokens.{value_tokens}
use Rattle.bi_report.proofs.PutInTurn.{IsPutBefore}
use Rattle.bi_show.specs.ReadObjects.{read_image_objects}
use Rattle.bi_show.proofs.show.json.images.put_image_objects.Given as goal

-- The images that are left follow those that were put.
abbrev pub invariant-loop-node : goal.invariant-loop-node
invariant-loop-node g l = record {
  placed : AreAtTheirPlaces l.digests (models_left l.node-iterator);
  are_put : IsPutBefore g.J.JsonPen.puts l.initial.json l.json
      (value_tokens (read_image_objects (nodes_left l.node-iterator) (models_left l.node-iterator)))
      (value_tokens (read_image_objects (siblings (file_images l.fit.blob)) l.fit.images));
}
