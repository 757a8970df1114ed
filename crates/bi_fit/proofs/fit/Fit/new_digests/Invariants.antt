use Rattle.std.proofs.Common.{◌≡◌, ◌++◌}
use Rattle.bi_blob.specs.Lookups.{siblings}
use Rattle.bi_fit.specs.Content.{AreAtTheirPlaces}
use Rattle.bi_fit.specs.HashNodes.{file_images}
use Rattle.bi_fit.specs.ImagesWithNodes.{models_left, nodes_left}
use Rattle.bi_fit.proofs.NewDigests.{file_new_digests}
use Rattle.bi_fit.proofs.fit.Fit.new_digests.Given as goal

abbrev pub invariant-loop-node : goal.invariant-loop-node
invariant-loop-node l = record {
  placed : AreAtTheirPlaces l.region_digests (models_left l.node-iterator);
  so_far : l.digests.items ++ file_new_digests (nodes_left l.node-iterator) (models_left l.node-iterator)
      ≡ file_new_digests (siblings (file_images l.self.blob)) l.self.images;
}
