use Rattle.std.proofs.Common.{◌≡◌, ◌++◌, map}
use Rattle.bi_blob.specs.Lookups.{siblings}
use Rattle.bi_fit.specs.Content.{AreAtTheirPlaces}
use Rattle.bi_fit.specs.JudgementCalls.{checked_hash_of}
use Rattle.bi_fit.specs.HashNodes.{file_images, file_verdicts}
use Rattle.bi_fit.specs.ImagesWithNodes.{models_left, nodes_left}
use Rattle.bi_fit.proofs.fit.Fit.verdicts.Given as goal

abbrev pub invariant-loop-node : goal.invariant-loop-node
invariant-loop-node l = record {
  placed : AreAtTheirPlaces l.digests (models_left l.node-iterator);
  so_far : map checked_hash_of l.checked.items ++ file_verdicts (nodes_left l.node-iterator) (models_left l.node-iterator)
      ≡ file_verdicts (siblings (file_images l.self.blob)) l.self.images;
}
