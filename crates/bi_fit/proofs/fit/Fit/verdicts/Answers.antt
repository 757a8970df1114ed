use Rattle.std.proofs.Common.{◌++◌, map, sym, ap, subst, ◌∙◌}
use Rattle.bi_blob.specs.Lookups.{siblings}
use Rattle.bi_fdt.specs.Views.{node_of}
use Rattle.bi_fit.specs.Content.{image_model, AreAtTheirPlaces}
use Rattle.bi_fit.specs.HashNodes.{file_hashes, file_image_hashes}
use Rattle.bi_fit.specs.ImagesWithNodes.{models_left}
use Rattle.bi_fit.specs.JudgementCalls.{checked_hash_of}
use Rattle.bi_fit.proofs.FileVerdicts.{verdicts_are}
use Rattle.bi_fit.proofs.Zips.{one_pair_more, no_pair_more}
use Rattle.bi_fit.proofs.fit.Fit.verdicts.Goals as goal

pub returns-clause-verdicts : goal.returns-clause-verdicts
returns-clause-verdicts c =
    no_pair_more file_image_hashes _ (models_left c.loop-node.node-iterator) (map checked_hash_of c.loop-node.checked.items) _
    c.loop-node.invariant.so_far c.in-None.ensures.steps.nodes ∙ sym (verdicts_are c.args.self.now)

pub loop-node-preserved : goal.loop-node-preserved
loop-node-preserved c =
    let steps = c.in-Some.ensures.steps in
    let entry = node_of c.in-Some.node in
    let images = ap (map image_model) steps.images in
    let placed = subst (AreAtTheirPlaces c.loop-node.digests) images c.loop-node.invariant.placed in
    record {
      placed = subst (λ file. AreAtTheirPlaces file (models_left c.next.new.self)) (sym c.in_ok-check_image.ensures.same) placed.1;
      so_far = one_pair_more file_image_hashes _ _ (map checked_hash_of c.loop-node.checked.items) _ c.loop-node.invariant.so_far entry
          (image_model c.in-Some.image.now) _ _ _ steps.nodes images
          (c.in_ok-check_image.ensures.ok
          ∙ ap (λ payload. map checked_hash_of c.loop-node.checked.items ++ file_hashes entry.name payload (siblings entry.children))
          (c.region.ensures c.loop-node.digests placed.0).bytes);
    }
