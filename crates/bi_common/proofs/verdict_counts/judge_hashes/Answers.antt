use Rattle.std.proofs.Common.{length, map, ap, ap₂, sym, ◌∙◌, arith, refl, subst, length-append}
use Rattle.bi_blob.specs.Lookups.{siblings}
use Rattle.bi_fdt.specs.Views.{node_of}
use Rattle.bi_fit.specs.ChildNodes.{children_of_each}
use Rattle.bi_fit.specs.Content.{AreAtTheirPlaces, image_model}
use Rattle.bi_fit.specs.HashNodes.{file_verdicts}
use Rattle.bi_fit.specs.ImagesWithNodes.{models_left, nodes_left}
use Rattle.bi_fit.proofs.FileVerdicts.{verdicts_are}
use Rattle.bi_fit.proofs.SignatureCounts.{image_children_few}
use Rattle.bi_common.specs.VerdictCounts.{hash_counts}
use Rattle.bi_common.proofs.VerdictCounts.{counted_all, one_image_counted}
use Rattle.bi_common.proofs.verdict_counts.judge_hashes.Goals as goal

pub loop-node-init : goal.loop-node-init
loop-node-init c =
    let content = c.args.fit.now in
    let same = c.into_iter-node-iterator.ensures.into_iter_gives in
    let nodes = ap nodes_left same ∙ c.images_with_nodes-node-items.ensures.nodes in
    let images = ap models_left same ∙ c.images_with_nodes-node-items.ensures.images in
    record {
      same_file = refl;
      placed = subst (AreAtTheirPlaces c.region_digests-digests.result) (sym images) c.region_digests-digests.ensures.placed;
      counted = counted_all c.default-counts.result
          (file_verdicts (nodes_left c.into_iter-node-iterator.result) (models_left c.into_iter-node-iterator.result))
          (omega (arith, c.default-counts.ensures))
          ∙ ap hash_counts (ap₂ file_verdicts nodes images ∙ sym (verdicts_are content));
      few = omega (
        arith,
        c.default-counts.ensures,
        ap (λ entries. length (children_of_each entries)) nodes,
        image_children_few content c.requires.held,
      );
    }

pub loop-node-preserved : goal.loop-node-preserved
loop-node-preserved c =
    let steps = c.in-Some.ensures.steps in
    let images = ap (map image_model) steps.images in
    let digests = c.in_ok-count_image.ensures.same in
    let placed = subst (AreAtTheirPlaces c.loop-node.digests) images c.loop-node.invariant.placed in
    record {
      same_file = digests ∙ c.loop-node.invariant.same_file;
      placed = subst (λ file. AreAtTheirPlaces file (models_left c.next.new.self)) (sym digests) placed.1;
      counted = one_image_counted (node_of c.in-Some.node) _ _ (image_model c.in-Some.image.now) _ _ _ c.loop-node.counts
          c.count_image.new.counts _ steps.nodes images (c.region.ensures c.loop-node.digests placed.0).bytes
          c.in_ok-count_image.ensures.counts c.loop-node.invariant.counted;
      few = omega (
        arith,
        c.in_ok-count_image.ensures.few,
        c.loop-node.invariant.few,
        ap (λ entries. length (children_of_each entries)) steps.nodes,
        length-append (siblings (node_of c.in-Some.node).children) (children_of_each (nodes_left c.next.new.self)),
      );
    }
