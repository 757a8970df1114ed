use Rattle.std.proofs.Common.{◌++◌, map, sym, ap, subst, ◌∙◌}
use Rattle.std.proofs.lemmas.Bool.{not-false}
use Rattle.bi_fdt.specs.Views.{node_of}
use Rattle.bi_fit.specs.Content.{image_model, AreAtTheirPlaces}
use Rattle.bi_fit.specs.ImagesWithNodes.{models_left}
use Rattle.bi_fit.specs.NewDigests.{digests_of_image}
use Rattle.bi_fit.specs.NormalNodes.{nodes_by_name}
use Rattle.bi_fit.proofs.NewDigests.{file_image_digests, new_digests_are}
use Rattle.bi_fit.proofs.Zips.{one_pair_more, no_pair_more}
use Rattle.bi_fit.proofs.fit.Fit.new_digests.Goals as goal

pub returns-clause-digests : goal.returns-clause-digests
returns-clause-digests c =
    no_pair_more file_image_digests _ (models_left c.loop-node.node-iterator) c.loop-node.digests.items _ c.loop-node.invariant.so_far
    c.in-None.ensures.steps.nodes
    ∙ sym (new_digests_are c.args.self.now c.args.changes (not-false c.args.changes.hashes c.if-not-changes.false))

pub loop-node-preserved : goal.loop-node-preserved
loop-node-preserved c =
    let steps = c.in-Some.ensures.steps in
    let images = ap (map image_model) steps.images in
    let placed = subst (AreAtTheirPlaces c.loop-node.region_digests) images c.loop-node.invariant.placed in
    record {
      placed = subst (λ file. AreAtTheirPlaces file (models_left c.next.new.self)) (sym c.in_ok-append_digests.ensures.same) placed.1;
      so_far = one_pair_more file_image_digests _ _ c.loop-node.digests.items _ c.loop-node.invariant.so_far (node_of c.in-Some.node)
          (image_model c.in-Some.image.now) _ _ _ steps.nodes images
          (c.in_ok-append_digests.ensures.added
          ∙ ap (λ payload. c.loop-node.digests.items ++ digests_of_image payload (nodes_by_name (node_of c.in-Some.node).children))
          (c.region.ensures c.loop-node.region_digests placed.0).bytes);
    }
