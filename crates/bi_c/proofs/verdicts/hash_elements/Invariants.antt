use Rattle.std.proofs.Common.{◌≡◌, ◌++◌, drop, map}
use Rattle.std.specs.Option.{option_map}
use Rattle.bi_blob.specs.Lookups.{siblings, siblings_from}
use Rattle.bi_fdt.specs.Views.{node_of}
use Rattle.bi_fit.specs.Content.{AreAtTheirPlaces, image_model, payloads_of_models}
use Rattle.bi_fit.specs.HashNodes.{file_images}
use Rattle.bi_c.specs.VerdictElements.{hash_elements}
use Rattle.bi_c.proofs.verdicts.hash_elements.Given as goal

-- The elements so far and those of the hash nodes of the images that are left are all elements.
abbrev pub invariant-loop-image : goal.invariant-loop-image
invariant-loop-image l =
    let nodes = siblings_from (option_map node_of l.next) in
    let images = map image_model (drop l.image-index l.image-items) in
    record {
      placed : AreAtTheirPlaces l.digests images;
      added : l.elements.items ++ hash_elements nodes (payloads_of_models images)
          ≡ hash_elements (siblings (file_images l.fit.blob)) (payloads_of_models l.fit.images);
    }
