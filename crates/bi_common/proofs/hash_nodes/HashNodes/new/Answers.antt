use Rattle.std.proofs.Common.{ap, map, ◌∙◌}
use Rattle.std.specs.Option.{option_map}
use Rattle.bi_blob.specs.Lookups.{siblings, siblings_from}
use Rattle.bi_fdt.specs.Views.{node_of}
use Rattle.bi_fit.specs.Content.{image_model}
use Rattle.bi_fit.proofs.Siblings.{from_first}
use Rattle.bi_hash.specs.Regions.{bytes_of_region}
use Rattle.bi_common.specs.HashedImages.{FoundHash, found_hashes}
use Rattle.bi_common.proofs.HashedImages.{verdicts_of_found}
use Rattle.bi_common.proofs.hash_nodes.HashNodes.new.Goals as goal

pub returns-clause-found : goal.returns-clause-found
returns-clause-found c =
    let file = c.args.digests.now in
    let entry = node_of c.args.node in
    let region = c.region.ensures file c.requires.placed in
    let children = siblings_from (option_map node_of c.first_child.result) in
    ap (λ name. found_hashes name (option_map (bytes_of_region file) c.region.result) children) c.name.ensures
    ∙ ap (λ payload. found_hashes entry.name payload children) region.bytes
    ∙ ap (found_hashes entry.name (image_model c.args.image.now).payload)
    (from_first c.first_child.result entry.children c.first_child.ensures.child)

pub returns-clause-hashes : goal.returns-clause-hashes
returns-clause-hashes c =
    let entry = node_of c.args.node in
    ap (map (λ (hash : FoundHash). hash.checked)) (returns-clause-found c)
    ∙ verdicts_of_found entry.name (image_model c.args.image.now).payload (siblings entry.children)
