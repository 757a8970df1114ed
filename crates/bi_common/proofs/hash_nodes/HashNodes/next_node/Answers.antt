use Rattle.std.specs.Option.{option_map}
use Rattle.bi_blob.specs.Lookups.{siblings_from}
use Rattle.bi_fdt.specs.Views.{node_of}
use Rattle.bi_fit.proofs.Siblings.{from_next}
use Rattle.bi_hash.specs.Regions.{bytes_of_region}
use Rattle.bi_common.proofs.HashedImages.{first_judged}
use Rattle.bi_common.proofs.hash_nodes.HashNodes.next_node.Goals as goal

pub returns-in-Some : goal.returns-in-Some
returns-in-Some c =
    let hashes = c.args.self.now in
    first_judged hashes.image.now (option_map (bytes_of_region hashes.digests.now) hashes.payload) (node_of c.in-Some.node)
    (siblings_from (option_map node_of hashes.next)) (siblings_from (option_map node_of c.first_hash_node.result)) _ _
    c.first_hash_node.ensures.left (from_next c.first_hash_node.result c.next_sibling-self.result c.in-Some.node c.in-Some.is
    c.next_sibling-self.ensures.sibling) c.in-Some.ensures.hash c.judge.ensures
