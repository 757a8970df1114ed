use Rattle.std.proofs.Common.{sym, ap, ◌++◌, ◌∙◌, append-nil}
use Rattle.std.specs.Option.{option_map}
use Rattle.bi_hash.specs.Regions.{bytes_of_region}
use Rattle.bi_fdt.specs.Views.{node_of}
use Rattle.bi_fit.specs.Siblings.{siblings_left}
use Rattle.bi_fit.proofs.NewDigests.{file_digests, digests_are}
use Rattle.bi_fit.proofs.new_digests.append_digests.Goals as goal

pub returns-clause-added : goal.returns-clause-added
returns-clause-added c =
    let payload = option_map (bytes_of_region c.args.region_digests.now) c.args.payload in
    sym (append-nil c.loop-node.digests.items)
    ∙ ap (λ nodes. c.loop-node.digests.items ++ file_digests payload nodes) (sym c.in-None.ensures.steps.0)
    ∙ c.loop-node.invariant.so_far
    ∙ ap (λ nodes. c.args.digests.now.items ++ file_digests payload nodes)
    (ap siblings_left c.into_iter-node-iterator.ensures.into_iter_gives ∙ c.children-node-items.ensures)
    ∙ ap (λ l. c.args.digests.now.items ++ l) (digests_are payload (node_of c.args.image).children)
