use Rattle.std.proofs.Common.{ap₂, ◌+◌}
use Rattle.bi_fit.proofs.SignatureCounts.{signature_count_is, image_children_few, configuration_children_few}
use Rattle.bi_fit.proofs.fit.Fit.signature_count.Goals as goal

pub count_signatures-requires : goal.count_signatures-requires
count_signatures-requires c = rw (c.image_nodes.ensures) (image_children_few c.args.self.now c.give_invariant.ensures)

pub count_signatures-requires-2 : goal.count_signatures-requires-2
count_signatures-requires-2 c = rw (c.configuration_nodes.ensures) (configuration_children_few c.args.self.now c.give_invariant.ensures)

pub returns : goal.returns
returns c =
    rw (signature_count_is c.args.self.now c.give_invariant.ensures, ← c.image_nodes.ensures, ← c.configuration_nodes.ensures)
    (ap₂ (λ m n. m + n) c.count_signatures.ensures.count c.count_signatures-2.ensures.count)
