use Rattle.std.proofs.Common.{ap, ◌∙◌}
use Rattle.bi_blob.specs.Lookups.{siblings_from}
use Rattle.bi_blob.proofs.Blobs.Lookups.{siblings_from-first}
use Rattle.bi_fdt.specs.Views.{node_of}
use Rattle.bi_c.proofs.nodes.first_child.Goals as goal

pub returns-in-Some : goal.returns-in-Some
returns-in-Some c = rw c.in-Some.is (ap siblings_from c.first_child.ensures.child ∙ siblings_from-first (node_of c.in-Some.node).children)
