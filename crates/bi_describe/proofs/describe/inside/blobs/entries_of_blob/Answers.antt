use Rattle.std.proofs.Common.{sym, subst}
use Rattle.bi_blob.specs.Tree.{EachOwn}
use Rattle.bi_fit.specs.NormalNodes.{HasDistinctNames}
use Rattle.bi_describe.proofs.InsideBlobs.{children_distinct}
use Rattle.bi_describe.proofs.describe.inside.blobs.entries_of_blob.Goals as goal

pub add_children-requires-clause-distinct : goal.add_children-requires-clause-distinct
add_children-requires-clause-distinct c =
    subst (λ s. EachOwn HasDistinctNames s.children) (sym c.root-2.ensures.root) (children_distinct _ _ _ _ c.requires)
