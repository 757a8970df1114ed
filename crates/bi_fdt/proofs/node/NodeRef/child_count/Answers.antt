use Rattle.std.proofs.Common.{rules}
use Rattle.std.proofs.lemmas.List.{length-drop}
use Rattle.bi_fdt.proofs.NodeViews.{children_few}
use Rattle.bi_blob.proofs.Blobs.Lookups.{siblings_from-first, siblings_from-next}
use Rattle.bi_fdt.proofs.node.NodeRef.child_count.Goals as goal

pub loop-next-init : goal.loop-next-init
loop-next-init c = search (rules, siblings_from-first)

pub overflow_add-count : goal.overflow_add-count
overflow_add-count c = search (rules, children_few, length-drop)

pub loop-next-smaller : goal.loop-next-smaller
loop-next-smaller c = search (rules, siblings_from-next)

pub loop-next-preserved : goal.loop-next-preserved
loop-next-preserved c = search (rules, siblings_from-next)
