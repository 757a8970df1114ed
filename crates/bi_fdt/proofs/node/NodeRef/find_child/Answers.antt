use Rattle.std.proofs.Common.{rules}
use Rattle.std.proofs.lemmas.List.{length-drop}
use Rattle.std.proofs.lemmas.Option.{slice_get_within}
use Rattle.bi_fdt.proofs.NodeViews.{children_few, lookup_passes, next_child_at}
use Rattle.bi_blob.proofs.Blobs.Lookups.{siblings_from-first, siblings_from-next}
use Rattle.bi_fdt.proofs.node.NodeRef.find_child.Goals as goal

pub loop-next-init : goal.loop-next-init
loop-next-init c = search (rules, siblings_from-first)

pub overflow_add-position : goal.overflow_add-position
overflow_add-position c = search (rules, slice_get_within, children_few, length-drop)

pub loop-next-smaller : goal.loop-next-smaller
loop-next-smaller c = search (rules, siblings_from-next)

pub loop-next-preserved : goal.loop-next-preserved
loop-next-preserved c = search (rules, lookup_passes, siblings_from-next, next_child_at)
