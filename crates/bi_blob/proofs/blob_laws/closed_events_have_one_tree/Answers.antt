use Rattle.bi_blob.proofs.Blobs.EventTrees.{closed_events_have_one_tree}
use Rattle.bi_blob.proofs.blob_laws.closed_events_have_one_tree.Goals as goal

pub returns : goal.returns
returns c = closed_events_have_one_tree
