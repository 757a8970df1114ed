use Rattle.bi_blob.proofs.Blobs.BeforeTree.{fault_before_tree_comes_first}
use Rattle.bi_blob.proofs.blob_laws.fault_before_tree_comes_first.Goals as goal

pub returns : goal.returns
returns c = fault_before_tree_comes_first
