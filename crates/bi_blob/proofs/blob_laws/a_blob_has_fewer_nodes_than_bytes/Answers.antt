use Rattle.bi_blob.proofs.Blobs.NodeCounts.{fewer_nodes_than_bytes}
use Rattle.bi_blob.proofs.blob_laws.a_blob_has_fewer_nodes_than_bytes.Goals as goal

pub returns : goal.returns
returns c = fewer_nodes_than_bytes
