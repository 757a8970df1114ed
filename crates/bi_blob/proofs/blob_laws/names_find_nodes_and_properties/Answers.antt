use Rattle.bi_blob.proofs.Blobs.Lookups.{nodes_are_found, properties_are_found}
use Rattle.bi_blob.proofs.blob_laws.names_find_nodes_and_properties.Goals as goal

pub returns : goal.returns
returns c = record { nodes = nodes_are_found; properties = properties_are_found }
