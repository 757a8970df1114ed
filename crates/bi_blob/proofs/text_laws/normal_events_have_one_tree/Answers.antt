use Rattle.bi_blob.proofs.Texts.NormalEvents.{normal_events_have_one_tree}
use Rattle.bi_blob.proofs.text_laws.normal_events_have_one_tree.Goals as goal

pub returns : goal.returns
returns c = normal_events_have_one_tree
