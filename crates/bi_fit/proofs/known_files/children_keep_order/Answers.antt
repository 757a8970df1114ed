use Rattle.bi_fit.proofs.FileFacts.{children_keep_order}
use Rattle.bi_fit.proofs.known_files.children_keep_order.Goals as goal

pub returns : goal.returns
returns c = record { order = children_keep_order }
