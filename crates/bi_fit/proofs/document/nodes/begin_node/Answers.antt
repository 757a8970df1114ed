use Rattle.std.proofs.Common.{sym, ap, ◌∙◌}
use Rattle.bi_fit.proofs.document.nodes.begin_node.Goals as goal

pub from_node-requires-clause-order : goal.from_node-requires-clause-order
from_node-requires-clause-order c = c.requires.order.is_order

pub begin_with-requires-clause-names : goal.begin_with-requires-clause-names
begin_with-requires-clause-names c = c.requires.order.same_names ∙ sym (ap (λ m. m.names) c.in_ok-properties.ensures)
