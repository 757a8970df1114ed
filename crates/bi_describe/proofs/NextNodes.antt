use Rattle.std.proofs.Common.{◌≡◌, ℕ, List, Option, Some, None, sym, subst}
use Rattle.std.specs.Prelude.{IfSome}
use Rattle.bi_fdt.specs.declared.node.NodeRef.{NodeRef}
use Rattle.bi_fdt.specs.Views.{table_of_node}
use Rattle.bi_describe.specs.PropertyOrders.{IsByName}

-- The order of the names of a node's blob is that of the nodes after it.

-- The order is of the blob of the next node, if there is one.
abbrev pub HasOrderOfNext : List (ℕ × ℕ) → Option NodeRef → Type 0
HasOrderOfNext order next = IfSome next (λ node. IsByName (table_of_node node) order)

-- It is if the next node is of the same blob as a node of whose blob the order is.
pub next_in_order : {order : List (ℕ × ℕ)} (node : NodeRef) (next : Option NodeRef) →
    IfSome next (λ other. table_of_node other ≡ table_of_node node) → IsByName (table_of_node node) order → HasOrderOfNext order next
next_in_order node None same is = same
next_in_order {order = order} node (Some next) same is = subst (λ table. IsByName table order) (sym same) is
