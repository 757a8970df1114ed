use Rattle.std.specs.Prelude.{◌≡◌, ℕ, List}
use Rattle.std.specs.Cmp.Lexicographic.{slice_cmp}
use Rattle.std.specs.List.Sorted.{IsStrictlySortedBy}
use Rattle.std.specs.Ordering.{nat_cmp}
use Rattle.bi_fdt.specs.declared.node.NodeRef.{NodeRef}
use Rattle.bi_fdt.specs.TableItems.{TableItem}
use Rattle.bi_fdt.specs.Views.{table_of_node}
use Rattle.bi_fdt.specs.Order.{IsNumberOrder}
use Rattle.bi_fit.specs.declared.name_order.NameOrder.{NameOrder}

-- The order of the names of a file's properties.

-- The properties of each node of a table are in byte order of their names, which are among these.
pub record IsNameOrder (table : List TableItem) (order : NameOrder) : Type 0 where
  pub sorted : IsStrictlySortedBy (slice_cmp nat_cmp) order.names
  pub in_order : IsNumberOrder order.names table order.properties

-- The order is of the blob of this node, and its names are these.
pub record HasOrder (names : List (List ℕ)) (order : NameOrder) (node : NodeRef) : Type 0 where
  pub same_names : names ≡ order.names
  pub is_order : IsNameOrder (table_of_node node) order
