use Rattle.std.specs.Prelude.{ℕ, List}
use Rattle.std.specs.Cmp.Lexicographic.{slice_cmp}
use Rattle.std.specs.List.Sorted.{IsStrictlySortedBy}
use Rattle.std.specs.Ordering.{nat_cmp}
use Rattle.bi_fdt.specs.Order.{IsNumberOrder}
use Rattle.bi_fdt.specs.TableItems.{TableItem}

-- The order of the properties of a blob.

-- The properties of each node of a table are in byte order of their names.
pub record IsByName (table : List TableItem) (order : List (ℕ × ℕ)) : Type 0 where
  pub names : List (List ℕ)
  pub sorted : IsStrictlySortedBy (slice_cmp nat_cmp) names
  pub in_order : IsNumberOrder names table order
