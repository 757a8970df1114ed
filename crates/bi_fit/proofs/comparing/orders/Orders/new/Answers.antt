use Rattle.std.proofs.Common.{◌++◌, sym, subst}
use Rattle.std.specs.List.{AllZip}
use Rattle.std.proofs.lemmas.Slice.Zip.{AllZip-long}
use Rattle.bi_blob.specs.Tree.{AreDistinct}
use Rattle.bi_fdt.specs.Numbers.{FindsNumber, IsNumberOf, IsNumbered, AreNumbered, names_of_table}
use Rattle.bi_fdt.specs.Order.{IsPropertyOrder}
use Rattle.bi_fit.specs.CommonNumbers.{HaveNumbersAfter}
use Rattle.bi_fit.proofs.comparing.orders.Orders.new.Goals as goal
use Rattle.bi_fit.proofs.comparing.orders.Orders.new.Goals.{After-deref-4}

-- The names of both blobs have numbers by one list.
common : (c : After-deref-4) →
    HaveNumbersAfter (names_of_table c.args.own.now.table) (names_of_table c.args.other.now.table) c.in_ok-numbers.numbers.items
common c =
    let own = c.names-2.ensures.names in
    subst (λ names. HaveNumbersAfter names (names_of_table c.args.other.now.table) c.in_ok-numbers.numbers.items) own
    (c.in_ok-numbers.ensures (names_of_table c.args.other.now.table) (subst AreDistinct (sym own) c.names-2.ensures.distinct)
    c.names.ensures.distinct
    (subst (λ names. AllZip (FindsNumber names) (names_of_table c.args.other.now.table) c.deref.result.now) (sym own)
    (subst (AllZip (FindsNumber (names_of_table c.args.own.now.table)) (names_of_table c.args.other.now.table)) (sym c.deref.ensures.value)
    c.in_ok-found.ensures)))

-- So have the properties of the second blob.
numbered : (c : After-deref-4) → AreNumbered (names_of_table c.args.own.now.table ++ (common c).more) c.args.other.now.table
    c.in_ok-other_keys.other_keys.items
numbered c =
    c.in_ok-other_keys.ensures.numbers (names_of_table c.args.other.now.table) (names_of_table c.args.own.now.table ++ (common c).more)
    c.args.other.now.table
    (subst (AllZip (IsNumberOf (names_of_table c.args.own.now.table ++ (common c).more)) (names_of_table c.args.other.now.table))
    (sym c.deref-2.ensures.value) (common c).numbered)
    (subst (AreNumbered (names_of_table c.args.other.now.table) c.args.other.now.table)
    (sym c.deref-3.ensures.value) c.in_ok-name_numbers.ensures)

pub new-requires : goal.new-requires
new-requires c = rw c.deref-4.ensures.value (AllZip-long (IsNumbered
    (names_of_table c.args.own.now.table)) c.args.own.now.table c.in_ok-keys.keys.items c.in_ok-keys.ensures)

pub new-requires-2 : goal.new-requires-2
new-requires-2 c =
    let own = (goal.at.new-requires-2 c).After-deref-4 in
    rw c.deref-5.ensures.value (AllZip-long (IsNumbered (names_of_table c.args.own.now.table ++ (common own).more)) c.args.other.now.table
    c.in_ok-other_keys.other_keys.items (numbered own))

pub returns : goal.returns
returns c node other_node same other_same =
    let before = (goal.at.returns c).After-deref-4 in
    let names = names_of_table c.args.own.now.table in
    record {
      names = names;
      more = (common before).more;
      distinct = (common before).distinct;
      own_order = rw same (record {
        keys = c.in_ok-keys.keys.items;
        numbered = c.in_ok-keys.ensures;
        ordered = subst
            (λ keys. IsPropertyOrder c.args.own.now.table keys c.in_ok-new.field-0) c.deref-4.ensures.value c.in_ok-new.ensures;
      });
      other_order = rw other_same (record {
        keys = c.in_ok-other_keys.other_keys.items;
        numbered = numbered before;
        ordered = subst
            (λ keys. IsPropertyOrder c.args.other.now.table keys c.in_ok-new-2.field-0) c.deref-5.ensures.value c.in_ok-new-2.ensures;
      });
    }
