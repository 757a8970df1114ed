use Rattle.std.proofs.Common.{length, sym, ap, subst, ◌∙◌, arith}
use Rattle.std.specs.Cmp.Lexicographic.{slice_cmp}
use Rattle.std.specs.List.{AllZip, flat_map}
use Rattle.std.specs.List.Sorted.{IsStrictlySortedBy}
use Rattle.std.specs.Ordering.{nat_cmp}
use Rattle.std.proofs.lemmas.Slice.Zip.{AllZip-long}
use Rattle.bi_base.specs.Slices.{bytes_of}
use Rattle.bi_blob.specs.Tree.{AreDistinct}
use Rattle.bi_fdt.specs.Numbers.{AreNumbered, IsNumbered, IsNumberOf, names_of_table}
use Rattle.bi_fdt.specs.Order.{IsPropertyOrder}
use Rattle.bi_fdt.specs.Ranks.{AreRanksOf}
use Rattle.bi_fit.specs.ChangedNames.{with_changed_names}
use Rattle.bi_fit.specs.LongNames.{name_if_long}
use Rattle.bi_fit.proofs.ChangedNames.{changed_distinct, changed_begin, changed_short, numbered_more}
use Rattle.bi_fit.proofs.LongNames.{long_names_in_order}
use Rattle.bi_fit.proofs.name_order.NameOrder.new.Goals as goal
use Rattle.bi_fit.proofs.name_order.NameOrder.new.Goals.{In_ok-ranked, In_ok-keys}

pub rank_names-requires : goal.rank_names-requires
rank_names-requires c =
    let base = names_of_table c.args.blob.now.table in
    subst AreDistinct (sym (ap bytes_of c.deref.ensures.value ∙ c.in_ok-numbers.ensures.names))
    (changed_distinct base c.names.ensures.distinct)

-- The names are those of the file and those that a text changes, and these are their ranks.
ranked : (c : In_ok-ranked) → AreRanksOf (with_changed_names (names_of_table c.args.blob.now.table))
    (bytes_of c.in_ok-ranked.ranked.names.items) c.in_ok-ranked.ranked.ranks.items
ranked c =
    subst (λ names. AreRanksOf names (bytes_of c.in_ok-ranked.ranked.names.items) c.in_ok-ranked.ranked.ranks.items)
    (ap bytes_of c.deref.ensures.value ∙ c.in_ok-numbers.ensures.names) c.in_ok-ranked.ensures

-- Each key is the rank of the name of its property.
numbered : (c : In_ok-keys) →
    AreRanksOf (with_changed_names (names_of_table c.args.blob.now.table))
    (bytes_of c.in_ok-ranked.ranked.names.items) c.in_ok-ranked.ranked.ranks.items →
    AreNumbered (bytes_of c.in_ok-ranked.ranked.names.items) c.args.blob.now.table c.in_ok-keys.keys.items
numbered c are =
    let table = c.args.blob.now.table in
    let base = names_of_table table in
    let all = with_changed_names base in
    let sorted = bytes_of c.in_ok-ranked.ranked.names.items in
    c.in_ok-keys.ensures.numbers all sorted table
    (subst (AllZip (IsNumberOf sorted) all) (sym c.deref-2.ensures.value) are.ranked)
    (subst (AreNumbered all table) (sym c.deref-3.ensures.value)
    (numbered_more base all (changed_begin base) table c.in_ok-name_numbers.field-0.items c.in_ok-name_numbers.ensures))

pub new-requires : goal.new-requires
new-requires c =
    let table = c.args.blob.now.table in
    ap length c.deref-4.ensures.value ∙ c.in_ok-keys.ensures.count ∙ ap length c.deref-3.ensures.value
    ∙ AllZip-long (IsNumbered (names_of_table table)) table c.in_ok-name_numbers.field-0.items c.in_ok-name_numbers.ensures

pub returns-clause-order : goal.returns-clause-order
returns-clause-order c =
    let at = goal.at.returns-clause-order c in
    let table = c.args.blob.now.table in
    record {
      sorted = subst (IsStrictlySortedBy (slice_cmp nat_cmp)) (sym c.new-2.ensures) (ranked at.In_ok-ranked).in_order;
      in_order = record {
        keys = c.in_ok-keys.keys.items;
        numbered = subst (λ names. AreNumbered names table c.in_ok-keys.keys.items) (sym c.new-2.ensures)
            (numbered at.In_ok-keys (ranked at.In_ok-ranked));
        ordered = subst (λ keys. IsPropertyOrder table keys c.in_ok-properties.properties)
            c.deref-4.ensures.value c.in_ok-properties.ensures;
      };
    }

pub returns-clause-short : goal.returns-clause-short
returns-clause-short c =
    let base = names_of_table c.args.blob.now.table in
    let sorted = bytes_of c.in_ok-ranked.ranked.names.items in
    let are = ranked (goal.at.returns-clause-short c).In_ok-ranked in
    let long = long_names_in_order sorted base are.in_order (changed_short base sorted are.same_names) in
    let shown = ap (λ names. length (flat_map name_if_long names)) c.new-2.ensures in
    let same = ap (λ names. length (flat_map name_if_long names)) c.names.ensures.names in
    omega (arith, long, shown, same, c.in_ok-check_long_names.ensures.ok)
