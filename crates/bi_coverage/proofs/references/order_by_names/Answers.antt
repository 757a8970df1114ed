use Rattle.std.proofs.Common.{length, sym, ap, subst, ◌∙◌}
use Rattle.std.specs.List.{AllZip}
use Rattle.std.proofs.lemmas.Slice.Zip.{AllZip-long}
use Rattle.bi_base.specs.Slices.{bytes_of}
use Rattle.bi_fdt.specs.Numbers.{AreNumbered, IsNumbered, IsNumberOf, names_of_table}
use Rattle.bi_fdt.specs.Order.{IsPropertyOrder}
use Rattle.bi_fdt.specs.Ranks.{AreRanksOf}
use Rattle.bi_coverage.proofs.references.order_by_names.Goals as goal

pub new-requires : goal.new-requires
new-requires c =
    let table = c.args.blob.now.table in
    ap length c.deref-3.ensures.value ∙ c.in_ok-keys.ensures.count ∙ ap length c.deref-2.ensures.value
    ∙ AllZip-long (IsNumbered (names_of_table table)) table c.in_ok-name_numbers.field-0.items c.in_ok-name_numbers.ensures

pub returns : goal.returns
returns c =
    let table = c.args.blob.now.table in
    let base = names_of_table table in
    let sorted = bytes_of c.in_ok-ranked.ranked.names.items in
    let ranked : AreRanksOf base sorted c.in_ok-ranked.ranked.ranks.items =
    subst (λ names. AreRanksOf names sorted c.in_ok-ranked.ranked.ranks.items) c.names.ensures.names c.in_ok-ranked.ensures in
    record {
      names = sorted;
      sorted = ranked.in_order;
      in_order = record {
        keys = c.in_ok-keys.keys.items;
        numbered = c.in_ok-keys.ensures.numbers base sorted table
            (subst (AllZip (IsNumberOf sorted) base) (sym c.deref.ensures.value) ranked.ranked)
            (subst (AreNumbered base table) (sym c.deref-2.ensures.value) c.in_ok-name_numbers.ensures);
        ordered = subst (λ keys. IsPropertyOrder table keys c.in_ok-order.order) c.deref-3.ensures.value c.in_ok-order.ensures;
      };
    }
