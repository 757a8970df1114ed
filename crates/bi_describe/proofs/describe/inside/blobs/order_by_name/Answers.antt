use Rattle.std.proofs.Common.{length, sym, ap, subst, ◌∙◌}
use Rattle.std.specs.List.{AllZip}
use Rattle.std.proofs.lemmas.Slice.Zip.{AllZip-long}
use Rattle.bi_base.specs.Slices.{bytes_of}
use Rattle.bi_blob.specs.Tree.{AreDistinct}
use Rattle.bi_fdt.specs.Numbers.{AreNumbered, IsNumbered, IsNumberOf, names_of_table}
use Rattle.bi_fdt.specs.Order.{IsPropertyOrder}
use Rattle.bi_fdt.specs.Ranks.{AreRanksOf}
use Rattle.bi_describe.proofs.describe.inside.blobs.order_by_name.Goals as goal
use Rattle.bi_describe.proofs.describe.inside.blobs.order_by_name.Goals.{In_ok-ranked, In_ok-keys}

pub rank_names-requires : goal.rank_names-requires
rank_names-requires c = subst AreDistinct (sym c.names.ensures.names) c.names.ensures.distinct

-- These are the ranks of the names of the blob.
ranked : (c : In_ok-ranked) → AreRanksOf (names_of_table c.args.blob.now.table)
    (bytes_of c.in_ok-ranked.ranked.names.items) c.in_ok-ranked.ranked.ranks.items
ranked c =
    subst (λ names. AreRanksOf names (bytes_of c.in_ok-ranked.ranked.names.items) c.in_ok-ranked.ranked.ranks.items)
    c.names.ensures.names c.in_ok-ranked.ensures

-- Each key is the rank of the name of its property.
numbered : (c : In_ok-keys) →
    AreRanksOf (names_of_table c.args.blob.now.table) (bytes_of c.in_ok-ranked.ranked.names.items) c.in_ok-ranked.ranked.ranks.items →
    AreNumbered (bytes_of c.in_ok-ranked.ranked.names.items) c.args.blob.now.table c.in_ok-keys.keys.items
numbered c are =
    let table = c.args.blob.now.table in
    let names = names_of_table table in
    let sorted = bytes_of c.in_ok-ranked.ranked.names.items in
    c.in_ok-keys.ensures.numbers names sorted table
    (subst (AllZip (IsNumberOf sorted) names) (sym c.deref.ensures.value) are.ranked)
    (subst (AreNumbered names table) (sym c.deref-2.ensures.value) c.in_ok-name_numbers.ensures)

pub new-requires : goal.new-requires
new-requires c =
    let table = c.args.blob.now.table in
    ap length c.deref-3.ensures.value ∙ c.in_ok-keys.ensures.count ∙ ap length c.deref-2.ensures.value
    ∙ AllZip-long (IsNumbered (names_of_table table)) table c.in_ok-name_numbers.field-0.items c.in_ok-name_numbers.ensures

pub returns : goal.returns
returns c =
    let at = goal.at.returns c in
    record {
      names = bytes_of c.in_ok-ranked.ranked.names.items;
      sorted = (ranked at.In_ok-ranked).in_order;
      in_order = record {
        keys = c.in_ok-keys.keys.items;
        numbered = numbered at.In_ok-keys (ranked at.In_ok-ranked);
        ordered = subst (λ keys. IsPropertyOrder c.args.blob.now.table keys c.in_ok-order.order)
            c.deref-3.ensures.value c.in_ok-order.ensures;
      };
    }
