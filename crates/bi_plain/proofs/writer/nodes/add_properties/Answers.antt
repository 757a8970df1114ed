use Rattle.std.proofs.Common.{◌≡◌, OnOk, map, sym, ap, subst, ◌∙◌}
use Rattle.std.proofs.lemmas.List.Sorted.{IsNonDecreasingBy-from_sort}
use Rattle.bi_blob.specs.Events.{NodeProperty}
use Rattle.bi_fdt.proofs.DistinctKeys.{first_not_less}
use Rattle.bi_fit.specs.NormalNodes.{MayAdd, with_events}
use Rattle.bi_tree.specs.Properties.{tree_properties}
use Rattle.bi_plain.specs.Ranked.{named_entries, sorted_own}
use Rattle.bi_plain.proofs.SortedEntries.{sorted_entries}
use Rattle.bi_plain.proofs.writer.nodes.add_properties.Goals as goal

pub add_entries-requires : goal.add_entries-requires
add_entries-requires c =
    let names = c.args.doc.now.names in
    let own = tree_properties c.args.properties.now in
    let sorted : named_entries names c.deref.result.now ≡ sorted_own own =
    ap (named_entries names) c.deref.ensures.value
    ∙ sorted_entries names c.args.ranks.now own c.in_ok-entries.entries.items c.sort_unstable.new.self.items c.requires.in_order
    c.requires.ranked c.in_ok-entries.ensures c.sort_unstable.ensures.permutation
    (IsNonDecreasingBy-from_sort (λ entry. entry.0) c.sort_unstable.new.self.items
    (λ k d least before. first_not_less _ _ (c.sort_unstable.ensures.sorted k d least before))) in
    subst (λ l. MayAdd c.args.doc.now (map NodeProperty l)) (sym sorted) c.requires.may

pub returns : goal.returns
returns c =
    let names = c.args.doc.now.names in
    let own = tree_properties c.args.properties.now in
    let sorted : named_entries names c.deref.result.now ≡ sorted_own own =
    ap (named_entries names) c.deref.ensures.value
    ∙ sorted_entries names c.args.ranks.now own c.in_ok-entries.entries.items c.sort_unstable.new.self.items c.requires.in_order
    c.requires.ranked c.in_ok-entries.ensures c.sort_unstable.ensures.permutation
    (IsNonDecreasingBy-from_sort (λ entry. entry.0) c.sort_unstable.new.self.items
    (λ k d least before. first_not_less _ _ (c.sort_unstable.ensures.sorted k d least before))) in
    record {
      added = subst (λ l. OnOk c.add_entries.result (c.add_entries.new.doc ≡ with_events c.args.doc.now (map NodeProperty l)))
          sorted c.add_entries.ensures;
    }
