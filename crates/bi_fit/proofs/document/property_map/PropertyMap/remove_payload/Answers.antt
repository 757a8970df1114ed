use Rattle.std.proofs.Common.{◌<◌, T, length, sym, subst, ap, ◌∙◌, nat_cmp, rules}
use Rattle.std.specs.Cmp.Lexicographic.{slice_cmp}
use Rattle.std.specs.FinMap.{from_sorted, is_sorted}
use Rattle.bi_fit.specs.PropertyMaps.{named_values, AreRanksWithin}
use Rattle.std.specs.FinMap.Entries.{is_sorted-where_key}
use Rattle.std.proofs.lemmas.Fn.{filter_same}
use Rattle.bi_base.proofs.ListMembers.{each-filter}
use Rattle.bi_fit.specs.ChangedNames.{is_payload_rank}
use Rattle.std.specs.Prelude.{not}
use Rattle.bi_fit.specs.PropertyMapModels.{among}
use Rattle.bi_fit.specs.ImageTree.{without_payload}
use Rattle.bi_fit.proofs.RankedProperties.{keeps_value, by_name-filter}
use Rattle.bi_fit.proofs.document.property_map.PropertyMap.remove_payload.Goals as goal

pub invariant_of-self : goal.invariant_of-self
invariant_of-self c =
    let names = c.self.inside.names.now in
    let entries = c.self.inside.entries.items in
    let keeps = keeps_value names c.self.invariant.in_order c.ranks-ranks.result c.ranks-ranks.ensures in
    let kept = filter_same _ keeps _ (λ x b f' t. search rules) _ _ c.retain.ensures.filtered in
    record {
      in_order = c.self.invariant.in_order;
      within = subst (AreRanksWithin names) (sym kept)
          (each-filter (λ entry. entry.0 < length names) keeps entries c.self.invariant.within);
      ascending = subst (λ l. T (is_sorted nat_cmp l)) (sym kept)
          (is_sorted-where_key nat_cmp (λ rank. not (is_payload_rank c.ranks-ranks.result rank)) entries c.self.invariant.ascending);
    }

pub returns : goal.returns
returns c =
    let names = c.self.inside.names.now in
    let entries = c.self.inside.entries.items in
    let keeps = keeps_value names c.self.invariant.in_order c.ranks-ranks.result c.ranks-ranks.ensures in
    let kept = filter_same _ keeps _ (λ x b f' t. search rules) _ _ c.retain.ensures.filtered in
    ap (λ l. among names (from_sorted {R = slice_cmp nat_cmp} (named_values names l))) kept
    ∙ (ap (among names) (by_name-filter names c.self.invariant.in_order c.ranks-ranks.result c.ranks-ranks.ensures entries
    c.self.invariant.within c.self.invariant.ascending)
    ∙ ap (λ m. among m.names (without_payload m.by_name)) c.self.view_is)
