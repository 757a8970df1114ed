use Rattle.std.proofs.Common.{◌≡◌, ◌+◌, ◌∷◌, map, drop, get_or, add-one, sym, ap, subst, ◌∙◌, nat_cmp}
use Rattle.std.specs.Cmp.Lexicographic.{slice_cmp}
use Rattle.std.specs.FinMap.{entries, entries-from_sorted}
use Rattle.std.proofs.Math.Seq.{drop-cons}
use Rattle.bi_blob.specs.Events.{NodeProperty}
use Rattle.bi_fit.specs.NormalNodes.{MayAdd, with_events}
use Rattle.bi_fit.specs.PropertyMaps.{named_values}
use Rattle.bi_fit.proofs.RankedProperties.{named_in_order}
use Rattle.bi_fit.proofs.AddedProperties.{no_map_entry, IsAddingEntries, may_add_entry, adding_more}
use Rattle.bi_fit.proofs.document.property_map.PropertyMap.add_to.Goals as goal

pub loop-entry-init : goal.loop-entry-init
loop-entry-init c =
    let fields = c.self.inside in
    let all : named_values c.args.doc.now.names c.deref-entry-items.result.now ≡ entries c.args.self.now.by_name =
    ap (λ names. named_values names c.deref-entry-items.result.now) (c.requires.names ∙ sym (ap (λ m. m.names) c.self.view_is))
    ∙ ap (named_values fields.names.now) c.deref-entry-items.ensures.value
    ∙ sym (entries-from_sorted (slice_cmp nat_cmp) (named_values fields.names.now fields.entries.items)
    (named_in_order fields.names.now c.self.invariant.in_order fields.entries.items c.self.invariant.within c.self.invariant.ascending))
    ∙ ap (λ m. entries m.by_name) c.self.view_is in
    record {
      added = ap (λ l. with_events c.args.doc.now (map NodeProperty l)) all;
      may = subst (λ l. MayAdd c.args.doc.now (map NodeProperty l)) (sym all) c.requires.may;
    }

pub add_entry-requires : goal.add_entry-requires
add_entry-requires c =
    let items = c.deref-entry-items.result.now in
    let target = with_events c.args.doc.now (map NodeProperty (entries c.args.self.now.by_name)) in
    let entry = get_or items c.loop-entry.entry-index no_map_entry in
    let later = drop (c.loop-entry.entry-index + 1) items in
    let left : drop c.loop-entry.entry-index items ≡ entry
    ∷ later = rw add-one (drop-cons items c.loop-entry.entry-index no_map_entry c.loop-entry-test.true) in
    may_add_entry c.loop-entry.doc target entry later (subst (IsAddingEntries c.loop-entry.doc target) left c.loop-entry.invariant)

pub loop-entry-preserved : goal.loop-entry-preserved
loop-entry-preserved c =
    let items = c.deref-entry-items.result.now in
    let target = with_events c.args.doc.now (map NodeProperty (entries c.args.self.now.by_name)) in
    let entry = get_or items c.loop-entry.entry-index no_map_entry in
    let later = drop (c.loop-entry.entry-index + 1) items in
    let left : drop c.loop-entry.entry-index items ≡ entry
    ∷ later = rw add-one (drop-cons items c.loop-entry.entry-index no_map_entry c.loop-entry-test.true) in
    adding_more c.loop-entry.doc target entry later
    (subst (IsAddingEntries c.loop-entry.doc target) left c.loop-entry.invariant) c.add_entry.new.doc c.in_ok-add_entry.ensures
