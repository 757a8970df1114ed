use Rattle.std.proofs.Common.{◌≡◌, ℕ, ◌<◌, Bool, List, T, slice_get, length, set, sym, ap, subst, ◌∙◌, nat_cmp}
use Rattle.std.specs.FinMap.{is_sorted, put}
use Rattle.std.specs.FinMap.Entries.{is_sorted-put}
use Rattle.std.specs.List.{insert as insert_at}
use Rattle.std.proofs.lemmas.Cmp.{nat_cmp_total}
use Rattle.std.proofs.lemmas.Option.{slice_get_within}
use Rattle.bi_lay.specs.declared.items.Value.{Value}
use Rattle.bi_lay.specs.Values.{value_bytes}
use Rattle.bi_fdt.specs.Numbers.{IsNumberOf}
use Rattle.bi_fit.specs.PropertyMapModels.{PropertyMapModel, with_property_value}
use Rattle.bi_fit.specs.PropertyMaps.{AreRanksWithin, index_of_rank, is_entry_ranked, IsConsistentMap}
use Rattle.bi_fit.proofs.RankedProperties.{within-put, model-put, index_within, put_new, put_other}
use Rattle.bi_fit.specs.declared.document.property_map.PropertyMap.TheInside.{Inside as Fields}
use Rattle.bi_fit.proofs.document.property_map.PropertyMap.insert.Goals as goal
use Rattle.bi_fit.proofs.document.property_map.PropertyMap.insert.Goals.{After-index_mut, In_ok-insert}

-- The rank is that of one of the names.
within : (fields : Fields) (model : PropertyMapModel) (rank : ℕ) → fields.names.now ≡ model.names → (name : List ℕ)
    × IsNumberOf model.names name rank →
    rank < length fields.names.now
within fields model rank same there =
    slice_get_within fields.names.now rank there.0 (subst (λ names. IsNumberOf names there.0 rank) (sym same) there.1)

-- The index is the place of the rank, and it was tested whether the rank is there.
found : (es one other : List (ℕ × Value)) (rank at : ℕ) (there : Bool) → one ≡ es → other ≡ es → at ≡ index_of_rank one rank →
    there ≡ is_entry_ranked (slice_get other at) rank →
    (at ≡ index_of_rank es rank) × (is_entry_ranked (slice_get es (index_of_rank es rank)) rank ≡ there)
found es one other rank at there is_one is_other is_at is_there =
    let place : at ≡ index_of_rank es rank = is_at ∙ ap (λ l. index_of_rank l rank) is_one in (
      place,
      sym (is_there ∙ ap (λ l. is_entry_ranked (slice_get l at) rank) is_other ∙ ap (λ p. is_entry_ranked (slice_get es p) rank) place),
    )

-- Fields with the rank put in are consistent.
consistent : (fields : Fields) → IsConsistentMap fields → (rank : ℕ) → rank < length fields.names.now → (value : Value) →
    (items : List (ℕ × Value)) → items ≡ put nat_cmp rank value fields.entries.items →
    AreRanksWithin fields.names.now items × T (is_sorted nat_cmp items)
consistent fields are rank inside value items is = (
  subst (AreRanksWithin fields.names.now) (sym is)
      (within-put fields.names.now are.in_order rank inside value fields.entries.items are.within),
  subst (λ l. T (is_sorted nat_cmp l)) (sym is) (is_sorted-put nat_cmp nat_cmp_total rank value fields.entries.items are.ascending),
)

-- Where the rank was found, its entry gets the value.
replaced : (c : After-index_mut) →
    set c.self.inside.entries.items c.find_index-index.result (
      c.args.rank,
      c.args.value,
    ) ≡ put nat_cmp c.args.rank c.args.value c.self.inside.entries.items
replaced c =
    let entries = c.self.inside.entries.items in
    let here = found entries c.deref.result.now c.deref-2.result.now c.args.rank c.find_index-index.result c.has_rank_at.result
    c.deref.ensures.value c.deref-2.ensures.value c.find_index-index.ensures c.has_rank_at.ensures in
    ap (λ p. set entries p (c.args.rank, c.args.value)) here.0
    ∙ put_other c.args.rank c.args.value entries (here.1 ∙ c.if-has_rank_at.true)

pub invariant_of-self : goal.invariant_of-self
invariant_of-self c =
    let inside = within c.self.inside c.args.self.now c.args.rank (ap (λ m. m.names) c.self.view_is) c.requires in
    let are = consistent c.self.inside c.self.invariant c.args.rank inside c.args.value _
    (replaced (goal.at.invariant_of-self c).After-index_mut) in
    record { in_order = c.self.invariant.in_order; within = are.0; ascending = are.1 }

pub returns-then-has_rank_at : goal.returns-then-has_rank_at
returns-then-has_rank_at c =
    let names = c.self.inside.names.now in
    let inside = within c.self.inside c.args.self.now c.args.rank (ap (λ m. m.names) c.self.view_is) c.requires in
    record {
      inserted = λ name is.
          model-put names c.self.invariant.in_order c.args.rank inside c.args.value c.self.inside.entries.items _
          (replaced (goal.at.returns-then-has_rank_at c).After-index_mut) c.self.invariant.within c.self.invariant.ascending name
          (subst (λ m. IsNumberOf m.names name c.args.rank) (sym c.self.view_is) is)
          ∙ ap (with_property_value name (value_bytes c.args.value)) c.self.view_is;
      same_names = ap (λ m. m.names) c.self.view_is;
    }

pub insert-requires : goal.insert-requires
insert-requires c =
    rw (
      c.find_index-index.ensures,
      c.deref.ensures.value,
      c.self.inside.entries.ok.0,
    ) (index_within c.args.rank c.args.value c.self.inside.entries.items)

-- Where it was not found, it gets an entry in its place.
added : (c : In_ok-insert) → c.insert.new.self.items ≡ put nat_cmp c.args.rank c.args.value c.self.inside.entries.items
added c =
    let entries = c.self.inside.entries.items in
    let here = found entries c.deref.result.now c.deref-2.result.now c.args.rank c.find_index-index.result c.has_rank_at.result
    c.deref.ensures.value c.deref-2.ensures.value c.find_index-index.ensures c.has_rank_at.ensures in
    c.in_ok-insert.ensures.items
    ∙ ap (λ p. insert_at entries p (c.args.rank, c.args.value)) here.0
    ∙ put_new c.args.rank c.args.value entries (here.1 ∙ c.if-has_rank_at.false)

pub invariant_of-self-2 : goal.invariant_of-self-2
invariant_of-self-2 c =
    let inside = within c.self.inside c.args.self.now c.args.rank (ap (λ m. m.names) c.self.view_is) c.requires in
    let are = consistent c.self.inside c.self.invariant c.args.rank inside c.args.value _
    (added (goal.at.invariant_of-self-2 c).In_ok-insert) in
    record { in_order = c.self.invariant.in_order; within = are.0; ascending = are.1 }

pub returns : goal.returns
returns c =
    let names = c.self.inside.names.now in
    let inside = within c.self.inside c.args.self.now c.args.rank (ap (λ m. m.names) c.self.view_is) c.requires in
    record {
      inserted = λ name is.
          model-put names c.self.invariant.in_order c.args.rank inside c.args.value c.self.inside.entries.items _
          (added (goal.at.returns c).In_ok-insert) c.self.invariant.within c.self.invariant.ascending name
          (subst (λ m. IsNumberOf m.names name c.args.rank) (sym c.self.view_is) is)
          ∙ ap (with_property_value name (value_bytes c.args.value)) c.self.view_is;
      same_names = ap (λ m. m.names) c.self.view_is;
    }
