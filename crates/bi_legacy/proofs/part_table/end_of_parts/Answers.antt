use Rattle.std.proofs.Common.{◌≡◌, ◌+◌, ◌*◌, ◌≤◌, ◌∙◌, refl, sym, ap, length, drop, arith, inl}
use Rattle.std.proofs.lemmas.List.{length-drop}
use Rattle.std.specs.Iterator.Adapters.{enumerate_source, enumerate_count}
use Rattle.bi_base.specs.Cells.{u32_at, up4}
use Rattle.bi_base.proofs.CellLaws.{u32_at-fits}
use Rattle.bi_legacy.specs.Parts.{parts_end_from}
use Rattle.bi_legacy.specs.PartRanges.{part_ranges}
use Rattle.bi_legacy.specs.PartTables.{table_sizes}
use Rattle.bi_legacy.proofs.PartOffsets.{up4_of_four}
use Rattle.bi_legacy.proofs.TableSizes.{drop-table_sizes}
use Rattle.bi_legacy.proofs.PartWalk.{FitWithin-one, parts_end_from-one, first-here, first-later, next_range, no_range, length-part_ranges}
use Rattle.bi_legacy.proofs.part_table.end_of_parts.Goals as goal

pub loop-index-init : goal.loop-index-init
loop-index-init c =
    let sizes = table_sizes c.args.body.now in
    let first = 4 * (c.args.part_count + 1) in
    let gives = c.into_iter-index-iterator.ensures.into_iter_gives in
    let none : enumerate_count c.into_iter-index-iterator.result ≡ 0 = ap enumerate_count gives ∙ c.enumerate-index-items.ensures.count in
    let all : enumerate_source c.into_iter-index-iterator.result ≡ part_ranges first sizes =
    ap enumerate_source gives ∙ c.enumerate-index-items.ensures.source ∙ c.new.ensures
    ∙ ap (λ count. part_ranges (4 * (count + 1)) sizes) (sym c.requires.count) in
    rw (none, all, up4_of_four (c.args.part_count + 1)) record {
      can_next = (tt, tt, inl (omega (arith, length-part_ranges first sizes)));
      finite = tt;
      left = refl;
      within = c.requires.room;
      begun = omega arith;
      fit = λ fits. fits;
      end = refl;
      fault = λ fault is_first. is_first;
    }

pub overflow_add-end-in-loop-index : goal.overflow_add-end-in-loop-index
overflow_add-end-in-loop-index c =
    let body = c.args.body.now in
    let index = enumerate_count c.loop-index.index-iterator in
    let next = next_range (table_sizes body) index _ _ _ c.in-Some.range c.loop-index.invariant.left c.in-Some.ensures.steps.0 in
    let e = drop-table_sizes body index (omega (arith, next.0)) next.0 in
    let read : c.in-Some.range.size ≡ u32_at body (4 * index) = cc in
    let fits = u32_at-fits body (4 * index) (record { each = λ i. omega (arith, c.type_inv.body i) }) in
    omega (arith, next.2, read, fits)

pub table_offset-requires : goal.table_offset-requires
table_offset-requires c =
    let index = enumerate_count c.loop-index.index-iterator in
    let next = next_range (table_sizes c.args.body.now) index _ _ _ c.in-Some.range c.loop-index.invariant.left c.in-Some.ensures.steps.0 in
    omega (arith, next.0, c.in-Some.ensures.steps.1)

pub returns-then-end-body-clause-fault : goal.returns-then-end-body-clause-fault
returns-then-end-body-clause-fault c =
    let body = c.args.body.now in
    let index = enumerate_count c.loop-index.index-iterator in
    let next = next_range (table_sizes body) index _ _ _ c.in-Some.range c.loop-index.invariant.left c.in-Some.ensures.steps.0 in
    rw (c.refuse.ensures, c.table_offset.ensures, c.in-Some.ensures.steps.1) (c.loop-index.invariant.fault _
    (first-here body index (up4 c.loop-index.end) c.in-Some.range.size _ _ next.1 (λ fits. omega (arith, next.2))))

pub loop-index-preserved : goal.loop-index-preserved
loop-index-preserved c =
    let body = c.args.body.now in
    let index = enumerate_count c.loop-index.index-iterator in
    let next = next_range (table_sizes body) index _ _ _ c.in-Some.range c.loop-index.invariant.left c.in-Some.ensures.steps.0 in
    let fits : up4 c.loop-index.end + c.in-Some.range.size ≤ length body = omega (arith, next.2) in
    let left : length (enumerate_source c.next.new.self) ≡ length (drop (index + 1) (table_sizes body)) =
    ap length next.3 ∙ length-part_ranges (up4 (up4 c.loop-index.end + c.in-Some.range.size)) (drop (index + 1) (table_sizes body)) in
    rw (c.in-Some.ensures.steps.2, next.2) record {
      can_next = (tt, tt, inl (omega (arith, left, length-drop (index + 1) (table_sizes body), next.0)));
      finite = tt;
      left = next.3;
      within = fits;
      begun = omega (arith, next.0);
      fit = λ rest. c.loop-index.invariant.fit (FitWithin-one _ _ _ _ _ next.1 fits rest);
      end = c.loop-index.invariant.end ∙ parts_end_from-one _ _ _ _ next.1;
      fault = λ fault rest. c.loop-index.invariant.fault fault (first-later body index _ _ _ _ fault next.1 fits rest);
    }

pub returns-clause-end : goal.returns-clause-end
returns-clause-end c =
    let none = no_range _ _ _ c.loop-index.invariant.left c.in-None.ensures.steps.0.0 in
    (sym (c.loop-index.invariant.end ∙ ap (parts_end_from c.loop-index.end) none), c.loop-index.invariant.within)

pub returns-clause-fit : goal.returns-clause-fit
returns-clause-fit c =
    let none = no_range _ _ _ c.loop-index.invariant.left c.in-None.ensures.steps.0.0 in
    c.loop-index.invariant.fit (rw none tt)
