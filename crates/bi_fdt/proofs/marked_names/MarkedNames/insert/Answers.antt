use Rattle.std.proofs.Common.{◌≡◌, ◌++◌, ◌∷◌, [], sym, ap, ◌∙◌, arith, rules, length}
use Rattle.std.proofs.lemmas.List.{length-set}
use Rattle.std.specs.Prelude.{slice_index_or, slice_set}
use Rattle.bi_fdt.proofs.PropertyMarks as marks
use Rattle.bi_fdt.proofs.marked_names.MarkedNames.insert.Goals as goal

pub returns-then-number-len-clause-added : goal.returns-then-number-len-clause-added
returns-then-number-len-clause-added c =
    let pushed : c.push.new.self.items ≡ c.self.inside.marks.items ++ c.args.mark ∷ [] = search rules in
    rw (sym c.self.view_is)
    (marks.adds_next _ _ _ _ _ c.self.invariant c.in_ok-number.ensures.used c.in_ok-number.ensures.number
    (omega (arith, c.if-number-len.true, c.len.ensures, ap length c.reserve.ensures.items)) pushed)

pub index-requires : goal.index-requires
index-requires c =
    let before = marks.used_before c.self.inside.names.used _ _ c.in_ok-number.number
    c.in_ok-number.ensures.used c.in_ok-number.ensures.number
    (λ last. c.if-number-len.false (omega (arith, last, c.self.invariant, c.len.ensures, ap length c.reserve.ensures.items))) in
    omega (arith, before.1, c.self.invariant, ap length c.reserve.ensures.items)

pub invariant_of-self-then-index-mark : goal.invariant_of-self-then-index-mark
invariant_of-self-then-index-mark c =
    let before = marks.used_before _ _ _ _ c.in_ok-number.ensures.used c.in_ok-number.ensures.number
    (λ last. c.if-number-len.false (omega (arith, last, c.self.invariant, c.len.ensures, ap length c.reserve.ensures.items))) in
    ap length c.reserve.ensures.items ∙ c.self.invariant ∙ ap length (sym before.0)

pub returns-then-index-mark-clause-added : goal.returns-then-index-mark-clause-added
returns-then-index-mark-clause-added c =
    rw (sym c.self.view_is)
    (marks.adds_nothing _ _ _ c.in_ok-number.number _ c.self.invariant c.in_ok-number.ensures.used c.in_ok-number.ensures.number
    (λ same. c.if-number-len.false (omega (arith, same, c.len.ensures, ap length c.reserve.ensures.items))) c.number_at.ensures.distinct
    c.index.result.now
    (ap (λ l. slice_index_or l c.in_ok-number.number c.index.result.now) (sym c.reserve.ensures.items) ∙ sym c.index.ensures
    ∙ c.if-index-mark.true) c.reserve.ensures.items)

pub index_mut-requires : goal.index_mut-requires
index_mut-requires c =
    let before = marks.used_before c.self.inside.names.used _ _ c.in_ok-number.number
    c.in_ok-number.ensures.used c.in_ok-number.ensures.number
    (λ last. c.if-number-len.false (omega (arith, last, c.self.invariant, c.len.ensures, ap length c.reserve.ensures.items))) in
    omega (arith, before.1, c.self.invariant, ap length c.reserve.ensures.items)

pub invariant_of-self-2 : goal.invariant_of-self-2
invariant_of-self-2 c =
    let before = marks.used_before _ _ _ _ c.in_ok-number.ensures.used c.in_ok-number.ensures.number
    (λ last. c.if-number-len.false (omega (arith, last, c.self.invariant, c.len.ensures, ap length c.reserve.ensures.items))) in
    length-set c.reserve.new.self.items c.in_ok-number.number c.args.mark ∙ ap length c.reserve.ensures.items
    ∙ c.self.invariant ∙ ap length (sym before.0)

pub returns-clause-added : goal.returns-clause-added
returns-clause-added c =
    rw (sym c.self.view_is)
    (marks.adds_known _ _ _ c.in_ok-number.number _ c.self.invariant c.in_ok-number.ensures.used c.in_ok-number.ensures.number
    (λ same. c.if-number-len.false (omega (arith, same, c.len.ensures, ap length c.reserve.ensures.items))) c.number_at.ensures.distinct
    c.index.result.now
    (λ one. c.if-index-mark.false (c.index.ensures
    ∙ ap (λ l. slice_index_or l c.in_ok-number.number c.index.result.now) c.reserve.ensures.items ∙ one))
    (ap (λ l. slice_set l c.in_ok-number.number c.args.mark) c.reserve.ensures.items))
