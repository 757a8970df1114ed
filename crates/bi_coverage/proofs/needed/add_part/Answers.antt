use Rattle.std.proofs.Common.{◌≡◌, ◌<◌, length, map, take, get_or, ap, subst, ◌∙◌}
use Rattle.bi_coverage.specs.Paths.{with_new, with_all_new}
use Rattle.bi_coverage.proofs.NamesOnce.{taken_new}
use Rattle.bi_coverage.proofs.needed.add_part.Goals as goal

pub loop-path-preserved : goal.loop-path-preserved
loop-path-preserved c =
    let items = c.args.part.now.below.items in
    let same : c.deref-path-items.result.now ≡ items = c.deref-path-items.ensures.value in
    let within : c.loop-path.path-index < length items = subst (λ l. c.loop-path.path-index < length l) same c.loop-path-test.true in
    let is = c.path-item.is ∙ ap (λ l. get_or l c.loop-path.path-index c.path-item.result) same in
    c.in_ok-add-2.ensures
    ∙ ap (λ paths. with_new paths c.deref-in-loop-path.result.now) c.loop-path.invariant
    ∙ ap (with_new (with_all_new c.add.new.self (map (λ path. path.items) (take c.loop-path.path-index items))))
    c.deref-in-loop-path.ensures.value
    ∙ taken_new (λ path. path.items) c.add.new.self items c.loop-path.path-index c.path-item.result within is
