use Rattle.std.proofs.Common.{◌≡◌, ℕ, ◌+◌, ◌-◌, ◌*◌, ◌%◌, ◌≤◌, List, ◌++◌, replicate, ap, ◌∙◌, subst, arith}
use Rattle.std.proofs.lemmas.List.{replicate-append-replicate, take-replicate}
use Rattle.bi_base.specs.Sinks.{Wrote}
use Rattle.bi_base.proofs.SinkLaws.{passed_on, wrote_after}
use Rattle.bi_base.proofs.zeros.put_zeros.Goals as goal

abbrev zeros : ℕ → List ℕ
zeros n = replicate n 0

-- Zeros after zeros.
more_zeros : (before after all : ℕ) → before + after ≡ all → zeros before ++ zeros after ≡ zeros all
more_zeros before after all is = replicate-append-replicate before after 0 ∙ ap zeros is

pub returns-in_err-put : goal.returns-in_err-put
returns-in_err-put g c =
    let S = g.S.Sink in
    let laws = g.met.S.Sink in
    let before = 64 * c.loop.counter in
    let error = c.in_err-put.field-0.0 in
    let within : before + 64 ≤ c.args.count = omega (arith, c.loop-test.true) in
    let failed = laws.fails_after c.args.sink.now c.loop.sink c.put.new.self (zeros before) (zeros 64) error
    c.loop.invariant c.in_err-put.ensures in
    let all = ap (λ l. l ++ zeros (c.args.count - (before + 64))) (more_zeros before 64 (before + 64) (omega arith))
    ∙ more_zeros (before + 64) (c.args.count - (before + 64)) c.args.count (omega (arith, within)) in
    passed_on S.appends S.fails c.args.sink.now (zeros c.args.count) error c.from_residual.result c.put.new.self
    c.from_residual.ensures.1
    (subst (λ l. S.fails c.args.sink.now l c.put.new.self error) all
    (laws.fails_before c.args.sink.now c.put.new.self (zeros before ++ zeros 64) (zeros (c.args.count - (before + 64)))
    error failed))

pub loop-preserved : goal.loop-preserved
loop-preserved g c =
    subst (λ l. g.S.Sink.appends c.args.sink.now l c.put.new.self)
    (more_zeros (64 * c.loop.counter) 64 (64 * (c.loop.counter + 1)) (omega arith))
    (g.met.S.Sink.appends_in_turn c.args.sink.now c.loop.sink c.put.new.self (zeros (64 * c.loop.counter)) (zeros 64)
    c.loop.invariant c.in_ok-put.ensures)

pub returns : goal.returns
returns g c =
    let S = g.S.Sink in
    let before = 64 * c.loop.counter in
    let after = c.args.count % 64 in
    subst (λ l. Wrote S.appends S.fails c.args.sink.now l c.put-2.result c.put-2.new.self)
    (more_zeros before after c.args.count (omega (arith, c.loop-test.false, c.loop.auto.counter-end)))
    (wrote_after S.appends S.fails g.met.S.Sink.appends_in_turn g.met.S.Sink.fails_after c.args.sink.now c.loop.sink c.put-2.new.self
    (zeros before) (zeros after) c.put-2.result c.loop.invariant
    (subst (λ l. Wrote S.appends S.fails c.loop.sink l c.put-2.result c.put-2.new.self)
    (take-replicate after 64 0 (omega arith)) c.put-2.ensures))
