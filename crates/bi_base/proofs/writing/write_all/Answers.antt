use Rattle.std.proofs.Common.{take, sym, ap, subst, arith}
use Rattle.std.proofs.Math.Seq.{take-add}
use Rattle.std.proofs.lemmas.List.{take_rest}
use Rattle.std.proofs.lemmas.Grind.{common_steps}
use Rattle.bi_base.specs.BufferedSinks.{wrote_in_turn}
use Rattle.bi_base.specs.Writing.{WroteAll}
use Rattle.bi_base.proofs.writing.write_all.Goals as goal

pub loop-done-preserved : goal.loop-done-preserved
loop-done-preserved g c =
    let bytes = c.args.bytes.now in
    let done = c.loop-done.done in
    let more = c.in_ok-done.field-0 in
    let old = g.T.TracedWrite.trace c.args.target.now in
    let mid = g.T.TracedWrite.trace c.loop-done.target in
    let new = g.T.TracedWrite.trace c.write_some.new.target in
    record {
      within = grind (arith, common_steps);
      wrote = subst (λ l. WroteAll old l new) (sym (take-add done more bytes))
          (wrote_in_turn old mid new _ _ c.loop-done.invariant.wrote
          (subst (λ l. WroteAll mid l new) (ap (take more) (take_rest bytes done)) c.in_ok-done.ensures.ok));
    }
