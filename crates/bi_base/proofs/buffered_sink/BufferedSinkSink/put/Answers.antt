use Rattle.std.proofs.Common.{[], ◌≡◌, rules}
use Rattle.bi_base.specs.BufferedSinks.{Buffer, state_of, wrote_in_turn, stopped_after}
use Rattle.bi_base.specs.Writing.{WroteAll, WriteStopped}
use Rattle.bi_base.proofs.BufferLaws.{wrote_through}
use Rattle.bi_base.proofs.SinkLaws.{wrote_after}
use Rattle.bi_base.proofs.buffered_sink.BufferedSinkSink.put.Goals as goal

pub returns : goal.returns
returns g c =
    let trace = g.T.TracedWrite.trace in
    let old = state_of trace c.args.self.now in
    let mid = trace c.write_all.new.target in
    let new : Buffer = record {
      borrow = old.borrow;
      trace = trace c.write_all-2.new.target;
      held = c.try_extend_from_slice-2.new.self.items;
    } in
    let none : c.try_extend_from_slice-2.new.self.items ≡ [] = search rules in
    let wrote = wrote_after WroteAll WriteStopped wrote_in_turn stopped_after old.trace mid new.trace old.held
    c.args.bytes.now c.write_all-2.result (search rules) c.write_all-2.ensures in
    wrote_through old new c.args.bytes.now c.write_all-2.result wrote none (search rules)
