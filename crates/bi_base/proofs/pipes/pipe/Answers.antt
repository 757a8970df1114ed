use Rattle.std.proofs.Common.{rules}
use Rattle.std.proofs.lemmas.Result.{err_from_is_err_and}
use Rattle.bi_base.proofs.PipeLaws.{reading_failed, command_failed, finish_failed}
use Rattle.bi_base.proofs.pipes.pipe.Goals as goal

pub returns-in_err-input : goal.returns-in_err-input
returns-in_err-input g c =
    let command = c.args.command.now in
    let limits = c.args.limits in
    let promise = g.C.Command.promise command limits in
    let p = err_from_is_err_and c.from_residual.result c.from_residual.ensures.1 in
    let same = g.met.C.Command.wraps_from command limits c.in_err-input.field-0.0 p.0 p.2 in
    record {
      done = search rules;
      failed = rw (p.1, same)
          (reading_failed promise limits (g.met.C.Command.laws command limits) _ _ _ c.in_err-input.field-0.0
          c.in_err-input.ensures.failed.cause);
      takes_at_most_one_byte_more = search rules;
      no_failed_read_ignored = search rules;
      no_failed_write_ignored = search rules;
      same_streams = search rules;
    }

pub returns-in_err-value : goal.returns-in_err-value
returns-in_err-value g c =
    let command = c.args.command.now in
    let limits = c.args.limits in
    let promise = g.C.Command.promise command limits in
    let p = err_from_is_err_and c.from_residual-in_err-value.result c.from_residual-in_err-value.ensures.1 in
    record {
      done = search rules;
      failed = rw (p.1, p.2)
          (command_failed promise limits (g.met.C.Command.laws command limits) g.T.TracedWrite.trace _ _ _ _ c.deref.result.now
          c.in_ok-input.input.items c.new-sink.result c.run.new.sink c.in_err-value.field-0.0 c.in_ok-input.ensures.read.whole
          c.deref.ensures.value c.new-sink.ensures.none_held (search rules) (search rules) c.in_err-value.ensures.failed);
      takes_at_most_one_byte_more = search rules;
      no_failed_read_ignored = search rules;
      no_failed_write_ignored = search rules;
      same_streams = search rules;
    }

pub returns-in_err-finish : goal.returns-in_err-finish
returns-in_err-finish g c =
    let command = c.args.command.now in
    let limits = c.args.limits in
    let promise = g.C.Command.promise command limits in
    let cause = c.in_err-finish.field-0.0 in
    let p = err_from_is_err_and c.from_residual-in_err-finish.result c.from_residual-in_err-finish.ensures.1 in
    record {
      done = search rules;
      failed = rw (p.1)
          (finish_failed promise limits (g.met.C.Command.laws command limits) g.T.TracedWrite.trace _ _ _ _ c.deref.result.now
          c.in_ok-input.input.items c.in_ok-value.value c.new-sink.result c.run.new.sink _ cause p.0 c.in_ok-input.ensures.read.whole
          c.deref.ensures.value c.new-sink.ensures.none_held (search rules) (search rules) c.in_ok-value.ensures.appended
          c.in_err-finish.ensures.finished (g.met.C.Command.wraps_from command limits cause p.0 p.2));
      takes_at_most_one_byte_more = search rules;
      no_failed_read_ignored = search rules;
      no_failed_write_ignored = search rules;
      same_streams = search rules;
    }
