use Rattle.std.proofs.Common.{◌++◌, ◌<◌, length, take, arith, rules}
use Rattle.std.proofs.KnownBytes.{Consumes-trans}
use Rattle.std.proofs.lemmas.Grind.{common_steps}
use Rattle.std.proofs.lemmas.Result.{err_from_is_err_and}
use Rattle.bi_base.proofs.InputLaws.{too_long}
use Rattle.bi_base.proofs.reading.read_all_traced.Goals as goal

pub returns-then-count-most-clause-failed : goal.returns-then-count-most-clause-failed
returns-then-count-most-clause-failed g c =
    let taken = c.loop-bytes.bytes.items ++ take c.in_ok-count.count c.read_some.new.buffer in
    let longer : c.args.limits.file < length taken = grind (arith, common_steps) in
    let consumed = Consumes-trans _ _ _ _ _ c.loop-bytes.invariant.consumed c.in_ok-count.ensures.ok.consumed in
    record {
      cause = too_long _ _ c.args.limits.file taken _ consumed longer (search rules);
      takes_at_most_one_byte_more = record {
        known = (taken, grind (arith, common_steps), consumed);
        counted = grind (arith, common_steps);
      };
      no_failure_ignored = search rules;
      same_reader = search rules;
    }

pub returns-in_err-extend_from_slice-clause-failed : goal.returns-in_err-extend_from_slice-clause-failed
returns-in_err-extend_from_slice-clause-failed g c =
    let p = err_from_is_err_and c.from_residual-in_err-extend_from_slice.result
    c.from_residual-in_err-extend_from_slice.ensures.1 in
    let taken = c.loop-bytes.bytes.items ++ take c.in_ok-count.count c.read_some.new.buffer in
    rw (p.1, p.2) (record {
      cause = search rules;
      takes_at_most_one_byte_more = record {
        known = (
          taken,
          grind (arith, common_steps),
          Consumes-trans _ _ _ _ _ c.loop-bytes.invariant.consumed c.in_ok-count.ensures.ok.consumed,
        );
        counted = grind (arith, common_steps);
      };
      no_failure_ignored = search rules;
      same_reader = search rules;
    })
