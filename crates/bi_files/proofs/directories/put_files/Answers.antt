use Rattle.std.proofs.Common.{arith}
use Rattle.bi_files.proofs.NewDirectories.{all_put, next_not_filled, next_not_made, next_put}
use Rattle.bi_files.proofs.directories.put_files.Goals as goal

pub returns-in_default-clause-not_put : goal.returns-in_default-clause-not_put
returns-in_default-clause-not_put g c =
    next_not_made c.args.directory.now c.args.payloads.now c.loop-payload.payload-index c.loop-payload.made c.payload-item.result
    c.as_str.result.now _ _ _ c.loop-payload.invariant.0 c.loop-payload-test.true c.payload-item.is c.as_str.ensures.value
    c.loop-payload.invariant.1 c.in_default.ensures.not_made

pub returns-in_default-clause-within : goal.returns-in_default-clause-within
returns-in_default-clause-within g c = omega (arith, c.loop-payload.invariant.0, c.loop-payload-test.true)

pub returns-in-Err-clause-not_put : goal.returns-in-Err-clause-not_put
returns-in-Err-clause-not_put g c =
    next_not_filled c.args.directory.now c.args.payloads.now c.loop-payload.payload-index _ c.payload-item.result
    c.as_str.result.now _ _ _ _ _ (omega (arith, c.loop-payload.invariant.0)) c.loop-payload-test.true c.payload-item.is
    c.as_str.ensures.value c.loop-payload.invariant.1 c.in-Ok.ensures.is_new c.in-Ok.ensures.made c.in-Err.ensures.not_filled

pub returns-in-Err-clause-within : goal.returns-in-Err-clause-within
returns-in-Err-clause-within g c = omega (arith, c.loop-payload.invariant.0, c.loop-payload-test.true)

pub loop-payload-preserved : goal.loop-payload-preserved
loop-payload-preserved g c = (
  omega (arith, c.loop-payload.invariant.0),
  next_put c.args.directory.now c.args.payloads.now c.loop-payload.payload-index c.payload-item.result c.as_str.result.now _ _ _ _ _
      c.loop-payload-test.true c.payload-item.is c.as_str.ensures.value c.loop-payload.invariant.1 c.in-Ok.ensures.is_new
      c.in-Ok.ensures.made c.in-Ok-write_payload.ensures.filled,
)

pub returns-clause-put : goal.returns-clause-put
returns-clause-put g c =
    all_put c.args.directory.now c.args.payloads.now c.loop-payload.payload-index _ _ c.loop-payload-test.false c.loop-payload.invariant.1
