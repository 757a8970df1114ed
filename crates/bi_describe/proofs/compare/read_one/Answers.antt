use Rattle.bi_describe.proofs.compare.read_one.Goals as goal

pub returns-in-Err-clause-failed : goal.returns-in-Err-clause-failed
returns-in-Err-clause-failed c other = c.reading_failure.ensures c.args.limits c.args.file.now other c.in-Err.ensures.failed
