use Rattle.bi_commands.proofs.extract_all.payloads_of.Goals as goal

pub returns-in-Fit-clause-failed : goal.returns-in-Fit-clause-failed
returns-in-Fit-clause-failed c = rw (c.in-Fit.is) c.payloads_of_fit.ensures.failed
