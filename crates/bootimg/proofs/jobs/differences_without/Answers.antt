use Rattle.bootimg.proofs.jobs.differences_without.Goals as goal

pub returns-then-deep-clause-compared : goal.returns-then-deep-clause-compared
returns-then-deep-clause-compared c = rw c.if-deep.true c.compare_ignoring_deep.ensures.compared

pub returns-else-deep-clause-compared : goal.returns-else-deep-clause-compared
returns-else-deep-clause-compared c = rw c.if-deep.false c.compare_ignoring.ensures.compared
