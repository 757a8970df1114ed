use Rattle.bootimg.proofs.tasks.append_described.Goals as goal

pub returns-then-deep-clause-appended : goal.returns-then-deep-clause-appended
returns-then-deep-clause-appended g c = rw c.if-deep.true c.run.ensures.appended

pub returns-then-deep-clause-failed : goal.returns-then-deep-clause-failed
returns-then-deep-clause-failed g c = rw c.if-deep.true c.run.ensures.failed

pub returns-else-deep-clause-appended : goal.returns-else-deep-clause-appended
returns-else-deep-clause-appended g c = rw c.if-deep.false c.run-else-deep.ensures.appended

pub returns-else-deep-clause-failed : goal.returns-else-deep-clause-failed
returns-else-deep-clause-failed g c = rw c.if-deep.false c.run-else-deep.ensures.failed
