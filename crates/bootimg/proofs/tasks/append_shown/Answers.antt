use Rattle.bootimg.proofs.tasks.append_shown.Goals as goal

pub returns-in-Page-clause-failed : goal.returns-in-Page-clause-failed
returns-in-Page-clause-failed g c = rw c.in-Page.is c.run.ensures.failed

pub returns-in-Json-clause-failed : goal.returns-in-Json-clause-failed
returns-in-Json-clause-failed g c = rw c.in-Json.is c.run-in-Json.ensures.failed
