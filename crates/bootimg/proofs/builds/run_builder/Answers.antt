use Rattle.bootimg.proofs.builds.run_builder.Goals as goal

pub returns-in-Legacy : goal.returns-in-Legacy
returns-in-Legacy g c = rw c.in-Legacy.is c.pipe.ensures

pub returns-in-Fit : goal.returns-in-Fit
returns-in-Fit g c = rw c.in-Fit.is c.run_fit_plan.ensures
