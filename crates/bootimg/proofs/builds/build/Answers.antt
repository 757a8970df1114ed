use Rattle.std.proofs.Common.{refl}
use Rattle.bootimg.proofs.BuildRuns.{was_built, was_not_built}
use Rattle.bootimg.proofs.builds.build.Goals as goal

pub returns-in-Ok : goal.returns-in-Ok
returns-in-Ok g c = was_built _ _ _ _ c.run_builder.result _ c.in-Ok.is c.run_builder.ensures c.with_answer.ensures refl

pub returns-in-Err : goal.returns-in-Err
returns-in-Err g c = was_not_built _ _ _ _ c.run_builder.result c.in-Err.error c.in-Err.is c.run_builder.ensures refl
