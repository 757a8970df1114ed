use Rattle.std.proofs.Common.{refl}
use Rattle.bootimg.proofs.builds.read_part.Goals as goal

pub returns-in-Err-clause-failed : goal.returns-in-Err-clause-failed
returns-in-Err-clause-failed g c = rw c.in-File.is (c.in-Err.ensures.failed, refl)
