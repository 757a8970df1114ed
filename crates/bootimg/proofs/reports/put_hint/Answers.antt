use Rattle.bootimg.proofs.ErrorLines.{extends_twice}
use Rattle.bootimg.proofs.reports.put_hint.Goals as goal

pub returns-in-Some : goal.returns-in-Some
returns-in-Some g c =
    rw c.in-Some.is
    (extends_twice _ _ _ _ _ c.put.ensures (extends_twice _ _ _ _ _ c.put_text.ensures c.put-in-Some.ensures))
