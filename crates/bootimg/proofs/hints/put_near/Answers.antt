use Rattle.std.proofs.Common.{subst}
use Rattle.bootimg.specs.ErrorLines.{Extends, line_of}
use Rattle.bootimg.proofs.ErrorLines.{extends_twice}
use Rattle.bootimg.proofs.hints.put_near.Goals as goal

pub returns-in-Some : goal.returns-in-Some
returns-in-Some g c =
    let trace = g.T.TracedWrite.trace in
    let name = subst (λ bytes. Extends (line_of trace c.put.new.self) bytes (line_of trace c.put-in-Some.new.self))
    c.as_bytes.ensures.value c.put-in-Some.ensures in
    rw c.in-Some.is (extends_twice _ _ _ _ _ c.put.ensures (extends_twice _ _ _ _ _ name c.put-in-Some-2.ensures))
