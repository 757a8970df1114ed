use Rattle.std.proofs.Common.{◌∙◌, subst}
use Rattle.bootimg.specs.ErrorLines.{Extends, line_of}
use Rattle.bootimg.proofs.ErrorLines.{extends_twice}
use Rattle.bootimg.proofs.hints.Hint.put_text.Goals as goal

pub returns-in-Cause : goal.returns-in-Cause
returns-in-Cause g c =
    let trace = g.T.TracedWrite.trace in
    let name = subst (λ bytes. Extends (line_of trace c.put-in-Cause.new.self) bytes (line_of trace c.put-in-Cause-2.new.self))
    (c.as_bytes-in-Cause.ensures.value ∙ c.name.ensures) c.put-in-Cause-2.ensures in
    rw c.in-Cause.is (extends_twice _ _ _ _ _ c.put-in-Cause.ensures name)

pub returns-in-Message : goal.returns-in-Message
returns-in-Message g c =
    let trace = g.T.TracedWrite.trace in
    let name = subst (λ bytes. Extends (line_of trace c.put-in-Message.new.self) bytes (line_of trace c.put-in-Message-2.new.self))
    (c.as_bytes-in-Message.ensures.value ∙ c.name-in-Message.ensures) c.put-in-Message-2.ensures in
    rw c.in-Message.is
    (extends_twice _ _ _ _ _ c.put-in-Message.ensures (extends_twice _ _ _ _ _ name c.put-in-Message-3.ensures))
