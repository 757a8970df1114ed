use Rattle.std.proofs.Common.{take}
use Rattle.std.specs.List.{AllZip}
use Rattle.bootimg.specs.ReadParts.{IsLent}
use Rattle.bootimg.proofs.builds.lend_parts.Given as goal

-- The parts so far were lent.
abbrev pub invariant-loop-part : goal.invariant-loop-part
invariant-loop-part l = AllZip IsLent (take l.part-index l.read) l.parts.items
