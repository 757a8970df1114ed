use Rattle.std.proofs.Common.{take}
use Rattle.bi_edit.specs.Cuts.{LacksByte}
use Rattle.bi_edit.proofs.words.cut.cut.Given as goal

abbrev pub invariant-loop-index : goal.invariant-loop-index
invariant-loop-index l = LacksByte l.byte (take l.index l.text)
