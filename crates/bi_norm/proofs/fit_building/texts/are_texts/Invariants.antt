use Rattle.std.proofs.Common.{take}
use Rattle.std.specs.List.{AllByRecursion}
use Rattle.bi_base.specs.Slices.{bytes_of}
use Rattle.bi_fit.specs.Building.{IsText}
use Rattle.bi_norm.proofs.fit_building.texts.are_texts.Given as goal

-- The texts before this one have no zero byte.
abbrev pub invariant-loop-text : goal.invariant-loop-text
invariant-loop-text l = AllByRecursion IsText (bytes_of (take l.text-index l.texts))
