use Rattle.std.proofs.Common.{◌≡◌, take}
use Rattle.bi_base.specs.Slices.{bytes_of}
use Rattle.bi_blob.specs.Layout.{strings_of}
use Rattle.bi_fit.proofs.building.lists.join_texts.Given as goal

-- The texts before this one, each with a zero.
abbrev pub invariant-loop-text : goal.invariant-loop-text
invariant-loop-text l = l.list.items ≡ strings_of (bytes_of (take l.text-index l.texts))
