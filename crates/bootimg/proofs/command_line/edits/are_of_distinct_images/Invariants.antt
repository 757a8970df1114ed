use Rattle.std.proofs.Common.{map, take}
use Rattle.bi_blob.specs.NameSets.{HoldsNames}
use Rattle.bi_blob.specs.Tree.{AreDistinct}
use Rattle.bi_edit.specs.declared.words.PayloadWord.{PayloadWord}
use Rattle.bootimg.proofs.command_line.edits.are_of_distinct_images.Given as goal

-- The set has the images so far, which are distinct.
abbrev pub invariant-loop-payload : goal.invariant-loop-payload
invariant-loop-payload l = record {
  names : HoldsNames l.images (map (λ (payload : PayloadWord). payload.image) (take l.payload-index l.payloads));
  distinct : AreDistinct (map (λ (payload : PayloadWord). payload.image) (take l.payload-index l.payloads));
}
