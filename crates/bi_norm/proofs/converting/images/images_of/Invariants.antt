use Rattle.bi_norm.proofs.ConvertedParts.{IsPartWay}
use Rattle.bi_norm.proofs.converting.images.images_of.Given as goal

abbrev pub invariant-loop-part : goal.invariant-loop-part
invariant-loop-part l = IsPartWay l.image.image l.keys l.images.items l.part-iterator
