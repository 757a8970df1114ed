use Rattle.bi_base.specs.Limits.{Limits}
use Rattle.bi_norm.specs.Meaning.{Meaning}
use Rattle.bi_common.specs.PayloadBounds.{IsOverPayloadBound}
use Rattle.bi_describe.specs.declared.describe.deep.DeepImage.{DeepImage}
use Rattle.bi_describe.specs.Devicetrees.{AreInside, Insides}
use Rattle.bi_describe.specs.MadeInsides.{HoldsDeep}

-- What a deep description is made from, before its length is known.

-- The code has what the deep description of a meaning is made from, whose payloads are within the
-- payload bound.
pub record IsReadDeep (limits : Limits) (meaning : Meaning) (made : DeepImage) : Type 0 where
  pub insides : Insides
  pub are_inside : AreInside limits meaning insides
  pub payloads : ¬ (IsOverPayloadBound limits meaning)
  pub holds : HoldsDeep (record { meaning = meaning; insides = insides }) made
