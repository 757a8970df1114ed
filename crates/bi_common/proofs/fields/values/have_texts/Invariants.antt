use Rattle.std.proofs.Common.{◌≡◌, drop, false}
use Rattle.bi_common.specs.DescribedValues.{end_texts}
use Rattle.bi_common.proofs.fields.values.have_texts.Given as goal

-- The remaining bytes decide.
abbrev pub invariant-loop-byte : goal.invariant-loop-byte
invariant-loop-byte l = end_texts false l.value ≡ end_texts l.has_begun (drop l.byte-index l.value)
