use Rattle.std.proofs.Common.{inl, inr}
use Rattle.bi_legacy.proofs.FaultLaws.{fault_or_no_fault}
use Rattle.bi_legacy.proofs.NoFaultMeans.{no_fault_means}
use Rattle.bi_legacy.specs.ReadImage.{read_image}
use Rattle.bi_legacy.proofs.laws.meaning_or_fault.Goals as goal

pub returns : goal.returns
returns c = λ file limits bytes. elim (fault_or_no_fault file limits) [
  | inl none ↦ inl (read_image file, no_fault_means file limits bytes none)
  | inr some ↦ inr some
]
