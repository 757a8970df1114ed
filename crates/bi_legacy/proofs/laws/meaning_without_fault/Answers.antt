use Rattle.bi_legacy.proofs.MeansNoFault.{means_no_fault}
use Rattle.bi_legacy.proofs.NoFaultMeans.{no_fault_means}
use Rattle.bi_legacy.specs.ReadImage.{read_image}
use Rattle.bi_legacy.proofs.laws.meaning_without_fault.Goals as goal

pub returns : goal.returns
returns c = λ file limits bytes. (
  λ some. means_no_fault file some.0 limits some.1,
  λ none. (read_image file, no_fault_means file limits bytes none),
)
