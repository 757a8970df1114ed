use Rattle.bi_legacy.proofs.KnownImages.{kernel_text}
use Rattle.bi_legacy.proofs.laws.kernel_text.Goals as goal

pub returns : goal.returns
returns c = kernel_text
