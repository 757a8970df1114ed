use Rattle.bi_legacy.proofs.KnownImages.{firmware_text}
use Rattle.bi_legacy.proofs.laws.firmware_text.Goals as goal

pub returns : goal.returns
returns c = firmware_text
