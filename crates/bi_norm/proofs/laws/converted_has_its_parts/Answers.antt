use Rattle.bi_norm.proofs.ConvertedImages.{converted_has_its_parts}
use Rattle.bi_norm.proofs.laws.converted_has_its_parts.Goals as goal

pub returns : goal.returns
returns c = converted_has_its_parts
