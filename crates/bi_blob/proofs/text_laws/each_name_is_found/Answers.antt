use Rattle.bi_blob.proofs.Texts.NamesOnce.{name_is_found}
use Rattle.bi_blob.proofs.text_laws.each_name_is_found.Goals as goal

pub returns : goal.returns
returns c = name_is_found
