use Rattle.bi_blob.proofs.Texts.NamesOnce.{has_names_once}
use Rattle.bi_blob.proofs.text_laws.each_name_is_there_once.Goals as goal

pub returns : goal.returns
returns c = has_names_once
