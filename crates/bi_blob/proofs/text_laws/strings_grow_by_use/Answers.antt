use Rattle.bi_blob.proofs.Texts.FirstUse.{strings_grow_by_use}
use Rattle.bi_blob.proofs.text_laws.strings_grow_by_use.Goals as goal

pub returns : goal.returns
returns c = strings_grow_by_use
