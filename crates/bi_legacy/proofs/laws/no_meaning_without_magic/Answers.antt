use Rattle.bi_legacy.proofs.Magic.{file_begins}
use Rattle.bi_legacy.proofs.laws.no_meaning_without_magic.Goals as goal

pub returns : goal.returns
returns c = λ file limits other image means. other (file_begins file image means.is_file)
