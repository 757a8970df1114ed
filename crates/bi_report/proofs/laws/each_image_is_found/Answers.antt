use Rattle.bi_report.proofs.ScanLaws.{each_image_is_found}
use Rattle.bi_report.proofs.laws.each_image_is_found.Goals as goal

pub returns : goal.returns
returns c = each_image_is_found c.one_meaning.ensures
