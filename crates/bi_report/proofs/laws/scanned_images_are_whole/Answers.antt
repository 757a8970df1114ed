use Rattle.bi_report.proofs.CutImages.{scanned_images_are_whole}
use Rattle.bi_report.proofs.laws.scanned_images_are_whole.Goals as goal

pub returns : goal.returns
returns c = scanned_images_are_whole
