use Rattle.bi_report.proofs.ScanCounts.{found_images_are_few}
use Rattle.bi_report.proofs.laws.found_images_are_few.Goals as goal

pub returns : goal.returns
returns c = found_images_are_few
