use Rattle.bi_describe.proofs.DescribedLines.{lines_that_stay_are_described}
use Rattle.bi_describe.proofs.laws.lines_that_stay_are_described.Goals as goal

pub returns : goal.returns
returns c = lines_that_stay_are_described
