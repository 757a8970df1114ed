use Rattle.std.proofs.Common.{refl}
use Rattle.bi_common.specs.LineTokens.{end_of_line}
use Rattle.bi_describe.proofs.describe.inside.paths.InsidePenLinePen.end_line.Goals as goal

pub returns : goal.returns
unfolding end_of_line
returns g c = record { payload = refl; same_borrow = refl; put = c.end_line.ensures }
