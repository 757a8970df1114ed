use Rattle.std.proofs.Common.{refl}
use Rattle.bi_common.specs.LineTokens.{end_of_line}
use Rattle.bi_describe.proofs.describe.deep_pen.DeepWriterLinePen.end_line.Goals as goal

pub returns : goal.returns
unfolding end_of_line
returns g c = (refl, c.put.ensures, refl)
