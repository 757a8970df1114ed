use Rattle.std.proofs.Common.{subst, sym}
use Rattle.bi_common.specs.LineTokens.{tokens_of_lines}
use Rattle.bi_describe.specs.DescribedImages.{described_lines}
use Rattle.bi_describe.proofs.describe.DescribedImage.put_lines.Goals as goal

pub returns-in-Legacy-clause-put : goal.returns-in-Legacy-clause-put
returns-in-Legacy-clause-put g c =
    subst (λ described. g.L.LinePen.puts c.args.pen.now (tokens_of_lines (described_lines described)) c.put_lines.new.pen)
    (sym c.in-Legacy.is)
    c.put_lines.ensures
