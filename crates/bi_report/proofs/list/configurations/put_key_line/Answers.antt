use Rattle.std.proofs.Common.{[], ◌∷◌, codes, rules, sym, subst}
use Rattle.bi_fit.specs.Judgement.{ListResult}
use Rattle.bi_common.specs.Lines.{Text, Decimal}
use Rattle.bi_common.specs.LineTokens.{tokens_of_lines}
use Rattle.bi_report.specs.FitListing.{key_line, key_lines}
use Rattle.bi_report.specs.Listed.{IsListed}
use Rattle.bi_report.proofs.PutInTurn.{one_line_put}
use Rattle.bi_report.proofs.list.configurations.put_key_line.Goals as goal

pub returns-in-BadList : goal.returns-in-BadList
returns-in-BadList g c result is =
    let puts = g.L.LinePen.puts in
    let configuration = c.args.configuration.now in
    subst (λ (result : ListResult). puts c.args.pen.now (tokens_of_lines (key_lines configuration c.args.key result)) c.put_line.new.pen)
    (sym (subst (IsListed result) c.in-BadList.is is))
    (one_line_put puts _ _ (key_line configuration c.args.key (Text (codes "bad-list") ∷ [])) (search rules))

pub returns-in-Missing : goal.returns-in-Missing
returns-in-Missing g c result is =
    let puts = g.L.LinePen.puts in
    let configuration = c.args.configuration.now in
    let pen = c.put_line-in-Missing.new.pen in
    subst (λ (result : ListResult). puts c.args.pen.now (tokens_of_lines (key_lines configuration c.args.key result)) pen)
    (sym (subst (IsListed result) c.in-Missing.is is))
    (one_line_put puts _ _ (key_line configuration c.args.key (Text (codes "missing") ∷ Decimal c.in-Missing.index ∷ [])) (search rules))
