use Rattle.std.proofs.Common.{◌∙◌}
use Rattle.bi_describe.proofs.InsideWords.{line_after_path}
use Rattle.bi_describe.proofs.compare.line_keeper.OpenLine.line_after_path.Goals as goal

pub returns : goal.returns
returns c payload names = c.line_after_word.ensures ∙ line_after_path c.args.self c.args.end payload names
