use Rattle.std.proofs.Common.{rules}
use Rattle.bi_describe.specs.MadeLines.{compared_line, compared_lines}
use Rattle.bi_describe.proofs.LineSets.{only_at}
use Rattle.bi_describe.proofs.compare.differences.push_apart.Goals as goal

pub returns-else-not-is_text_at : goal.returns-else-not-is_text_at
returns-else-not-is_text_at c =
    only_at (compared_lines c.args.others.now) (compared_lines c.args.lines.now.items) (compared_line c.args.line.now) c.args.index
    (search rules)
