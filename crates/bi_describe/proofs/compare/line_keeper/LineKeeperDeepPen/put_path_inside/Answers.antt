use Rattle.bi_common.specs.Lines.{Text}
use Rattle.bi_common.specs.MadeFields.{bytes_of_names}
use Rattle.bi_describe.specs.IgnoredWords.{inside_path}
use Rattle.bi_describe.proofs.KeptLines.{word_kept}
use Rattle.bi_describe.proofs.compare.line_keeper.LineKeeperDeepPen.put_path_inside.Goals as goal

pub returns : goal.returns
returns c =
    let self = c.self.inside in
    let names = bytes_of_names c.args.names.now in
    rw (c.line_after_path-self-inside.ensures c.args.payload.now names, c.len.ensures, ← c.self.view_is)
    (word_kept self.text c.put_next_path.new.pen self.marks.items self.line (Text (inside_path c.args.payload.now names))
    c.put_next_path.ensures)
