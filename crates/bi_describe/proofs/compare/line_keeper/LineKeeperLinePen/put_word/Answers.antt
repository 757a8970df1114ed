use Rattle.bi_common.specs.MadeFields.{field_of}
use Rattle.bi_describe.proofs.KeptLines.{word_kept}
use Rattle.bi_describe.proofs.compare.line_keeper.LineKeeperLinePen.put_word.Goals as goal

pub returns : goal.returns
returns c =
    let self = c.self.inside in
    rw (c.line_after_word-self-inside.ensures, c.len.ensures, ← c.self.view_is)
    (word_kept self.text c.put_next.new.pen self.marks.items self.line (field_of c.args.word) c.put_next.ensures)
