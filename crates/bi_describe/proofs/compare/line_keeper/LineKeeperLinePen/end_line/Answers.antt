use Rattle.bi_describe.proofs.KeptLines.{end_kept}
use Rattle.bi_describe.proofs.compare.line_keeper.LineKeeperLinePen.end_line.Goals as goal

pub returns : goal.returns
returns c =
    let self = c.self.inside in
    rw (c.new-self-inside.ensures, c.len-2.ensures, ← c.self.view_is)
    (end_kept self.text c.put.new.self c.push_mark.new.text self.marks.items c.push_mark.new.marks.items self.line c.put.ensures
    (rw (c.mark-mark.ensures, c.len.ensures) at c.push_mark.ensures))
