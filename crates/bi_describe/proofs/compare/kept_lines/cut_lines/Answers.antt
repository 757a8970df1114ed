use Rattle.std.proofs.Common.{arith, rules}
use Rattle.std.proofs.lemmas.Str.{IsAscii-drop}
use Rattle.std.proofs.lemmas.List.{map-append}
use Rattle.bi_describe.proofs.KeptLines.{cut_more, next_cut}
use Rattle.bi_describe.proofs.compare.kept_lines.cut_lines.Goals as goal

pub loop-mark-preserved : goal.loop-mark-preserved
loop-mark-preserved c =
    let now = c.loop-mark in
    let next = next_cut now.rest.now c.args.marks.now now.mark-index _ (omega arith) now.invariant.fit in
    record {
      utf8 = search rules;
      ascii = rw c.cut_line.ensures.rest (IsAscii-drop now.rest.now _ now.invariant.ascii);
      fit = rw c.cut_line.ensures.rest next.2;
      cut = rw (c.in_ok-push.ensures.items, map-append)
          (cut_more _ _ now.rest.now c.args.marks.now now.mark-index _ _ _ (omega arith) now.invariant.cut c.cut_line.ensures.line
          c.cut_line.ensures.rest);
    }
