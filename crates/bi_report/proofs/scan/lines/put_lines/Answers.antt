use Rattle.std.proofs.Common.{length, ◌∙◌}
use Rattle.bi_report.specs.Scanning.{scan_line_tokens}
use Rattle.bi_report.proofs.ScanCounts.{no_claim_no_image}
use Rattle.bi_report.proofs.ScannedLines.{before_first, each_is_put, lines_are_tokens, put_at_start}
use Rattle.bi_report.proofs.scan.lines.put_lines.Goals as goal

pub loop-offset-init : goal.loop-offset-init
loop-offset-init g c =
    before_first g.L.LinePen.puts g.met.L.LinePen.puts_nothing g.met.L.LinePen.puts_in_turn scan_line_tokens lines_are_tokens c.args.limits
    c.args.file.now c.args.pen.now _ c.args.end (c.into_iter-offset-iterator.ensures.into_iter_gives ∙ c.new-offset-items.ensures)

pub loop-offset-preserved : goal.loop-offset-preserved
loop-offset-preserved g c =
    put_at_start g.L.LinePen.puts g.met.L.LinePen.puts_nothing g.met.L.LinePen.puts_in_turn scan_line_tokens lines_are_tokens c.args.limits
    c.args.file.now c.args.pen.now c.loop-offset.pen c.put_line_at.new.pen c.loop-offset.offset-iterator c.next.new.self c.args.end
    c.in-Some.offset _ _ c.loop-offset.invariant c.in-Some.ensures.steps c.in_ok-any.ensures.line

pub returns-clause-lines : goal.returns-clause-lines
returns-clause-lines g c =
    each_is_put g.L.LinePen.puts g.met.L.LinePen.puts_nothing g.met.L.LinePen.puts_in_turn scan_line_tokens lines_are_tokens c.args.limits
    c.args.file.now c.args.pen.now c.loop-offset.pen c.loop-offset.offset-iterator c.args.end _ c.requires.within c.loop-offset.invariant
    c.in-None.ensures.steps (no_claim_no_image c.args.limits c.args.file.now c.args.end (length c.args.file.now) c.requires.nothing)
