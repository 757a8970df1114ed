use Rattle.std.proofs.Common.{length, ◌∙◌}
use Rattle.bi_report.specs.Scanning.{scanned_tokens}
use Rattle.bi_report.proofs.ScanCounts.{no_claim_no_image}
use Rattle.bi_report.proofs.ScannedLines.{before_first, each_is_put, objects_are_tokens, put_at_start}
use Rattle.bi_report.proofs.scan.lines.put_objects.Goals as goal

pub loop-offset-init : goal.loop-offset-init
loop-offset-init g c =
    before_first g.J.JsonPen.puts g.met.J.JsonPen.puts_nothing g.met.J.JsonPen.puts_in_turn scanned_tokens objects_are_tokens c.args.limits
    c.args.file.now c.args.json.now _ c.args.end (c.into_iter-offset-iterator.ensures.into_iter_gives ∙ c.new-offset-items.ensures)

pub loop-offset-preserved : goal.loop-offset-preserved
loop-offset-preserved g c =
    put_at_start g.J.JsonPen.puts g.met.J.JsonPen.puts_nothing g.met.J.JsonPen.puts_in_turn scanned_tokens objects_are_tokens c.args.limits
    c.args.file.now c.args.json.now c.loop-offset.json c.put_object_at.new.json c.loop-offset.offset-iterator c.next.new.self c.args.end
    c.in-Some.offset _ _ c.loop-offset.invariant c.in-Some.ensures.steps c.in_ok-any.ensures.object

pub returns-clause-objects : goal.returns-clause-objects
returns-clause-objects g c =
    each_is_put g.J.JsonPen.puts g.met.J.JsonPen.puts_nothing g.met.J.JsonPen.puts_in_turn scanned_tokens objects_are_tokens c.args.limits
    c.args.file.now c.args.json.now c.loop-offset.json c.loop-offset.offset-iterator c.args.end _ c.requires.within c.loop-offset.invariant
    c.in-None.ensures.steps (no_claim_no_image c.args.limits c.args.file.now c.args.end (length c.args.file.now) c.requires.nothing)
