use Rattle.std.proofs.Common.{arith}
use Rattle.std.proofs.lemmas.List.{length-map, take-map}
use Rattle.bi_common.proofs.WrittenTokens.{values_put}
use Rattle.bi_describe.specs.ComparisonJson.{signed_object}
use Rattle.bi_describe.specs.MadeLines.{made_line, made_lines}
use Rattle.bi_describe.proofs.compare.json.put_lines.Goals as goal

pub returns : goal.returns
returns g c =
    let lines = c.args.lines.now in
    values_put g.J.JsonPen.puts signed_object (made_lines lines) c.loop-line.line-index _ _ (omega (arith, length-map lines made_line))
    (rw (take-map made_line c.loop-line.line-index lines) c.loop-line.invariant)
