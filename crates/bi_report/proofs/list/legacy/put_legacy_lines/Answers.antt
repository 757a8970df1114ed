use Rattle.std.proofs.Common.{[], ◌∷◌, codes, subst}
use Rattle.std.proofs.lemmas.Grind.{flat_map-append}
use Rattle.bi_legacy.specs.Meaning.{LegacyImage}
use Rattle.bi_common.specs.CommonLines.{header_lines}
use Rattle.bi_common.specs.Lines.{Text, Decimal}
use Rattle.bi_common.specs.LineTokens.{line_tokens, tokens_of_lines}
use Rattle.bi_report.specs.Listing.{parts_lines}
use Rattle.bi_report.proofs.PutInTurn.{one_line_put, put_last, put_then}
use Rattle.bi_report.proofs.list.legacy.put_legacy_lines.Goals as goal

pub returns : goal.returns
returns g c =
    let puts = g.L.LinePen.puts in
    let then = put_then puts tokens_of_lines (flat_map-append line_tokens) g.met.L.LinePen.puts_in_turn in
    let unused = Text (codes "unused") ∷ Decimal c.args.image.now.unused ∷ [] in
    (then _ _ _ (header_lines c.args.image.now.image) _
    (subst (λ (image : LegacyImage). puts c.args.pen.now (tokens_of_lines (header_lines image)) c.put_header_lines.new.pen) c.fields.ensures
    c.put_header_lines.ensures)
    (then _ _ _ (parts_lines c.args.image.now.image) _ c.put_parts_lines.ensures
    (put_last puts tokens_of_lines _ _ (unused ∷ [])
    (one_line_put puts _ _ unused (rw (c.from.ensures, c.unused.ensures) at c.put_line.ensures))))).put
