use Rattle.std.proofs.Common.{[], subst, sym}
use Rattle.std.proofs.lemmas.Grind.{flat_map-append}
use Rattle.bi_legacy.specs.Meaning.{image_of}
use Rattle.bi_common.specs.CommonLines.{header_code_lines, header_field_lines}
use Rattle.bi_common.specs.LineTokens.{line_tokens}
use Rattle.bi_common.proofs.common_lines.put_header_lines.Goals as goal

pub returns : goal.returns
returns g c =
    let image = image_of c.args.fields [] in
    subst (λ tokens. g.L.LinePen.puts c.args.pen.now tokens c.put_code_lines.new.pen)
    (sym (flat_map-append line_tokens (header_field_lines image) (header_code_lines image)))
    (g.met.L.LinePen.puts_in_turn _ _ _ _ _ c.put_field_lines.ensures c.put_code_lines.ensures)
