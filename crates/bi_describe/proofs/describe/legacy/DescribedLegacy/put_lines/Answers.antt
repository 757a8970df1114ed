use Rattle.std.proofs.Common.{[], map, subst, sym}
use Rattle.std.proofs.lemmas.Grind.{flat_map-append}
use Rattle.bi_legacy.specs.Meaning.{image_of}
use Rattle.bi_common.specs.CommonLines.{header_lines}
use Rattle.bi_common.specs.LineTokens.{line_tokens, tokens_of_lines}
use Rattle.bi_describe.specs.Descriptions.{part_lines}
use Rattle.bi_describe.specs.MadeParts.{digest_of_part}
use Rattle.bi_describe.proofs.describe.legacy.DescribedLegacy.put_lines.Goals as goal

pub returns : goal.returns
returns g c =
    let puts = g.L.LinePen.puts in
    let described = c.args.self.now in
    subst (λ tokens. puts c.args.pen.now tokens c.put_parts.new.pen)
    (sym (flat_map-append line_tokens (header_lines (image_of described.fields []))
    (part_lines 0 (map digest_of_part described.parts.items))))
    (g.met.L.LinePen.puts_in_turn _ _ _ _ _ c.put_header_lines.ensures
    (subst (λ parts. puts c.put_header_lines.new.pen (tokens_of_lines (part_lines 0 (map digest_of_part parts))) c.put_parts.new.pen)
    c.deref.ensures.value c.put_parts.ensures))
