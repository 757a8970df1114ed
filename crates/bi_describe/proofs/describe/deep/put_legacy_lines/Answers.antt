use Rattle.std.proofs.Common.{ap, map, subst, sym, ◌∙◌}
use Rattle.bi_common.specs.CommonLines.{header_lines}
use Rattle.bi_common.specs.LineTokens.{tokens_of_lines}
use Rattle.bi_legacy.specs.Meaning.{image_of}
use Rattle.bi_describe.specs.DeepDescriptions.{insides_shown, lines_with_inside}
use Rattle.bi_describe.specs.Descriptions.{digest_of_payload, part_lines}
use Rattle.bi_describe.specs.MadeParts.{bytes_of_parts, digest_of_part}
use Rattle.bi_describe.proofs.DeepLines.{legacy_apart}
use Rattle.bi_describe.proofs.DescribedImages.{digests_of_bytes}
use Rattle.bi_describe.proofs.describe.deep.put_legacy_lines.Goals as goal

pub returns-clause-put : goal.returns-clause-put
returns-clause-put g c = λ trees held.
    let puts = g.L.LinePen.puts in
    let image = c.args.image.now in
    let shown = insides_shown trees in
    let whole = image_of image.fields (bytes_of_parts image.parts.items) in
    subst (λ tokens. puts c.args.pen.now tokens c.put_parts.new.pen)
    (sym (legacy_apart shown whole (part_lines 0 (map digest_of_payload (bytes_of_parts image.parts.items)))))
    (g.met.L.LinePen.puts_in_turn _ _ _ _ _ c.put_header_lines.ensures
    (subst (λ digests. puts c.put_header_lines.new.pen (tokens_of_lines (lines_with_inside shown (part_lines 0 digests)))
    c.put_parts.new.pen)
    (ap (map digest_of_part) c.deref.ensures.value ∙ digests_of_bytes image.parts.items) (c.put_parts.ensures.put trees held)))
