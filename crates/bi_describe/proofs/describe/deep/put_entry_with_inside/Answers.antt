use Rattle.std.proofs.Common.{ap, append-nil, subst, sym, ◌∙◌}
use Rattle.std.proofs.lemmas.Grind.{flat_map-append}
use Rattle.bi_common.specs.LineTokens.{line_tokens, tokens_of_lines}
use Rattle.bi_common.specs.MadeFields.{bytes_of_names}
use Rattle.bi_describe.specs.DeepDescriptions.{lines_at}
use Rattle.bi_describe.specs.Ignoring.{OfImageNamed}
use Rattle.bi_describe.specs.MadeInsides.{shown_by}
use Rattle.bi_describe.proofs.DeepFacts.{entry_alone}
use Rattle.bi_describe.proofs.describe.deep.put_entry_with_inside.Goals as goal

pub returns-in-Payload-clause-put : goal.returns-in-Payload-clause-put
returns-in-Payload-clause-put g c trees held =
    let puts = g.L.LinePen.puts in
    rw c.in-Payload.is
    (subst (λ tokens. puts c.args.pen.now tokens c.put_lines_of_image.new.pen)
    (sym (ap tokens_of_lines (append-nil _) ∙ flat_map-append line_tokens _ _))
    (g.met.L.LinePen.puts_in_turn _ _ _ _ _ (rw c.in-Payload.is at c.put_entry_unless_opened.ensures)
    (subst (λ name. puts c.put_entry_unless_opened.new.pen
    (tokens_of_lines (lines_at (OfImageNamed name) (trees (OfImageNamed name)))) c.put_lines_of_image.new.pen)
    c.last_name.ensures (c.put_lines_of_image.ensures.put trees held))))

pub returns-in_default-clause-put : goal.returns-in_default-clause-put
returns-in_default-clause-put g c trees held =
    subst (λ lines. g.L.LinePen.puts c.args.pen.now (tokens_of_lines lines) c.put_entry.new.pen)
    (sym (entry_alone (shown_by trees c.args.opened.now) (bytes_of_names c.args.names.now) c.args.entry c.in_default.not-Payload))
    c.put_entry.ensures
