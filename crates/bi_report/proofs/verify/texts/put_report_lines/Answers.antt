use Rattle.std.proofs.Common.{[], ◌∷◌, append-nil, map, subst, sym}
use Rattle.std.proofs.lemmas.Grind.{flat_map-append}
use Rattle.bi_common.specs.HashedImages.{hashed_left}
use Rattle.bi_common.specs.LineTokens.{line_tokens}
use Rattle.bi_common.specs.VerdictCounts.{counts_model}
use Rattle.bi_report.specs.Reports.{hash_line, hashes_of_images, summary_line}
use Rattle.bi_report.proofs.verify.texts.put_report_lines.Goals as goal

pub returns : goal.returns
returns g c =
    let puts = g.L.LinePen.puts in
    let last = summary_line (counts_model c.args.counts) in
    subst (λ tokens. puts c.args.pen.now tokens c.put_summary_line.new.pen)
    (sym (flat_map-append line_tokens (map hash_line (hashes_of_images (hashed_left c.args.images))) (last ∷ [])))
    (g.met.L.LinePen.puts_in_turn _ _ _ _ _ c.put_image_lines.ensures
    (subst (λ tokens. puts c.put_image_lines.new.pen tokens c.put_summary_line.new.pen) (sym (append-nil (line_tokens last)))
    c.put_summary_line.ensures))
