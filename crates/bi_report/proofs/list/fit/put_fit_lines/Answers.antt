use Rattle.std.proofs.Common.{flat_map, map}
use Rattle.std.proofs.lemmas.Grind.{flat_map-append}
use Rattle.bi_common.specs.CommonLines.{reservation_line}
use Rattle.bi_common.specs.LineTokens.{line_tokens, tokens_of_lines}
use Rattle.bi_report.specs.FitListing.{configuration_lines, default_lines, listing_head, image_line}
use Rattle.bi_report.specs.ReadListing.{read_fit}
use Rattle.bi_report.proofs.PutInTurn.{put_last, put_then}
use Rattle.bi_report.proofs.list.fit.put_fit_lines.Goals as goal

pub returns : goal.returns
returns g c =
    let puts = g.L.LinePen.puts in
    let then = put_then puts tokens_of_lines (flat_map-append line_tokens) g.met.L.LinePen.puts_in_turn in
    let fit = read_fit c.args.fit.now in
    (then _ _ _ (listing_head fit.cpu fit.total_size) _ (rw c.blob.ensures at c.put_head_lines.ensures)
    (then _ _ _ (map reservation_line fit.reservations) _ (rw c.blob-2.ensures at c.put_reservation_lines.ensures)
    (then _ _ _ (map image_line fit.images) _ (rw c.images.ensures at c.put_image_lines.ensures)
    (then _ _ _ (flat_map configuration_lines fit.configurations) _ c.put_all_configuration_lines.ensures
    (put_last puts tokens_of_lines _ _ (default_lines fit.default_name) (rw c.default_config.ensures at c.put_default_line.ensures)))))).put
