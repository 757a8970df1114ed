use Rattle.std.proofs.Common.{◌∷◌, [], ◌++◌, rules, subst}
use Rattle.bi_common.specs.HashedImages.{hashed_left}
use Rattle.bi_common.specs.Json.{json_text}
use Rattle.bi_common.specs.VerdictCounts.{counts_model}
use Rattle.bi_common.proofs.WrittenTokens.{value_put}
use Rattle.bi_report.specs.Reports.{hash_report_lines, hash_report_object, hashes_of_images}
use Rattle.bi_report.proofs.ImageReports.{lines_read, object_read}
use Rattle.bi_report.proofs.LaterPuts.{lines_put_as}
use Rattle.bi_report.proofs.verify.texts.put_fit_report.Goals as goal

pub returns-in-Lines : goal.returns-in-Lines
returns-in-Lines g c =
    let hashes = hashes_of_images (hashed_left c.new-images.result) in
    rw c.in-Lines.is
    (lines_put_as g.P.Pen.puts _ _ _ _ _ (hash_report_lines hashes (counts_model c.args.counts)) _
    (lines_read c.args.fit.now _ c.args.counts c.new-images.ensures c.requires.counted) c.new.ensures.no_word c.new.ensures.same_pen
    (search rules) c.put_report_lines.ensures.1)

pub returns-in-Json : goal.returns-in-Json
returns-in-Json g c =
    let hashes = hashes_of_images (hashed_left c.new-images.result) in
    rw c.in-Json.is
    (subst (λ object. g.P.Pen.puts c.args.pen.now (json_text object ++ 10 ∷ []) c.put.new.self)
    (object_read c.args.fit.now _ c.args.counts c.new-images.ensures c.requires.counted)
    (g.met.P.Pen.puts_in_turn _ _ _ _ (10 ∷ [])
    (value_put g.P.Pen.puts _ _ _ _ _ (hash_report_object hashes (counts_model c.args.counts)) c.new-in-Json.ensures.no_comma
    c.new-in-Json.ensures.same_pen (search rules) c.put_report_object.ensures.1)
    c.put.ensures))
