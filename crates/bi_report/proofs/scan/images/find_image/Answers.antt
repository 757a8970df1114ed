use Rattle.std.proofs.Common.{[], ◌∷◌, rules, subst, sym}
use Rattle.std.specs.Prelude.{MatchOption}
use Rattle.bi_norm.specs.Meaning.{MeansNothing}
use Rattle.bi_norm.specs.Reading.{IsReadBootImage}
use Rattle.bi_report.specs.ScannedImages.{scanned_image_read}
use Rattle.bi_report.specs.Scanning.{IsFoundAt}
use Rattle.bi_report.proofs.ScannedLines.{no_kind_not_found, read_found_at}
use Rattle.bi_report.proofs.scan.images.find_image.Goals as goal

pub returns-then-is_err-clause-found : goal.returns-then-is_err-clause-found
returns-then-is_err-clause-found c =
    no_kind_not_found c.args.limits c.args.file.now c.image_at-image.result.now c.args.offset c.kind_of.result c.image_at-image.ensures
    (search rules) c.kind_of.ensures.fault

pub returns-clause-found : goal.returns-clause-found
returns-clause-found c =
    let limits = c.args.limits in
    let image = c.image_at-image.result.now in
    subst (λ found. IsFoundAt limits c.args.file.now c.args.offset (found ∷ [])) (sym c.found_image.ensures)
    (read_found_at limits image c.args.file.now c.args.offset c.in-Some.read c.image_at-image.ensures
    (subst (λ read. MatchOption read (MeansNothing limits image) (IsReadBootImage limits image)) c.in-Some.is c.in_ok-read.ensures.read))
