use Rattle.bi_fit.proofs.AppendedTexts.{wrote_of_kind, wrote_none_of_kind}
use Rattle.bi_norm.specs.Reading.{IsBootImageReadError}
use Rattle.bi_report.specs.ListedFiles.{IsListing}
use Rattle.bi_report.proofs.FitListings.{listing_of_read}
use Rattle.bi_report.proofs.list.list_into.Goals as goal

pub returns-clause-appended : goal.returns-clause-appended
returns-clause-appended g c =
    wrote_of_kind g.S.Sink.appends g.S.Sink.fails (IsListing c.args.format c.args.limits c.args.file.now) c.args.sink.now _
    c.append_listing.result c.append_listing.new.sink
    (listing_of_read c.args.format c.args.limits c.args.file.now c.in_ok-image.image c.in_ok-image.ensures.read) c.append_listing.ensures

pub returns-clause-failed : goal.returns-clause-failed
returns-clause-failed g c =
    wrote_none_of_kind g.S.Sink.appends g.S.Sink.fails (IsListing c.args.format c.args.limits c.args.file.now)
    (IsBootImageReadError c.args.limits c.args.file.now) c.args.sink.now _ c.append_listing.result c.append_listing.new.sink
    (listing_of_read c.args.format c.args.limits c.args.file.now c.in_ok-image.image c.in_ok-image.ensures.read) c.append_listing.ensures
