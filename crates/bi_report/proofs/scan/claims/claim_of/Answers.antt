use Rattle.bi_report.proofs.ScanClaims.{nothing_is_claimed}
use Rattle.bi_report.proofs.scan.claims.claim_of.Goals as goal

pub returns-in-Err-clause-claim : goal.returns-in-Err-clause-claim
returns-in-Err-clause-claim c = nothing_is_claimed c.args.image.now _ c.in-Err.ensures.fault
