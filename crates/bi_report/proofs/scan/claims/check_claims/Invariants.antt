use Rattle.std.proofs.Common.{◌≤◌}
use Rattle.bi_report.proofs.ScanClaims.{HasCounted}
use Rattle.bi_report.proofs.scan.claims.check_claims.Given as goal

abbrev pub invariant-loop-offset : goal.invariant-loop-offset
invariant-loop-offset l = record { counted : HasCounted l.file l.offset-iterator l.total l.end; within : l.total ≤ l.limits.file }
