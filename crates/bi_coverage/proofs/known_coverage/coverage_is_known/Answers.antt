use Rattle.bi_coverage.proofs.KnownCoverage.{coverage_known}
use Rattle.bi_coverage.proofs.known_coverage.coverage_is_known.Goals as goal

pub returns : goal.returns
returns c = record { coverage = coverage_known }
