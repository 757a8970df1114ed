use Rattle.std.proofs.Common.{take, drop}
use Rattle.bi_report.proofs.HeaderSum.{sum-around_zeros}
use Rattle.bi_report.proofs.scan.claims.header_checksum.Goals as goal

pub returns : goal.returns
returns c = let e = sum-around_zeros (take 4 c.args.image.now) (take 56 (drop 8 c.args.image.now)) in cc
