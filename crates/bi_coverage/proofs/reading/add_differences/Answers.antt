use Rattle.std.proofs.Common.{map}
use Rattle.bi_fit.specs.Judgement.{listed_names}
use Rattle.bi_coverage.specs.Values.{signature_concern}
use Rattle.bi_coverage.specs.NeededParts.{part_value}
use Rattle.bi_coverage.proofs.Concerns.{differences_added}
use Rattle.bi_coverage.proofs.reading.add_differences.Goals as goal

pub returns : goal.returns
returns c =
    differences_added (map signature_concern c.args.concerns.now.items) _ _ (map part_value c.args.parts.now)
    (listed_names c.args.list.now) _ _ c.in_ok-recorded.ensures c.in_ok-needed.ensures
    c.in_ok-add_uncovered.ensures c.in_ok-add_foreign.ensures
