use Rattle.std.proofs.Common.{ap, sym}
use Rattle.bi_fdt.specs.Views.{node_of}
use Rattle.bi_report.specs.ConcernValues.{used_left}
use Rattle.bi_report.specs.FoundConcerns.{NodeItself, concerns_about}
use Rattle.bi_report.proofs.CheckedHashes.{unhashed_only, weak_only, strong_only}
use Rattle.bi_report.proofs.check.images.protection_concern.Goals as goal

pub returns-then-not-has_good : goal.returns-then-not-has_good
returns-then-not-has_good c =
    let entry = node_of c.args.image in
    ap (concerns_about (NodeItself entry)) (sym (unhashed_only entry.name (used_left c.args.hashes) (sym c.if-not-has_good.ensures)))

pub returns-then-not-has_strong : goal.returns-then-not-has_strong
returns-then-not-has_strong c =
    let entry = node_of c.args.image in
    ap (concerns_about (NodeItself entry))
    (sym (weak_only entry.name (used_left c.args.hashes) (sym c.if-not-has_good.ensures) (sym c.if-not-has_strong.ensures)))

pub returns-else-not-has_strong : goal.returns-else-not-has_strong
returns-else-not-has_strong c =
    let entry = node_of c.args.image in
    ap (concerns_about (NodeItself entry))
    (sym (strong_only entry.name (used_left c.args.hashes) (sym c.if-not-has_good.ensures) (sym c.if-not-has_strong.ensures)))
