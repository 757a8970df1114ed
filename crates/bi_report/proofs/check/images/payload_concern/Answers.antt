use Rattle.std.proofs.Common.{ap, sym, ◌∙◌}
use Rattle.std.specs.Option.{option_map}
use Rattle.bi_fdt.specs.Views.{node_of}
use Rattle.bi_common.specs.HashedImages.{found_left}
use Rattle.bi_report.specs.Checking.{payload_concerns, protection_concerns}
use Rattle.bi_report.specs.FoundConcerns.{NodeItself, concerns_about, used_found}
use Rattle.bi_report.proofs.check.images.payload_concern.Goals as goal

pub returns-in-Some : goal.returns-in-Some
returns-in-Some c =
    let entry = node_of c.args.image.node in
    c.protection_concern.ensures
    ∙ ap (λ hashes. concerns_about (NodeItself entry) (protection_concerns entry.name hashes)) c.new.ensures
    ∙ ap (λ payload. concerns_about (NodeItself entry) (payload_concerns entry.name (option_map (λ payload. payload.now) payload)
    (used_found (found_left c.args.image.hashes)))) (sym c.in-Some.is)

pub returns-in-None : goal.returns-in-None
returns-in-None c =
    let entry = node_of c.args.image.node in
    ap (λ payload. concerns_about (NodeItself entry) (payload_concerns entry.name (option_map (λ payload. payload.now) payload)
    (used_found (found_left c.args.image.hashes)))) (sym c.in-None.is)
