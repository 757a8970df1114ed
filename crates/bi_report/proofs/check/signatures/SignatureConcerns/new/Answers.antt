use Rattle.std.proofs.Common.{List, ap, map, ◌∙◌}
use Rattle.bi_coverage.specs.declared.concern.SignatureConcern.{SignatureConcern}
use Rattle.bi_coverage.specs.Values.{signature_concern}
use Rattle.bi_report.specs.Checking.{OfSignature}
use Rattle.bi_report.specs.FoundConcerns.{NamedNodes, concerns_about}
use Rattle.bi_report.proofs.FoundConcerns.{about_signature}
use Rattle.bi_report.proofs.check.signatures.SignatureConcerns.new.Goals as goal

pub returns : goal.returns
returns c =
    let configuration = c.args.configuration.now in
    let name = c.args.signature.now.name.now in
    about_signature configuration name c.deref.result.now
    ∙ ap (λ (concerns : List SignatureConcern).
    concerns_about NamedNodes (map (OfSignature configuration name) (map signature_concern concerns)))
    c.deref.ensures.value
