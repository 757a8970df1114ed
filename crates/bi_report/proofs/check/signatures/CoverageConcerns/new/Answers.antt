use Rattle.std.proofs.Common.{List, ap₂, flat_map, map, ◌++◌, ◌∙◌}
use Rattle.bi_coverage.specs.Values.{configuration_value, signature_value}
use Rattle.bi_coverage.specs.declared.reading.SignatureCoverage.{SignatureCoverage}
use Rattle.bi_report.specs.Checking.{unsigned_concerns}
use Rattle.bi_report.specs.ConcernsLeft.{found_in_signed}
use Rattle.bi_report.specs.FoundConcerns.{FoundConcern}
use Rattle.bi_report.proofs.FoundConcerns.{about_signed}
use Rattle.bi_report.proofs.check.signatures.CoverageConcerns.new.Goals as goal

pub returns : goal.returns
returns c =
    let value = configuration_value c.args.configuration.now in
    ap₂ (λ (of_absence : List FoundConcern) (signatures : List SignatureCoverage).
    of_absence ++ flat_map (found_in_signed value.name) (map signature_value signatures))
    c.unsigned_concern.ensures c.deref.ensures.value
    ∙ about_signed value.name (unsigned_concerns value.name value.signatures) value.signatures
