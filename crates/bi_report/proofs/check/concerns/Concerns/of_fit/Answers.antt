use Rattle.std.proofs.Common.{◌++◌, List, append_assoc, ap, ap₂, flat_map, map, sym, ◌∙◌}
use Rattle.bi_coverage.specs.Coverage.{ConfigurationCoverage, coverage_of}
use Rattle.bi_coverage.specs.Values.{configuration_value}
use Rattle.bi_coverage.specs.declared.reading.ConfigurationCoverage as read
use Rattle.bi_report.specs.Checking.{absence_concerns}
use Rattle.bi_report.specs.ConcernValues.{found_or_none}
use Rattle.bi_report.specs.ConcernsLeft.{addresses_left, signatures_left}
use Rattle.bi_report.specs.FoundConcerns.{FoundConcern, NamedNodes, concerns_about, found_in_coverage, found_in_rest}
use Rattle.bi_report.proofs.FoundConcerns.{about_addresses}
use Rattle.bi_report.proofs.check.concerns.Concerns.of_fit.Goals as goal

pub returns : goal.returns
returns c =
    let both = λ (some later : List FoundConcern). some ++ later in
    let absence = λ (configurations : List ConfigurationCoverage). concerns_about NamedNodes (absence_concerns configurations) in
    let signatures = λ (configurations : List ConfigurationCoverage). flat_map found_in_coverage configurations in
    let values = λ (configurations : List read.ConfigurationCoverage). map configuration_value configurations in
    let after = addresses_left c.new-4.result ++ (found_or_none c.default_concern.result ++ found_or_none c.rest_concern.result) in
    let covered = c.requires.covered in
    ap₂ both c.new.ensures (ap₂ both c.new-2.ensures
    (sym (append_assoc (found_or_none c.absence_concern.result) (signatures_left c.new-3.result) after)
    ∙ ap₂ both
    (ap₂ both
    (c.absence_concern.ensures ∙ ap absence (ap values c.deref.ensures.value ∙ covered.configurations))
    (c.new-3.ensures ∙ ap signatures (ap values c.deref-2.ensures.value ∙ covered.configurations)))
    (ap₂ both (c.new-4.ensures ∙ about_addresses (coverage_of c.args.fit.now) _ c.args.coverage.now.addresses.items covered.addresses)
    (ap₂ both c.default_concern.ensures (c.rest_concern.ensures ∙ ap found_in_rest c.bytes_after_fit.ensures)))))
