use Rattle.std.proofs.Common.{map, ap, ◌∙◌}
use Rattle.bi_coverage.specs.Values.{configuration_value}
use Rattle.bi_show.proofs.ShownSignatures.{coverage_of_nodes}
use Rattle.bi_show.proofs.show.signatures.signature_rows.Goals as goal

pub add_configuration_signatures-requires : goal.add_configuration_signatures-requires
add_configuration_signatures-requires c = record {
  covered = ap (map configuration_value) c.deref.ensures.value
      ∙ coverage_of_nodes c.args.fit.now _ c.requires.covered.configurations;
}
