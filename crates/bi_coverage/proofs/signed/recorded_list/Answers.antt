use Rattle.std.proofs.Common.{◌∙◌}
use Rattle.bi_fdt.specs.Views.{node_of}
use Rattle.bi_coverage.proofs.Meanings.{recorded_some, recorded_none}
use Rattle.bi_coverage.proofs.signed.recorded_list.Goals as goal

pub returns-in-Some : goal.returns-in-Some
returns-in-Some c =
    c.list_of_names.ensures
    ∙ recorded_some (node_of c.args.signature) c.property.result c.in-Some.value c.property.ensures c.in-Some.is

pub returns-in-None : goal.returns-in-None
returns-in-None c = recorded_none (node_of c.args.signature) c.property.result c.property.ensures c.in-None.is
