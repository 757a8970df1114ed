use Rattle.std.proofs.Common.{sym, ap, ◌∙◌}
use Rattle.std.specs.Option.{option_map}
use Rattle.bi_fdt.specs.Views.{node_of}
use Rattle.bi_fit.proofs.FileLists.{listed_is, nothing_listed}
use Rattle.bi_fit.proofs.fit.Fit.config_payloads.Goals as goal

pub returns-in-Some-clause-listed : goal.returns-in-Some-clause-listed
returns-in-Some-clause-listed c =
    rw (listed_is c.args.self.now c.give_invariant.ensures c.args.conf.now (node_of c.in-Some.node) c.args.key
    (sym c.configuration_node.ensures ∙ ap (option_map node_of) c.in-Some.is))
    c.list_images.ensures.listed

pub returns-in-Some-clause-failed : goal.returns-in-Some-clause-failed
returns-in-Some-clause-failed c =
    rw (listed_is c.args.self.now c.give_invariant.ensures c.args.conf.now (node_of c.in-Some.node) c.args.key
    (sym c.configuration_node.ensures ∙ ap (option_map node_of) c.in-Some.is))
    c.list_images.ensures.failed

pub returns-in-None-clause-failed : goal.returns-in-None-clause-failed
returns-in-None-clause-failed c =
    nothing_listed c.args.self.now c.give_invariant.ensures c.args.conf.now c.args.key
    (sym c.configuration_node.ensures ∙ ap (option_map node_of) c.in-None.is)
