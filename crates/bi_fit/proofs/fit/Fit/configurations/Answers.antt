use Rattle.bi_fit.proofs.FileConfigurations.{each_is_found, configurations_are}
use Rattle.bi_fit.proofs.fit.Fit.configurations.Goals as goal

pub invariant_of-result : goal.invariant_of-result
invariant_of-result c = rw c.configuration_nodes.ensures (each_is_found c.args.self.now c.give_invariant.ensures)

pub returns : goal.returns
returns c = rw c.configuration_nodes.ensures (configurations_are c.args.self.now)
