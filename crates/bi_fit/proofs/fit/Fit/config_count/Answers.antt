use Rattle.std.proofs.Common.{refl}
use Rattle.bi_fit.proofs.FileConfigurations.{configuration_count_is}
use Rattle.bi_fit.proofs.fit.Fit.config_count.Goals as goal

pub returns-in-Some : goal.returns-in-Some
returns-in-Some c =
    rw (configuration_count_is c.args.self.now, ← c.configurations_node.ensures, c.in-Some.is) c.child_count.ensures

pub returns-in-None : goal.returns-in-None
returns-in-None c =
    rw (configuration_count_is c.args.self.now, ← c.configurations_node.ensures, c.in-None.is) refl
