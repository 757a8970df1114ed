use Rattle.std.proofs.Common.{Some, ap}
use Rattle.std.specs.Option.{option_map}
use Rattle.bi_fit.proofs.FileConfigurations.{name_at}
use Rattle.bi_fit.proofs.fit.Fit.config_name.Goals as goal

pub returns-in_err-configurations_node : goal.returns-in_err-configurations_node
returns-in_err-configurations_node c =
    rw (name_at c.args.self.now c.args.index, ← c.configurations_node.ensures, c.in_err-configurations_node.was)
    (ap (option_map (λ name. name.now)) c.from_residual.ensures)

pub returns-in_err-child_at : goal.returns-in_err-child_at
returns-in_err-child_at c =
    rw (
      name_at c.args.self.now c.args.index,
      ← c.configurations_node.ensures,
      c.in_ok-configurations_node.was,
      ← c.child_at.ensures,
      c.in_err-child_at.was,
    )
    (ap (option_map (λ name. name.now)) c.from_residual-in_err-child_at.ensures)

pub returns : goal.returns
returns c =
    rw (
      name_at c.args.self.now c.args.index,
      ← c.configurations_node.ensures,
      c.in_ok-configurations_node.was,
      ← c.child_at.ensures,
      c.in_ok-child_at.was,
    )
    (ap Some c.name.ensures)
