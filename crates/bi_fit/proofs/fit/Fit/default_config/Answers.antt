use Rattle.std.proofs.Common.{ap}
use Rattle.std.specs.Option.{option_map}
use Rattle.bi_fit.proofs.FileConfigurations.{default_is}
use Rattle.bi_fit.proofs.fit.Fit.default_config.Goals as goal

pub returns-in_err-configurations_node : goal.returns-in_err-configurations_node
returns-in_err-configurations_node c =
    rw (default_is c.args.self.now, ← c.configurations_node.ensures, c.in_err-configurations_node.was)
    (ap (option_map (λ name. name.now)) c.from_residual.ensures)

pub returns-in_err-property : goal.returns-in_err-property
returns-in_err-property c =
    rw (
      default_is c.args.self.now,
      ← c.configurations_node.ensures,
      c.in_ok-configurations_node.was,
      ← c.property.ensures,
      c.in_err-property.was,
    )
    (ap (option_map (λ name. name.now)) c.from_residual-in_err-property.ensures)

pub returns : goal.returns
returns c =
    rw (
      default_is c.args.self.now,
      ← c.configurations_node.ensures,
      c.in_ok-configurations_node.was,
      ← c.property.ensures,
      c.in_ok-property.was,
    )
    c.text_before_nul.ensures
