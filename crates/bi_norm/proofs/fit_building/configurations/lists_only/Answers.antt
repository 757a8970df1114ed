use Rattle.std.proofs.Common.{sym, ◌∙◌}
use Rattle.bi_norm.proofs.ConfigurationChecks.{lists_only_is, lists_only_back}
use Rattle.bi_norm.proofs.fit_building.configurations.lists_only.Goals as goal

pub returns : goal.returns
returns c held holds = (
  λ is. lists_only_is c.args.image_names.now held holds c.args.configuration.now (sym c.are_all_among.ensures ∙ is),
  λ only. c.are_all_among.ensures ∙ lists_only_back c.args.image_names.now held holds c.args.configuration.now only,
)
