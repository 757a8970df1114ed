use Rattle.bi_commands.proofs.DescribedValues.{shown_values_are_described}
use Rattle.bi_commands.proofs.laws.shown_values_are_described.Goals as goal

pub returns : goal.returns
returns c = shown_values_are_described
