use Rattle.bi_commands.proofs.FilledParts.{lengths_are_cut}
use Rattle.bi_commands.proofs.laws.lengths_are_cut.Goals as goal

pub returns : goal.returns
returns c = lengths_are_cut
