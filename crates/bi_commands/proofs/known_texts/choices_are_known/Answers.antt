use Rattle.bi_commands.proofs.ChoiceFacts.{choices_are_known}
use Rattle.bi_commands.proofs.known_texts.choices_are_known.Goals as goal

pub returns : goal.returns
returns c = choices_are_known
