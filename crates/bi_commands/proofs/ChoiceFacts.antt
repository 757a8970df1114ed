use Rattle.std.proofs.Common.{rules}
use Rattle.bi_base.specs.Strings.{text_before_nul}
use Rattle.bi_fit.proofs.JudgementFacts.{find-properties}
use Rattle.bi_commands.specs.KnownChoices.{ChoicesAreKnown}

-- Small boot images have known choices.

pub choices_are_known : ChoicesAreKnown
unfolding text_before_nul
choices_are_known = search (rules, find-properties)
