use Rattle.std.proofs.Common.{subst}
use Rattle.bootimg.specs.CommandLine.{AsksForHashes, AsksToKeepForm, ChangesHashes, KeepsForm}
use Rattle.bootimg.proofs.command_line.edits.asks_for_edits.Goals as goal

pub returns-then-flag-clause-edits : goal.returns-then-flag-clause-edits
returns-then-flag-clause-edits c = λ holds. AsksForHashes (subst (ChangesHashes c.args.options.now) c.if-flag.true c.flag.ensures)

pub returns-clause-edits : goal.returns-clause-edits
returns-clause-edits c = λ holds. AsksToKeepForm (subst (KeepsForm c.args.options.now) holds c.flag-2.ensures)
