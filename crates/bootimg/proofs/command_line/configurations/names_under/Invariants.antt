use Rattle.std.proofs.Common.{◌≡◌, drop}
use Rattle.bootimg.specs.ConfigurationWords.{names_under}
use Rattle.bootimg.proofs.command_line.configurations.names_under.Given as goal

-- No list before this one has the key.
abbrev pub invariant-loop-list : goal.invariant-loop-list
invariant-loop-list l = names_under (drop l.list-index l.lists) l.key ≡ names_under l.lists l.key
