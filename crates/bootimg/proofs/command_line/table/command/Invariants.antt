use Rattle.std.proofs.Common.{◌≡◌, ℕ, false, List, [], map, take}
use Rattle.clap.specs.Simple.{App}
use Rattle.clap.specs.Walk.{Rule}
use Rattle.clap.specs.Words.{app_of}
use Rattle.clap.specs.declared.builder.command.Command.TheViews.{out-Command}
use Rattle.bootimg.specs.Program.{command}
use Rattle.bootimg.specs.Table.{rule_of_option}
use Rattle.bootimg.proofs.command_line.table.command.Given as goal

-- A command of this name, with these other names and these options, by itself.
abbrev pub app_of_command : (name : List ℕ) (aliases : List (List ℕ)) → List Rule → App
app_of_command name aliases rules = record { top = record (command name rules) { aliases = aliases }; subs = [] }

-- The command has the options so far, and none of them is global.
abbrev pub invariant-loop-option : goal.invariant-loop-option
invariant-loop-option l =
    (app_of l.command
    ≡ app_of_command l.text.name.now (map (λ alias. alias.now) l.text.aliases.now)
    (map rule_of_option (take l.option-index l.text.options.now)))
    × ((out-Command l.command).has_globals ≡ false)
