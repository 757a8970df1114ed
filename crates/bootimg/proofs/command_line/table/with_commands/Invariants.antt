use Rattle.std.proofs.Common.{◌≡◌, map, take}
use Rattle.clap.specs.Words.{app_of}
use Rattle.bootimg.specs.Table.{shape_of_text, with_subcommands}
use Rattle.bootimg.proofs.command_line.table.with_commands.Given as goal

-- The program has the commands so far.
abbrev pub invariant-loop-text : goal.invariant-loop-text
invariant-loop-text l =
    app_of l.program ≡ with_subcommands (app_of l.initial.program) (map shape_of_text (take l.text-index l.texts))
