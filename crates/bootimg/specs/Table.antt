use Rattle.std.specs.Prelude.{ℕ, List, fold, map}
use Rattle.clap.specs.Walk.{Rule}
use Rattle.clap.specs.Simple.{App, Shape, with_subcommand}
use Rattle.bootimg.specs.Program.{command, flag_option, option_with_default, required_option}
use Rattle.bootimg.specs.Program.{positional, positionals, required_positional}
use Rattle.bootimg.specs.Program.{repeated_option, required_positionals, short_option}
use Rattle.bootimg.specs.Program.{value_option}
use Rattle.bootimg.specs.declared.command_line.table.CommandText.{CommandText}
use Rattle.bootimg.specs.declared.command_line.table.OptionForm.{OptionForm}
use Rattle.bootimg.specs.declared.command_line.table.OptionForm.TheVariants as form
use Rattle.bootimg.specs.declared.command_line.table.OptionText.{OptionText}
use Rattle.bootimg.specs.declared.command_line.takes.Place.{Place}
use Rattle.bootimg.specs.declared.command_line.takes.Place.TheVariants as place

-- What the table of commands and options means.

-- The option of this name and form.
abbrev pub rule_of_form : OptionForm → List ℕ → Rule
rule_of_form form.Flag name = flag_option name
rule_of_form form.Required name = required_option name
rule_of_form form.Optional name = value_option name
rule_of_form form.Repeated name = repeated_option name
rule_of_form (form.Short letter) name = short_option name letter
rule_of_form (form.Default value) name = option_with_default name value.now
rule_of_form form.Positional name = positional name
rule_of_form form.RequiredPositional name = required_positional name
rule_of_form form.Positionals name = positionals name
rule_of_form form.RequiredPositionals name = required_positionals name

-- Where the words of an option stand: after `--NAME`, or where the usage has the argument.
abbrev place_of_form : OptionForm → OptionText → Place
place_of_form form.Positional option = place.Argument option.value_name
place_of_form form.RequiredPositional option = place.Argument option.value_name
place_of_form form.Positionals option = place.Argument option.value_name
place_of_form form.RequiredPositionals option = place.Argument option.value_name
place_of_form other option = place.Option option.name

abbrev pub place_of_option : OptionText → Place
place_of_option option = place_of_form option.form option

-- The option of a text.
abbrev pub rule_of_option : OptionText → Rule
rule_of_option option = rule_of_form option.form option.name.now

-- The command of a text.
abbrev pub shape_of_text : CommandText → Shape
shape_of_text text = record (command text.name.now (map rule_of_option text.options.now)) {
  aliases = map (λ alias. alias.now) text.aliases.now;
}

-- The program with these commands more.
abbrev pub with_subcommands : App → List Shape → App
with_subcommands program shapes = fold with_subcommand program shapes
