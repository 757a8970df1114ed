use Rattle.std.proofs.Common.{ap, ap₂, ◌∙◌, true}
use Rattle.std.proofs.lemmas.Result.{IfOk-weaker}
use Rattle.clap.specs.Words.{with_subcommand}
use Rattle.clap.specs.Simple.{app_of_fields, on_top}
use Rattle.bootimg.specs.Program.{building_commands, changing_commands, checking_commands, program_app, reading_commands}
use Rattle.bootimg.specs.Table.{with_subcommands}
use Rattle.bootimg.proofs.command_line.table.program.Goals as goal

pub returns : goal.returns
unfolding program_app
returns c =
    let named = ap app_of_fields c.in_ok-bin_name.ensures.0 ∙ c.new.ensures.app in
    let unnamed = ap app_of_fields c.no_binary_name.ensures ∙ ap (on_top (λ s. record s { no_binary_name = true })) named in
    let with_version = ap app_of_fields c.version.ensures ∙ ap (on_top (λ s. record s { has_version = true })) unnamed in
    let described = ap app_of_fields c.after_help.ensures ∙ (ap app_of_fields c.about.ensures ∙ with_version) in
    let empty = ap app_of_fields c.subcommand_required-program.ensures
    ∙ ap (on_top (λ s. record s { subcommand_required = true })) described in
    let reading = c.in_ok-program.ensures ∙ ap (λ app. with_subcommands app reading_commands) empty in
    let checking = c.in_ok-program-2.ensures ∙ ap (λ app. with_subcommands app checking_commands) reading in
    let changing = c.in_ok-program-3.ensures ∙ ap (λ app. with_subcommands app changing_commands) checking in
    let building = c.in_ok-program-4.ensures ∙ ap (λ app. with_subcommands app building_commands) changing in
    IfOk-weaker c.subcommand.result _ _
    (λ program added. added.shape c.in_ok-command.ensures.local ∙ ap₂ with_subcommand building c.in_ok-command.ensures.shape)
    c.subcommand.ensures
