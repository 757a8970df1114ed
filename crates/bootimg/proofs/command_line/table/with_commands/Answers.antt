use Rattle.std.proofs.Common.{ap, ap₂, sym, ◌∙◌, map, take}
use Rattle.std.proofs.lemmas.List.{map_more, take_all}
use Rattle.std.proofs.lemmas.List.Sums.{fold_push}
use Rattle.clap.specs.Words.{app_of, with_subcommand}
use Rattle.bootimg.specs.Table.{shape_of_text, with_subcommands}
use Rattle.bootimg.proofs.command_line.table.with_commands.Goals as goal

pub loop-text-preserved : goal.loop-text-preserved
loop-text-preserved c =
    let before = app_of c.args.program in
    let texts = c.args.texts.now in
    let index = c.loop-text.text-index in
    c.in_ok-program.ensures.shape c.in_ok-command.ensures.local
    ∙ ap₂ with_subcommand c.loop-text.invariant c.in_ok-command.ensures.shape
    ∙ sym (ap (with_subcommands before) (map_more shape_of_text texts index _ c.loop-text-test.true)
    ∙ fold_push with_subcommand before (map shape_of_text (take index texts)) _)

pub returns : goal.returns
returns c =
    c.loop-text.invariant
    ∙ ap (λ texts. with_subcommands (app_of c.args.program) (map shape_of_text texts))
    (take_all c.loop-text.text-index c.args.texts.now c.loop-text-test.false)
