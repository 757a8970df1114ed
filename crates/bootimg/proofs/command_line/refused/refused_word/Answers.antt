use Rattle.std.proofs.lemmas.Result.{IfOk-weaker}
use Rattle.clap.specs.Words.{app_of}
use Rattle.bootimg.specs.CommandLine.{texts_of}
use Rattle.bootimg.proofs.NoRequests.{arguments_give}
use Rattle.bootimg.proofs.command_line.refused.refused_word.Goals as goal

pub returns-in-Some : goal.returns-in-Some
returns-in-Some c =
    let gives = arguments_give (app_of c.in_ok-program.field-0) (texts_of c.args.arguments.now) c.in-Ok.matches c.subcommand.result
    c.in-Some.field-0-0 c.in-Some.options c.in_ok-program.ensures c.in-Ok.ensures.kinds c.in-Ok.ensures.matches c.in-Some.is
    c.subcommand.ensures.name c.subcommand.ensures.rows in
    IfOk-weaker c.refused_by_options.result _ _ (λ refused finds. (c.in-Some.field-0-0.now, c.in-Some.options.now, gives, finds))
    c.refused_by_options.ensures
