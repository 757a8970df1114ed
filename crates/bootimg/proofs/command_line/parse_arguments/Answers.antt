use Rattle.std.proofs.Common.{◌≡◌, ◌∙◌, false, refl, true}
use Rattle.clap.specs.Words.{app_of}
use Rattle.bootimg.specs.CommandLine.{texts_of}
use Rattle.bootimg.proofs.NoRequests.{all_requested, arguments_give, given_is_command, no_all, no_job, no_limits, not_each}
use Rattle.bootimg.proofs.NoRequests.{rejected_by_clap}
use Rattle.bootimg.proofs.NoRequests.{subcommand_is_there}
use Rattle.bootimg.proofs.command_line.parse_arguments.Goals as goal

pub returns-in_err-matches-clause-failure : goal.returns-in_err-matches-clause-failure
returns-in_err-matches-clause-failure c =
    rejected_by_clap (app_of c.in_ok-program.field-0) (texts_of c.args.arguments.now) c.in_err-matches.field-0.0
    c.from_residual-in_err-matches.result c.in_ok-program.ensures c.in_err-matches.ensures.kinds c.from_residual-in_err-matches.ensures.1

pub unreachable-requires : goal.unreachable-requires
unreachable-requires c =
    let there = subcommand_is_there (app_of c.in_ok-program.field-0) (texts_of c.args.arguments.now) c.in_ok-matches.matches
    c.in_ok-program.ensures c.in_ok-matches.ensures.kinds c.in_ok-matches.ensures.matches in
    let bad : false ≡ true = c.in_default.ensures.variant ∙ there in
    cc

pub images_request-requires : goal.images_request-requires
images_request-requires c = record { names = c.if-names_images.ensures.several refl }

pub returns-in_err-images_request-clause-failure : goal.returns-in_err-images_request-clause-failure
returns-in_err-images_request-clause-failure c =
    not_each (texts_of c.args.arguments.now) c.in-Some.name.now c.in-Some.options.now c.from_residual-in_err-images_request.result
    c.in_err-images_request.field-0.0
    (arguments_give (app_of c.in_ok-program.field-0)
    (texts_of c.args.arguments.now) c.in_ok-matches.matches c.subcommand.result c.in-Some.name
    c.in-Some.options c.in_ok-program.ensures c.in_ok-matches.ensures.kinds c.in_ok-matches.ensures.matches c.in-Some.is
    c.subcommand.ensures.name c.subcommand.ensures.rows)
    (c.if-names_images.ensures.several refl) c.from_residual-in_err-images_request.ensures.1 c.in_err-images_request.ensures.failure

pub returns-then-names_images-clause-order : goal.returns-then-names_images-clause-order
returns-then-names_images-clause-order c = record {
  name = c.in-Some.name.now;
  options = c.in-Some.options.now;
  given = arguments_give (app_of c.in_ok-program.field-0) (texts_of c.args.arguments.now) c.in_ok-matches.matches c.subcommand.result
      c.in-Some.name c.in-Some.options c.in_ok-program.ensures c.in_ok-matches.ensures.kinds c.in_ok-matches.ensures.matches c.in-Some.is
      c.subcommand.ensures.name c.subcommand.ensures.rows;
  is = c.in_ok-images_request.ensures.request;
}

pub parse_job-requires-clause-command : goal.parse_job-requires-clause-command
parse_job-requires-clause-command c =
    given_is_command (texts_of c.args.arguments.now) c.in-Some.name.now c.in-Some.options.now
    (arguments_give (app_of c.in_ok-program.field-0)
    (texts_of c.args.arguments.now) c.in_ok-matches.matches c.subcommand.result c.in-Some.name
    c.in-Some.options c.in_ok-program.ensures c.in_ok-matches.ensures.kinds c.in_ok-matches.ensures.matches c.in-Some.is
    c.subcommand.ensures.name c.subcommand.ensures.rows)

pub returns-in_err-job-clause-failure : goal.returns-in_err-job-clause-failure
returns-in_err-job-clause-failure c =
    no_job (texts_of c.args.arguments.now) c.in-Some.name.now c.in-Some.options.now c.from_residual-in_err-job.result c.in_err-job.field-0.0
    (arguments_give (app_of c.in_ok-program.field-0)
    (texts_of c.args.arguments.now) c.in_ok-matches.matches c.subcommand.result c.in-Some.name
    c.in-Some.options c.in_ok-program.ensures c.in_ok-matches.ensures.kinds c.in_ok-matches.ensures.matches c.in-Some.is
    c.subcommand.ensures.name c.subcommand.ensures.rows)
    c.from_residual-in_err-job.ensures.1 c.in_err-job.ensures.failure

pub returns-in_err-limits-clause-failure : goal.returns-in_err-limits-clause-failure
returns-in_err-limits-clause-failure c =
    no_limits (texts_of c.args.arguments.now) c.in-Some.name.now c.in-Some.options.now c.in_ok-job.job c.from_residual-in_err-limits.result
    c.in_err-limits.field-0.0
    (arguments_give (app_of c.in_ok-program.field-0)
    (texts_of c.args.arguments.now) c.in_ok-matches.matches c.subcommand.result c.in-Some.name
    c.in-Some.options c.in_ok-program.ensures c.in_ok-matches.ensures.kinds c.in_ok-matches.ensures.matches c.in-Some.is
    c.subcommand.ensures.name c.subcommand.ensures.rows)
    c.from_residual-in_err-limits.ensures.1 c.in_ok-job.ensures.job c.in_err-limits.ensures.bad

pub returns-in-Err-clause-failure : goal.returns-in-Err-clause-failure
returns-in-Err-clause-failure c =
    let all = c.if-extracts_all.ensures.all refl in
    no_all (texts_of c.args.arguments.now) c.in-Some.name.now c.in-Some.options.now c.in-Err.failure
    (arguments_give (app_of c.in_ok-program.field-0)
    (texts_of c.args.arguments.now) c.in_ok-matches.matches c.subcommand.result c.in-Some.name
    c.in-Some.options c.in_ok-program.ensures c.in_ok-matches.ensures.kinds c.in_ok-matches.ensures.matches c.in-Some.is
    c.subcommand.ensures.name c.subcommand.ensures.rows)
    all.0 all.1 c.in-Err.ensures.failure

pub returns-in-Ok-clause-order : goal.returns-in-Ok-clause-order
returns-in-Ok-clause-order c =
    let all = c.if-extracts_all.ensures.all refl in
    all_requested (texts_of c.args.arguments.now) c.in-Some.name.now c.in-Some.options.now c.in-Ok.request
    (arguments_give (app_of c.in_ok-program.field-0)
    (texts_of c.args.arguments.now) c.in_ok-matches.matches c.subcommand.result c.in-Some.name
    c.in-Some.options c.in_ok-program.ensures c.in_ok-matches.ensures.kinds c.in_ok-matches.ensures.matches c.in-Some.is
    c.subcommand.ensures.name c.subcommand.ensures.rows)
    all.0 all.1 c.in-Ok.ensures.none c.in-Ok.ensures.request

pub returns-clause-order : goal.returns-clause-order
returns-clause-order c = record {
  name = c.in-Some.name.now;
  options = c.in-Some.options.now;
  given = arguments_give (app_of c.in_ok-program.field-0) (texts_of c.args.arguments.now) c.in_ok-matches.matches c.subcommand.result
      c.in-Some.name c.in-Some.options c.in_ok-program.ensures c.in_ok-matches.ensures.kinds c.in_ok-matches.ensures.matches c.in-Some.is
      c.subcommand.ensures.name c.subcommand.ensures.rows;
  job = c.in_ok-job.ensures.job;
  limits = c.in_ok-limits.ensures.value;
  output = c.get_str.ensures;
  is_image = c.writes_image.ensures;
}
