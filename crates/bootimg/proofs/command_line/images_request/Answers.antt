use Rattle.std.proofs.Common.{codes, inl, refl}
use Rattle.bootimg.specs.CommandLine.{AreSources, IsBadValue, IsImagesFailure, IsLimits, IsTaskFailure, NoLimitsForEach, NoTaskForEach}
use Rattle.bootimg.specs.CommandLine.{NotPlaced, TwoInputs, given_offset, image_arguments, limit_of}
use Rattle.bootimg.specs.Numbers.{IsNumber}
use Rattle.bootimg.specs.declared.command_line.NoRequest.TheVariants.{Failure}
use Rattle.bootimg.proofs.CommandLines.{outcome_weaker}
use Rattle.bootimg.proofs.ImageCommands.{image_command, other_command}
use Rattle.bootimg.proofs.command_line.images_request.Goals as goal

pub parse_task-requires-clause-command : goal.parse_task-requires-clause-command
parse_task-requires-clause-command c = image_command c.args.name.now c.requires.names.takes

pub parse_task-requires-clause-not_all : goal.parse_task-requires-clause-not_all
parse_task-requires-clause-not_all c named =
    absurd (other_command c.args.name.now (codes "extract") refl refl refl refl c.requires.names.takes named)

pub parse_task-requires-clause-no_update : goal.parse_task-requires-clause-no_update
parse_task-requires-clause-no_update c = other_command c.args.name.now (codes "update") refl refl refl refl c.requires.names.takes

pub parse_task-requires-clause-no_comparison : goal.parse_task-requires-clause-no_comparison
parse_task-requires-clause-no_comparison c = other_command c.args.name.now (codes "compare") refl refl refl refl c.requires.names.takes

pub parse_task-requires-clause-no_explanation : goal.parse_task-requires-clause-no_explanation
parse_task-requires-clause-no_explanation c = other_command c.args.name.now (codes "explain") refl refl refl refl c.requires.names.takes

pub parse_task-requires-clause-no_build_legacy : goal.parse_task-requires-clause-no_build_legacy
parse_task-requires-clause-no_build_legacy c =
    other_command c.args.name.now (codes "build-legacy") refl refl refl refl c.requires.names.takes

pub parse_task-requires-clause-no_build_fit : goal.parse_task-requires-clause-no_build_fit
parse_task-requires-clause-no_build_fit c = other_command c.args.name.now (codes "build-fit") refl refl refl refl c.requires.names.takes

pub returns-in_err-task-clause-failure : goal.returns-in_err-task-clause-failure
returns-in_err-task-clause-failure c =
    let name = c.args.name.now in
    let options = c.args.options.now in
    outcome_weaker (IsTaskFailure name options) (IsImagesFailure name options) c.from_residual.result c.in_err-task.field-0.0
    c.from_residual.ensures.1 c.in_err-task.ensures.failure (λ failure bad. NoTaskForEach bad)

pub returns-in_err-offset-clause-failure : goal.returns-in_err-offset-clause-failure
returns-in_err-offset-clause-failure c =
    let name = c.args.name.now in
    let options = c.args.options.now in
    outcome_weaker (IsBadValue (IsNumber (given_offset options))) (IsImagesFailure name options) c.from_residual-in_err-offset.result
    (Failure c.in_err-offset.field-0.0) c.from_residual-in_err-offset.ensures.1 (inl c.in_err-offset.ensures.bad)
    (λ failure bad. NoTaskForEach (NotPlaced c.in_ok-task.task c.in_ok-task.ensures.task bad))

pub returns-in_err-sources-clause-failure : goal.returns-in_err-sources-clause-failure
returns-in_err-sources-clause-failure c =
    let name = c.args.name.now in
    let options = c.args.options.now in
    outcome_weaker (IsBadValue (AreSources (image_arguments options))) (IsImagesFailure name options) c.from_residual-in_err-sources.result
    c.in_err-sources.field-0.0 c.from_residual-in_err-sources.ensures.1 c.in_err-sources.ensures.failure (λ failure bad. TwoInputs bad)

pub returns-in_err-limits-clause-failure : goal.returns-in_err-limits-clause-failure
returns-in_err-limits-clause-failure c =
    let name = c.args.name.now in
    let options = c.args.options.now in
    outcome_weaker (IsBadValue (IsLimits (limit_of options))) (IsImagesFailure name options) c.from_residual-in_err-limits.result
    (Failure c.in_err-limits.field-0.0) c.from_residual-in_err-limits.ensures.1 (inl c.in_err-limits.ensures.bad)
    (λ failure bad. NoLimitsForEach bad)
