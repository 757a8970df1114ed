use Rattle.std.proofs.Common.{false, None}
use Rattle.bootimg.proofs.CommandLines.{bad_all_request, given_by, if_ok, none_is_given}
use Rattle.bootimg.proofs.command_line.extract.all_request.Goals as goal

pub returns-in-None-None-None-false-clause-none : goal.returns-in-None-None-None-false-clause-none
returns-in-None-None-None-false-clause-none c =
    let options = c.args.options.now in
    let arm = c.in-None-None-None-false in
    let given = given_by options c.get_str-part.result c.get_str-image.result c.get_str-config.result None None None false
    c.get_str-part.ensures c.get_str-image.ensures c.get_str-config.ensures arm.ensures arm.is-0 arm.is-1 arm.is-2 in
    if_ok c.all_values.result (none_is_given options given)

pub returns-in-None-None-None-false-clause-failure : goal.returns-in-None-None-None-false-clause-failure
returns-in-None-None-None-false-clause-failure c =
    let options = c.args.options.now in
    let arm = c.in-None-None-None-false in
    let given = given_by options c.get_str-part.result c.get_str-image.result c.get_str-config.result None None None false
    c.get_str-part.ensures c.get_str-image.ensures c.get_str-config.ensures arm.ensures arm.is-0 arm.is-1 arm.is-2 in
    bad_all_request options c.all_values.result (none_is_given options given) c.all_values.ensures.bad
