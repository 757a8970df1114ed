use Rattle.std.proofs.Common.{◌≡◌, ◌<◌, count_by, inl, refl, rules, subst}
use Rattle.bootimg.specs.CommandLine.{AreImageSources, image_arguments, is_standard, texts_of}
use Rattle.bootimg.proofs.CommandLines.{two_inputs}
use Rattle.bootimg.proofs.command_line.images.image_sources.Goals as goal

pub returns-then-standard_inputs-gt1-clause-failure :
    goal.returns-then-standard_inputs-gt1-clause-failure
returns-then-standard_inputs-gt1-clause-failure c =
    let sources = c.in_ok-sources.sources.items in
    let same : texts_of c.unwrap_or-arguments.result.now ≡ image_arguments c.args.options.now = search rules in
    let two : 1 < count_by is_standard sources = search rules in
    let given = subst (λ words. AreImageSources words sources) same c.in_ok-sources.ensures in
    inl (refl, two_inputs (image_arguments c.args.options.now) sources given two)
