use Rattle.std.proofs.Common.{option_map, ap, sym, refl, ◌∙◌}
use Rattle.bootimg.proofs.ConfigurationFacts.{is_default, no_default_word}
use Rattle.bootimg.proofs.command_line.configurations.default_name.Goals as goal

pub returns-then-not-names_one-clause-bad : goal.returns-then-not-names_one-clause-bad
returns-then-not-names_one-clause-bad c =
    let given = sym (ap (option_map (λ s. s.now)) c.in-Some.is) ∙ c.get_str.ensures in
    (refl, no_default_word c.args.words.now c.in-Some.name.now _ c.names_one.result given c.names_one.ensures c.if-not-names_one.true)

pub returns-clause-name : goal.returns-clause-name
returns-clause-name c =
    let given = sym (ap (option_map (λ s. s.now)) c.in-Some.is) ∙ c.get_str.ensures in
    is_default c.args.words.now c.in-Some.name.now c.as_bytes.result.now _ c.names_one.result given c.names_one.ensures
    c.if-not-names_one.false c.as_bytes.ensures.value
