use Rattle.std.proofs.Common.{◌≡◌, ◌∷◌, Bor, List, ℕ}
use Rattle.bootimg.specs.Words.{parts_of}
use Rattle.bootimg.proofs.CommandLines.{ok_or_is, parts_not_empty}
use Rattle.bootimg.proofs.ConfigurationFacts.{configuration_of}
use Rattle.bootimg.proofs.command_line.configurations.parse_configuration.Goals as goal

pub returns-clause-configuration : goal.returns-clause-configuration
returns-clause-configuration c =
    let word = c.args.word.now in
    let name = c.in_ok-name.name in
    let lists = c.in_ok-name.lists in
    configuration_of word _ name.now (parts_of lists.now) (parts_not_empty lists.now)
    (ok_or_is (λ (split : Bor (List ℕ) × Bor (List ℕ)). parts_of word ≡ split.0.now ∷ parts_of split.1.now) c.split_field.result c.args.bad
    c.ok_or.result (name, lists) c.ok_or.ensures.value c.in_ok-name.was c.split_field.ensures.some)
    c.as_bytes.ensures.value c.in_ok-parse_lists.ensures.lists
