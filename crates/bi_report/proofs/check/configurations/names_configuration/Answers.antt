use Rattle.std.proofs.Common.{◌||◌, ℕ, List, Option, Bor, bytes_eq, sym, ap, ◌∙◌}
use Rattle.std.specs.Option.{option_map}
use Rattle.bi_blob.specs.Tree.{names}
use Rattle.bi_fit.specs.Content.{tree_of}
use Rattle.bi_fit.specs.Judgement.{configuration_nodes}
use Rattle.bi_report.specs.Checking.{names_one_of}
use Rattle.bi_report.proofs.CheckedConfigurations.{has_name, has_name-names}
use Rattle.bi_report.proofs.check.configurations.names_configuration.Goals as goal

pub returns-then-eq : goal.returns-then-eq
returns-then-eq c =
    let name = c.in-Some.name.now in
    let found = names (configuration_nodes (tree_of c.args.fit.now)) in
    ap (λ b. b || has_name name c.next.new.self) (c.if-eq.ensures ∙ ap (bytes_eq name) c.name.ensures)
    ∙ ap (has_name name) (sym c.in-Some-configuration.ensures.steps)
    ∙ c.loop-configuration.invariant
    ∙ has_name-names name c.args.fit.now found
    ∙ ap (λ (default : Option (Bor (List ℕ))). names_one_of (option_map (λ name. name.now) default) found) (sym c.in-Some.is)

pub returns : goal.returns
returns c =
    let name = c.in-Some.name.now in
    let found = names (configuration_nodes (tree_of c.args.fit.now)) in
    ap (has_name name) (sym c.in-None.ensures.steps.0)
    ∙ c.loop-configuration.invariant
    ∙ has_name-names name c.args.fit.now found
    ∙ ap (λ (default : Option (Bor (List ℕ))). names_one_of (option_map (λ name. name.now) default) found) (sym c.in-Some.is)
