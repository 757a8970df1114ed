use Rattle.std.proofs.Common.{◌≡◌, sym, ap, ◌∙◌}
use Rattle.std.specs.Option.{option_and_then}
use Rattle.bi_base.specs.Strings.{text_before_nul}
use Rattle.bi_blob.specs.Tree.{properties_of}
use Rattle.bi_blob.specs.Lookups.{value_named}
use Rattle.bi_fdt.specs.Views.{node_of}
use Rattle.bi_hash.specs.Algos.{find_algorithm}
use Rattle.bi_fit.specs.Names.{algo_name}
use Rattle.bi_fit.specs.NewDigests.{hash_algorithm}
use Rattle.bi_fit.specs.NormalNodes.{properties_by_name}
use Rattle.bi_fit.proofs.NewDigests.{algorithm_named}
use Rattle.bi_fit.proofs.new_digests.hash_algo.Goals as goal
use Rattle.bi_fit.proofs.new_digests.hash_algo.Goals.{After-property}

-- The algorithm is that of the name before a zero in the value of `algo`.
named_in : (c : After-property) →
    hash_algorithm (node_of c.args.node).name (properties_by_name (node_of c.args.node).own)
    ≡ option_and_then find_algorithm (option_and_then text_before_nul (value_named (properties_of (node_of c.args.node).own) algo_name))
named_in c =
    let s = node_of c.args.node in
    algorithm_named s.name c.name.result.now s.own c.name.ensures (sym c.starts_with.ensures.value ∙ c.if-not-starts_with.false)

pub returns-in_err-property : goal.returns-in_err-property
returns-in_err-property c =
    c.from_residual.ensures
    ∙ ap (λ value. option_and_then find_algorithm (option_and_then text_before_nul value)) c.in_err-property.ensures
    ∙ sym (named_in (goal.at.returns-in_err-property c).After-property)

pub returns-in_err-text_before_nul : goal.returns-in_err-text_before_nul
returns-in_err-text_before_nul c =
    c.from_residual-in_err-text_before_nul.ensures
    ∙ ap (option_and_then find_algorithm) c.in_err-text_before_nul.ensures
    ∙ ap (λ value. option_and_then find_algorithm (option_and_then text_before_nul value)) c.in_ok-property.ensures
    ∙ sym (named_in (goal.at.returns-in_err-text_before_nul c).After-property)

pub returns : goal.returns
returns c =
    c.from_name.ensures.value
    ∙ ap (option_and_then find_algorithm) c.in_ok-text_before_nul.ensures
    ∙ ap (λ value. option_and_then find_algorithm (option_and_then text_before_nul value)) c.in_ok-property.ensures
    ∙ sym (named_in (goal.at.returns c).After-property)
