use Rattle.std.proofs.Common.{◌+◌, ◌++◌, List, drop, flat_map, length, ap, rules, sym, ◌∙◌}
use Rattle.std.proofs.lemmas.List.{drop_more}
use Rattle.bi_fdt.specs.Views.{node_of}
use Rattle.bi_fit.specs.declared.key.Key.TheVariants.{Kernel}
use Rattle.bi_fit.specs.Names.{all_keys}
use Rattle.bi_report.specs.FoundConcerns.{FoundConcern, found_in_key}
use Rattle.bi_report.proofs.check.configurations.ConfigurationConcernsIterator.next.Goals as goal

pub returns-in-Some-clause-steps : goal.returns-in-Some-clause-steps
returns-in-Some-clause-steps c =
    let left = c.loop-self.self in
    let here = found_in_key left.fit.now.images (node_of left.node) in
    sym c.loop-self.invariant
    ∙ ap (flat_map here) (drop_more all_keys left.index Kernel c.loop-self-test.true)
    ∙ ap (λ (l : List FoundConcern). l ++ flat_map here (drop (left.index + 1) all_keys)) (sym c.in-Some.ensures)

pub returns-in-Some-clause-goes : goal.returns-in-Some-clause-goes
returns-in-Some-clause-goes c = let fewer = ap length (returns-in-Some-clause-steps c) in search rules
