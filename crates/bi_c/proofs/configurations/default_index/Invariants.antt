use Rattle.std.proofs.Common.{◌≡◌, ◌+◌, length, map}
use Rattle.bi_blob.specs.Tree.{names}
use Rattle.bi_fit.specs.Content.{tree_of}
use Rattle.bi_fit.specs.Judgement.{configuration_nodes}
use Rattle.bi_c.specs.FitElements.{index_of_first}
use Rattle.bi_c.proofs.configurations.default_index.Given as goal

-- No configuration before the index is the default one.
abbrev pub invariant-loop-configuration : goal.invariant-loop-configuration
invariant-loop-configuration l =
    let names = names (configuration_nodes (tree_of l.fit)) in
    record {
      can_next : (goal.iterator-loop-configuration).can_next l.configuration-iterator;
      is_finite : (goal.iterator-loop-configuration).is_finite l.configuration-iterator;
      counted : l.index + length l.configuration-iterator ≡ length names;
      is_later : index_of_first l.default names ≡ l.index + index_of_first l.default (map (λ it. it.name) l.configuration-iterator);
    }
