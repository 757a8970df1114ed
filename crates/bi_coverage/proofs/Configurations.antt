use Rattle.std.proofs.Common.{◌≡◌, ℕ, ◌+◌, ◌<◌, List, [], ◌∷◌, ◌++◌, map, flat_map, Option, Some, None, refl, sym, ap, subst, ◌∙◌}
use Rattle.std.proofs.Common.{arith}
use Rattle.std.proofs.Common.{append_assoc, append-nil}
use Rattle.std.specs.List.{AllByRecursion}
use Rattle.bi_blob.specs.Lookups.{Sibling, siblings, node_named}
use Rattle.bi_blob.specs.Tree.{Nodes, none, node, FileNode, AreNodes}
use Rattle.bi_fdt.specs.Content.{root_of}
use Rattle.bi_fit.specs.Content.{FitModel, IsHeld, tree_of}
use Rattle.bi_fit.specs.HashNodes.{file_configurations}
use Rattle.bi_fit.specs.Judgement.{configuration_nodes}
use Rattle.bi_fit.specs.Names.{configurations_name}
use Rattle.bi_fit.specs.NormalNodes.{HasDistinctNames}
use Rattle.bi_fit.proofs.FileNodes.{siblings-by_name, configuration_nodes_are}
use Rattle.bi_coverage.specs.Coverage.{ConfigurationCoverage, configuration_coverage, coverage_of}
use Rattle.bi_coverage.specs.Numbers.{sum_of}
use Rattle.bi_coverage.specs.Signatures.{needed_lengths, all_needed_length}
use Rattle.bi_coverage.specs.Values.{meaning_of_sibling}
use Rattle.bi_coverage.proofs.FoundNodes.{IsOwn, root_is, found_are}
use Rattle.bi_coverage.proofs.NeededLengths.{sum_of-append}

-- The configurations, one after the other.

-- The configurations of the tree are those of the file.
configurations_are : (content : FitModel) →
    siblings (configuration_nodes (tree_of content)) ≡ map meaning_of_sibling (siblings (file_configurations content.blob))
configurations_are content = ap siblings (configuration_nodes_are content) ∙ siblings-by_name (file_configurations content.blob)

-- No two properties of one of these nodes have the same name.
each_distinct : (nodes : Nodes FileNode) → AreNodes IsOwn nodes → AllByRecursion (λ sibling. HasDistinctNames sibling.own) (siblings nodes)
each_distinct none are = tt
each_distinct (node name own children later) are = (are.0.is_own.distinct, each_distinct later are.2)

distinct_configurations : (content : FitModel) → IsHeld content →
    AllByRecursion (λ sibling. HasDistinctNames sibling.own) (siblings (file_configurations content.blob))
distinct_configurations content held = by (node_named (root_of content.blob).children configurations_name) refl
  where
    by : (found : Option (Sibling FileNode)) → node_named (root_of content.blob).children configurations_name ≡ found →
        AllByRecursion (λ sibling. HasDistinctNames sibling.own) (siblings (file_configurations content.blob))
    by None is = rw is tt
    by (Some sibling) is =
        rw is (each_distinct sibling.children
        (found_are (root_of content.blob).children configurations_name sibling
        (root_is (root_of content.blob) held.is_blob.holds.is_tree) is))

-- The configurations before these were read, with this sum of lengths.
pub record IsReadTo (content : FitModel) (read : List ConfigurationCoverage) (sum : ℕ) (left : List (Sibling FileNode)) : Type 0 where
  pub is_read : read ++ map (configuration_coverage content) (map meaning_of_sibling left) ≡ coverage_of content
  pub is_sum : sum + sum_of (flat_map (needed_lengths (tree_of content)) (map meaning_of_sibling left))
      ≡ all_needed_length (tree_of content)
  pub distinct : AllByRecursion (λ sibling. HasDistinctNames sibling.own) left

-- At first all are left.
pub no_configuration_read : (content : FitModel) (read : List ConfigurationCoverage) (left : List (Sibling FileNode)) →
    IsHeld content → read ≡ [] →
    left ≡ siblings (file_configurations content.blob) → IsReadTo content read 0 left
no_configuration_read content read left held empty is = record {
  is_read = ap (λ read. read ++ map (configuration_coverage content) (map meaning_of_sibling left)) empty
      ∙ ap (λ l. map (configuration_coverage content) (map meaning_of_sibling l)) is
      ∙ ap (map (configuration_coverage content)) (sym (configurations_are content));
  is_sum = zero_first _
      ∙ ap (λ l. sum_of (flat_map (needed_lengths (tree_of content)) (map meaning_of_sibling l))) is
      ∙ ap (λ l. sum_of (flat_map (needed_lengths (tree_of content)) l)) (sym (configurations_are content));
  distinct = subst (AllByRecursion (λ sibling. HasDistinctNames sibling.own)) (sym is) (distinct_configurations content held);
}
  where
    zero_first : (n : ℕ) → 0 + n ≡ n
    zero_first n = omega arith

module _ (content : FitModel) (read : List ConfigurationCoverage) (sum : ℕ) (all left : List (Sibling FileNode)) (next : Sibling FileNode)
    (is_next : all ≡ next ∷ left) (to : IsReadTo content read sum all) where
  -- No two properties of the next one have the same name.
  pub next_distinct : HasDistinctNames next.own
  next_distinct = (subst (AllByRecursion (λ sibling. HasDistinctNames sibling.own)) is_next to.distinct).0

  next_sum : sum + (sum_of (needed_lengths (tree_of content) (meaning_of_sibling next))
      + sum_of (flat_map (needed_lengths (tree_of content)) (map meaning_of_sibling left))) ≡ all_needed_length (tree_of content)
  next_sum =
      ap (λ n. sum + n) (sym (sum_of-append (needed_lengths (tree_of content) (meaning_of_sibling next))
      (flat_map (needed_lengths (tree_of content)) (map meaning_of_sibling left))))
      ∙ ap (λ l. sum + sum_of (flat_map (needed_lengths (tree_of content)) (map meaning_of_sibling l))) (sym is_next)
      ∙ to.is_sum

  -- One more is read.
  pub one_read : (more : List ConfigurationCoverage) (later_sum : ℕ) →
      more ≡ read ++ configuration_coverage content (meaning_of_sibling next) ∷ [] →
      later_sum ≡ sum + sum_of (needed_lengths (tree_of content) (meaning_of_sibling next)) → IsReadTo content more later_sum left
  one_read more later_sum is is_later = record {
    is_read = ap (λ read. read ++ map (configuration_coverage content) (map meaning_of_sibling left)) is
        ∙ append_assoc read (configuration_coverage content (meaning_of_sibling next) ∷ [])
        (map (configuration_coverage content) (map meaning_of_sibling left))
        ∙ ap (λ l. read ++ map (configuration_coverage content) (map meaning_of_sibling l)) (sym is_next)
        ∙ to.is_read;
    is_sum = let after = next_sum in omega (arith, after, is_later);
    distinct = (subst (AllByRecursion (λ sibling. HasDistinctNames sibling.own)) is_next to.distinct).1;
  }

  -- The paths are too long as soon as those of the next one are.
  pub too_long_at : (limit : ℕ) → limit < sum + sum_of (needed_lengths (tree_of content) (meaning_of_sibling next)) →
      limit < all_needed_length (tree_of content)
  too_long_at limit more = let after = next_sum in omega (arith, after, more)

-- In the end all are read.
pub all_configurations_read : (content : FitModel) (read : List ConfigurationCoverage) (sum : ℕ) → IsReadTo content read sum [] →
    (read ≡ coverage_of content) × (sum ≡ all_needed_length (tree_of content))
all_configurations_read content read sum to = (sym (append-nil read) ∙ to.is_read, let e = to.is_sum in omega (arith, e))
