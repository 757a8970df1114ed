use Rattle.std.proofs.Common.{◌≡◌, ◌+◌, ◌<◌, ◌++◌, ◌∷◌, [], suc, map, length, ap, subst, ◌∙◌, arith}
use Rattle.std.proofs.lemmas.List.{map-append}
use Rattle.std.specs.Prelude.{IfSome}
use Rattle.std.specs.Option.{option_map}
use Rattle.bi_base.specs.Reading.{too_large}
use Rattle.bi_base.proofs.Refusals.{refusal_passed_on}
use Rattle.bi_blob.specs.Lookups.{siblings, siblings_from}
use Rattle.bi_blob.proofs.Blobs.Lookups.{siblings_from-next}
use Rattle.bi_fdt.specs.Views.{node_of, table_of_node}
use Rattle.bi_fit.specs.Content.{tree_of}
use Rattle.bi_coverage.specs.Coverage.{configuration_coverage}
use Rattle.bi_coverage.specs.IndexedFits.{IndexedFit}
use Rattle.bi_coverage.specs.Numbers.{sum_of}
use Rattle.bi_coverage.specs.Signatures.{needed_lengths}
use Rattle.bi_coverage.specs.Values.{configuration_value, meaning_of_node}
use Rattle.bi_coverage.proofs.Configurations.{no_configuration_read, one_read, too_long_at}
use Rattle.bi_coverage.proofs.reading.read_configurations.Goals as goal

pub loop-next-init : goal.loop-next-init
loop-next-init c = record {
  to = no_configuration_read c.args.fit.now (map configuration_value c.new-read.result.items) _ c.requires.held
      (ap (map configuration_value) c.new-read.ensures.items) c.first_configuration-next.ensures.node;
  within = omega arith;
  same_table = c.first_configuration-next.ensures.same_table;
}

pub returns-in_err-coverage-clause-failed : goal.returns-in_err-coverage-clause-failed
returns-in_err-coverage-clause-failed c =
    let indexed = c.in_ok-indexed.indexed in
    let configuration = c.in-Some.configuration in
    let limit_is : indexed.limit ≡ c.args.limits.file =
    ap (λ (indexed : IndexedFit). indexed.limit) c.in_ok-indexed.ensures ∙ c.file.ensures.value in
    let sum_is : c.loop-next.total + sum_of (needed_lengths (tree_of indexed.content) (meaning_of_node configuration))
    ≡ c.loop-next.total + sum_of (needed_lengths (tree_of c.args.fit.now) (meaning_of_node configuration)) =
    ap (λ (indexed : IndexedFit). c.loop-next.total + sum_of (needed_lengths (tree_of indexed.content) (meaning_of_node configuration)))
    c.in_ok-indexed.ensures in
    refusal_passed_on _ _
    (λ fault. (fault ≡ too_large indexed.limit)
    × (indexed.limit < c.loop-next.total + sum_of (needed_lengths (tree_of indexed.content) (meaning_of_node configuration))))
    (λ fault. (fault ≡ too_large indexed.limit)
    × (indexed.limit < c.loop-next.total + sum_of (needed_lengths (tree_of indexed.content) (meaning_of_node configuration))))
    _ c.from_residual-in_err-coverage.ensures.1 c.in_err-coverage.ensures.failed c.in_err-coverage.ensures.failed
    (λ fault one other. (
      one.0 ∙ ap too_large limit_is,
      too_long_at c.args.fit.now (map configuration_value c.loop-next.read.items) c.loop-next.total _
          (siblings (node_of configuration).later)
          (node_of configuration) (ap (λ next. siblings_from (option_map node_of next)) c.in-Some.is) c.loop-next.invariant.to
          c.args.limits.file (omega (arith, limit_is, sum_is, one.1)),
    ))

pub loop-next-smaller : goal.loop-next-smaller
loop-next-smaller c =
    let e : length (siblings_from (option_map node_of c.loop-next.next))
    ≡ suc (length (siblings_from (option_map node_of c.next_sibling-next.result))) =
    ap length (siblings_from-next (option_map node_of c.loop-next.next) (option_map node_of c.next_sibling-next.result)
    (node_of c.in-Some.configuration) (ap (option_map node_of) c.in-Some.is) c.next_sibling-next.ensures.sibling) in
    omega arith

pub loop-next-preserved : goal.loop-next-preserved
loop-next-preserved c =
    let indexed = c.in_ok-indexed.indexed in
    let configuration = c.in-Some.configuration in
    let limit_is : indexed.limit ≡ c.args.limits.file =
    ap (λ (indexed : IndexedFit). indexed.limit) c.in_ok-indexed.ensures ∙ c.file.ensures.value in
    let table : table_of_node configuration ≡ c.args.fit.now.blob.table =
    subst (λ next. IfSome next (λ node. table_of_node node ≡ c.args.fit.now.blob.table)) c.in-Some.is c.loop-next.invariant.same_table in
    record {
      to = one_read c.args.fit.now (map configuration_value c.loop-next.read.items) c.loop-next.total
          (siblings_from (option_map node_of c.loop-next.next)) (siblings_from (option_map node_of c.next_sibling-next.result))
          (node_of configuration)
          (siblings_from-next (option_map node_of c.loop-next.next) (option_map node_of c.next_sibling-next.result)
          (node_of configuration) (ap (option_map node_of) c.in-Some.is) c.next_sibling-next.ensures.sibling)
          c.loop-next.invariant.to (map configuration_value c.push.new.self.items) c.in_ok-coverage.sum
          (ap (map configuration_value) c.in_ok-push.ensures.items
          ∙ map-append configuration_value c.loop-next.read.items (c.in_ok-coverage.coverage ∷ [])
          ∙ ap (λ last. map configuration_value c.loop-next.read.items ++ last ∷ [])
          (c.in_ok-coverage.ensures.read
          ∙ ap (λ (indexed : IndexedFit). configuration_coverage indexed.content (meaning_of_node configuration)) c.in_ok-indexed.ensures))
          (c.in_ok-coverage.ensures.sum
          ∙ ap (λ (indexed : IndexedFit). c.loop-next.total
          + sum_of (needed_lengths (tree_of indexed.content) (meaning_of_node configuration))) c.in_ok-indexed.ensures);
      within = let most = c.in_ok-coverage.ensures.within in omega (arith, limit_is, most);
      same_table = subst (λ table. IfSome c.next_sibling-next.result (λ node. table_of_node node ≡ table)) table
          c.next_sibling-next.ensures.same_table;
    }
