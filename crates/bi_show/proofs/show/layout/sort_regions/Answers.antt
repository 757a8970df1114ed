use Rattle.std.proofs.Common.{rules}
use Rattle.std.proofs.lemmas.List.Sorted.{IsNonDecreasingBy-from_sort_by_key, answers_always}
use Rattle.bi_show.proofs.show.layout.sort_regions.Goals as goal

pub returns : goal.returns
returns c = record {
  same = c.in_ok-sort_by_key.ensures.permutation;
  by_offset = IsNonDecreasingBy-from_sort_by_key (λ region. region.begin) _ c.in_ok-sort_by_key.ensures.sorted (λ a r q k. search rules);
  stable = c.in_ok-sort_by_key.ensures.stable (λ region. region.begin) (answers_always _ _ _ (λ f a r g h. search rules));
}
