use Rattle.std.proofs.Common.{◌≡◌, ◌-◌, ℕ, drop, map, ap, subst, ◌∙◌, arith, rules}
use Rattle.bi_fdt.specs.Views.{node_of}
use Rattle.bi_coverage.specs.ChildNumbers.{HasNumbersFrom}
use Rattle.bi_coverage.proofs.ChildNumbers.{child_numbered, none_numbered}
use Rattle.bi_coverage.proofs.child_numbers.number_names.Goals as goal

pub loop-index-init : goal.loop-index-init
loop-index-init c = record {
  from = c.requires;
  numbered = none_numbered _ _ (search rules);
}

pub loop-index-preserved : goal.loop-index-preserved
loop-index-preserved c = record {
  from = omega arith;
  numbered = child_numbered c.args.nodes.now (c.loop-index.index - 1) c.loop-index.index c.index-nodes-index.result c.name.result
      c.loop-index.numbers c.insert.new.self (omega arith) (omega arith)
      (c.name.ensures ∙ ap (λ node. (node_of node).name) c.index-nodes-index.is) c.in_ok-insert.ensures.updates
      c.loop-index.invariant.numbered;
}

pub returns : goal.returns
returns c =
    let e : c.loop-index.index ≡ c.args.begin = omega (arith, c.loop-index.invariant.from) in
    subst (λ (n : ℕ). HasNumbersFrom n (drop n (map node_of c.args.nodes.now)) c.loop-index.numbers) e c.loop-index.invariant.numbered
