use Rattle.std.proofs.Common.{◌≡◌, ◌<◌, ◌^◌, ℕ, true, false, List, length, map, bytes_eq, sym, ap, ◌∙◌, arith, rules}
use Rattle.std.proofs.lemmas.List.{length-map}
use Rattle.bi_fit.specs.JudgementCalls.{ConfigurationModel}
use Rattle.bi_c.specs.FitElements.{index_of_first}
use Rattle.bi_c.proofs.FitElements.{names_of_configurations, first_is, first_is_not, default_found, no_default}
use Rattle.bi_c.proofs.configurations.default_index.Goals as goal

pub returns-in_default : goal.returns-in_default
returns-in_default c =
    c.config_count-count.ensures ∙ sym (no_default c.args.fit.now c.default_config.result c.default_config.ensures c.in_default.is)

pub loop-configuration-init : goal.loop-configuration-init
loop-configuration-init c =
    let content = c.args.fit.now in
    let is = c.into_iter-configuration-iterator.ensures.into_iter_gives ∙ c.configurations-configuration-items.ensures in
    let names = ap (λ (it : List ConfigurationModel). map (λ (one : ConfigurationModel). one.name) it) is
    ∙ names_of_configurations content in
    let count = sym (length-map c.into_iter-configuration-iterator.result (λ (one : ConfigurationModel). one.name)) ∙ ap length names in
    let same = ap (index_of_first c.in-Some.default.now) names in
    record {
      can_next = tt;
      is_finite = tt;
      counted = omega (arith, count);
      is_later = omega (arith, same);
    }

pub returns-then-eq : goal.returns-then-eq
returns-then-eq c =
    let content = c.args.fit.now in
    let default = c.in-Some.default.now in
    let one = c.in-Some-configuration.configuration in
    let steps = c.in-Some-configuration.ensures.steps in
    let equal : bytes_eq one.name default ≡ true =
    ap (λ (name : List ℕ). bytes_eq name default) (sym c.name.ensures) ∙ sym c.eq.ensures ∙ c.if-eq.true in
    let here = ap (λ (it : List ConfigurationModel). index_of_first default (map (λ (one : ConfigurationModel). one.name) it)) steps
    ∙ first_is default one.name (map (λ (one : ConfigurationModel). one.name) c.next.new.self) equal in
    let whole = default_found content c.default_config.result c.in-Some.default c.default_config.ensures c.in-Some.is in
    omega (arith, whole, here, c.loop-configuration.invariant.is_later)

pub overflow_add-index : goal.overflow_add-index
overflow_add-index c =
    let some = ap length c.in-Some-configuration.ensures.steps in
    let fits : c.config_count-count.result < 2 ^ 64 = search rules in
    omega (arith, some, fits, c.config_count-count.ensures, c.loop-configuration.invariant.counted)

pub loop-configuration-preserved : goal.loop-configuration-preserved
loop-configuration-preserved c =
    let default = c.in-Some.default.now in
    let one = c.in-Some-configuration.configuration in
    let steps = c.in-Some-configuration.ensures.steps in
    let differs : bytes_eq one.name default ≡ false =
    ap (λ (name : List ℕ). bytes_eq name default) (sym c.name.ensures) ∙ sym c.eq.ensures ∙ c.if-eq.false in
    let here = ap (λ (it : List ConfigurationModel). index_of_first default (map (λ (one : ConfigurationModel). one.name) it)) steps
    ∙ first_is_not default one.name (map (λ (one : ConfigurationModel). one.name) c.next.new.self) differs in
    let some = ap length steps in
    record {
      can_next = tt;
      is_finite = tt;
      counted = omega (arith, some, c.loop-configuration.invariant.counted);
      is_later = omega (arith, here, c.loop-configuration.invariant.is_later);
    }

pub returns : goal.returns
returns c =
    let default = c.in-Some.default.now in
    let none = c.in-None.ensures.steps.0 in
    let here = ap (λ (it : List ConfigurationModel). index_of_first default (map (λ (one : ConfigurationModel). one.name) it)) none in
    let count = ap length none in
    let whole = default_found c.args.fit.now c.default_config.result c.in-Some.default c.default_config.ensures c.in-Some.is in
    omega (
      arith,
      whole,
      here,
      count,
      c.config_count-count.ensures,
      c.loop-configuration.invariant.counted,
      c.loop-configuration.invariant.is_later,
    )
