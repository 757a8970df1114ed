use Rattle.std.proofs.Common.{◌≡◌, ◌↔◌, ℕ, Bool, true, false, not, List, [], ◌∷◌, ◌++◌, Option, Some, None, is_some, Bor, refl, sym, ap}
use Rattle.std.proofs.Common.{◌∙◌}
use Rattle.std.specs.Prelude.{IsTrue, MatchOption}
use Rattle.std.proofs.lemmas.Bool.{false≢true}
use Rattle.std.proofs.lemmas.Slice.Eq.{bytes_eq-Decides}
use Rattle.bi_fdt.specs.Views.{node_of}
use Rattle.bi_fit.specs.ComparedNodes.{compared_properties, compared_values}
use Rattle.bi_fit.proofs.CommonNumbers.{order_stays}
use Rattle.bi_fit.proofs.ComparedValues.{same_by_name, same_by_number}
use Rattle.bi_fit.proofs.comparing.properties.have_same_properties.Goals as goal
use Rattle.bi_fit.proofs.comparing.properties.have_same_properties.Goals.{After-properties_in-others}
use Rattle.bi_fit.proofs.comparing.properties.have_same_properties.Goals.{then-key-other_key-via-then-key-other_key}
use Rattle.bi_fit.proofs.comparing.properties.have_same_properties.Goals.{then-key-other_key-via-else-key-other_key+then-ne}

-- The properties are the same by name if and only if their values are the same in the order of the numbers of their names.
same_values : (c : After-properties_in-others) →
    (compared_values c.args.role c.properties_in-properties.result ≡ compared_values c.args.role c.properties_in-others.result)
    ↔ (compared_properties c.args.role (node_of c.args.own).own ≡ compared_properties c.args.role (node_of c.args.other).own)
same_values c =
    let orders = c.requires.orders in
    let own = (node_of c.args.own).own in
    let other = (node_of c.args.other).own in
    let names = orders.names ++ orders.more in
    let are = order_stays orders.names orders.more own.properties c.properties_in-properties.result
    (c.properties_in-properties.ensures.by_number orders.names orders.own_order c.requires.distinct) in
    let other_are = c.properties_in-others.ensures.by_number names orders.other_order c.requires.other_distinct in (
      same_by_name names orders.distinct c.args.role own other c.properties_in-properties.result c.properties_in-others.result
          c.requires.distinct c.requires.other_distinct are other_are,
      same_by_number names orders.distinct c.args.role own other c.properties_in-properties.result c.properties_in-others.result
          c.requires.distinct c.requires.other_distinct are other_are,
    )

-- A list that begins with an element is not empty.
no_cons : {X Y : Type 0} {x : X} {xs : List X} → x ∷ xs ≡ [] → Y
no_cons equal = absurd cc

-- The first elements of one list are the same.
same_first : {X : Type 0} {x y : X} {xs ys : List X} → x ∷ xs ≡ y ∷ ys → x ≡ y
same_first equal = cc

pub returns-in_default-next_value : goal.returns-in_default-next_value
returns-in_default-next_value c =
    let same = same_values (goal.at.returns-in_default-next_value c).After-properties_in-others in (
      (λ is. absurd (false≢true is)),
      (λ equal. no_cons (sym c.in-Some.ensures.value ∙ c.loop-key.invariant.1 (same.1 equal) ∙ c.in_default-next_value.ensures.value)),
    )

pub returns-then-key-other_key : goal.returns-then-key-other_key
returns-then-key-other_key c =
    let same = same_values (goal.at.returns-then-key-other_key c).After-properties_in-others in
    let own = (node_of c.args.own).own in
    let other = (node_of c.args.other).own in
    let one : compared_properties c.args.role own ≡ compared_properties c.args.role other
    → (c.in-Some.key, c.in-Some.value.now) ≡ (c.in-Some-next_value.other_key, c.in-Some-next_value.other_value.now) =
    λ equal. same_first (sym c.in-Some.ensures.value ∙ c.loop-key.invariant.1 (same.1 equal) ∙ c.in-Some-next_value.ensures.value) in
    elim c.then-key-other_key.branch [
      | then-key-other_key-via-then-key-other_key w ↦
          ((λ is. absurd (false≢true is)), (λ equal. absurd (w.if-key-other_key.true (ap (λ value. value.0) (one equal)))))
      | then-key-other_key-via-else-key-other_key+then-ne w ↦ (
        (λ is. absurd (false≢true is)),
        (λ equal.
            absurd (false≢true (sym (w.ne.ensures
            ∙ ap not ((bytes_eq-Decides c.in-Some.value.now c.in-Some-next_value.other_value.now).1 (ap (λ value. value.1) (one equal))))
            ∙ w.if-ne.true))),
      )
    ]

-- No value is left if and only if there was none.
none_left : (values rest : List (ℕ × List ℕ)) (found : Option (ℕ × Bor (List ℕ))) (none : Bool) → is_some found ≡ not none →
    MatchOption found (values ≡ []) (λ value. values ≡ (value.0, value.1.now) ∷ rest) → IsTrue none ↔ (values ≡ [])
none_left values rest None true is given = ((λ is. given), (λ equal. refl))
none_left values rest None false is given = absurd (false≢true is)
none_left values rest (Some value) true is given = absurd (false≢true (sym is))
none_left values rest (Some value) false is given = ((λ is. absurd (false≢true is)), (λ equal. no_cons (sym given ∙ equal)))

pub returns : goal.returns
returns c =
    let same = same_values (goal.at.returns c).After-properties_in-others in
    let none = none_left (compared_values c.args.role c.loop-key.others) _ c.next_value-2.result c.is_none.result c.is_none.ensures
    c.next_value-2.ensures.value in (
      (λ is. same.0 (c.loop-key.invariant.0 (c.in_default.ensures.value ∙ sym (none.0 is)))),
      (λ equal. none.1 (sym (c.loop-key.invariant.1 (same.1 equal)) ∙ c.in_default.ensures.value)),
    )
