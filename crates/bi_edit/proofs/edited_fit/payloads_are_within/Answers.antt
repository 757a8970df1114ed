use Rattle.std.proofs.Common.{◌≤◌, ℕ, List, Option, refl, sym, ap, subst, option_map, ◌∙◌, arith}
use Rattle.std.specs.Prelude.{IsTrue, true}
use Rattle.bi_common.specs.PayloadBounds.{payloads_length}
use Rattle.bi_plain.specs.Plain.{plain_payloads}
use Rattle.bi_tree.specs.TreeNodes.{below}
use Rattle.bi_edit.proofs.PlainBounds.{payloads_below, values_below}
use Rattle.bi_edit.proofs.edited_fit.payloads_are_within.Goals as goal

pub returns-in-Some : goal.returns-in-Some
returns-in-Some c =
    let same = ap plain_payloads (sym c.tree.view_is)
    ∙ payloads_below (below c.tree.inside.root) (option_map (λ child. below child.now) c.child.result) c.child.ensures
    ∙ ap (λ child. values_below (option_map (λ child. below child.now) child)) c.in-Some.is in
    subst (λ (values : List (Option (List ℕ))). (IsTrue c.children_are_within.result → payloads_length values ≤ c.args.limit)
    × (payloads_length values ≤ c.args.limit → IsTrue c.children_are_within.result)) (sym same) c.children_are_within.ensures

pub returns-in-None : goal.returns-in-None
returns-in-None c =
    let same = ap plain_payloads (sym c.tree.view_is)
    ∙ payloads_below (below c.tree.inside.root) (option_map (λ child. below child.now) c.child.result) c.child.ensures
    ∙ ap (λ child. values_below (option_map (λ child. below child.now) child)) c.in-None.is in
    subst (λ (values : List (Option (List ℕ))). (IsTrue true → payloads_length values ≤ c.args.limit)
    × (payloads_length values ≤ c.args.limit → IsTrue true)) (sym same) ((λ is. omega arith), λ le. refl)
