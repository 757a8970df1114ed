use Rattle.std.proofs.Common.{◌≡◌, ◌==◌, ◌∙◌, ℕ, List, Some, [], ◌∷◌, map, length, ap, subst, sym, rules, tests}
use Rattle.std.specs.List.{slice_split}
use Rattle.std.specs.Option.{option_map}
use Rattle.std.specs.Slice.Iter.{split_rest, split_done, split_callee}
use Rattle.std.proofs.lemmas.List.{map-append}
use Rattle.std.proofs.lemmas.Iterator.{YieldsList}
use Rattle.std.proofs.lemmas.Iterator.Consumers.{YieldsList-end, YieldsList-so_far, YieldsList-turn}
use Rattle.std.proofs.lemmas.Iterator.Splits.{YieldsList-from_slice_split}
use Rattle.bi_fdt.specs.Views.{node_of}
use Rattle.bi_c.specs.NodeElements.{node_below as found_below}
use Rattle.bi_c.proofs.NodePaths.{one_more_name, no_such_child}
use Rattle.bi_c.proofs.paths.node_below.Given as given
use Rattle.bi_c.proofs.paths.node_below.Goals as goal

pub returns-in_err-node : goal.returns-in_err-node
returns-in_err-node c =
    let split = c.split-name-items.ensures in
    let gives = c.into_iter-name-iterator.ensures.into_iter_gives in
    let road : YieldsList (given.iterator-loop-name).next_gives (λ it. it.now) c.into_iter-name-iterator.result
    (slice_split (λ byte. byte == 47) c.args.names.now) =
    YieldsList-from_slice_split _ (λ (byte : ℕ). byte == 47) c.args.names.now (ap split_rest gives ∙ split.rest)
    (ap split_done gives ∙ split.done) (ap split_callee gives ∙ split.closure) (λ x r q k. search (rules, tests)) in
    let turn = YieldsList-turn road c.loop-name.yielded _ c.loop-name.yielded_by _ _ c.in-Some.name c.in-Some.is c.next.ensures.steps in
    let so_far = YieldsList-so_far road c.loop-name.yielded _ c.loop-name.yielded_by in
    ap (option_map node_of) c.from_residual.ensures
    ∙ sym (no_such_child (Some (node_of c.args.root)) _ (length c.loop-name.yielded) c.in-Some.name.now (node_of c.loop-name.node) turn.0
    turn.1
    (subst (λ (names : List (List ℕ)). found_below (Some (node_of c.args.root)) names ≡ Some (node_of c.loop-name.node)) so_far
    c.loop-name.invariant)
    (sym c.child.ensures.child ∙ ap (option_map node_of) c.in_err-node.was))

pub loop-name-preserved : goal.loop-name-preserved
loop-name-preserved c =
    ap (found_below (Some (node_of c.args.root))) (map-append (λ it. it.now) c.loop-name.yielded (c.in-Some.name ∷ []))
    ∙ one_more_name (Some (node_of c.args.root)) (map (λ it. it.now) c.loop-name.yielded) c.in-Some.name.now (node_of c.loop-name.node)
    (Some (node_of c.in_ok-node.node)) c.loop-name.invariant
    (sym c.child.ensures.child ∙ ap (option_map node_of) c.in_ok-node.was)

pub returns : goal.returns
returns c =
    let split = c.split-name-items.ensures in
    let gives = c.into_iter-name-iterator.ensures.into_iter_gives in
    let road : YieldsList (given.iterator-loop-name).next_gives (λ it. it.now) c.into_iter-name-iterator.result
    (slice_split (λ byte. byte == 47) c.args.names.now) =
    YieldsList-from_slice_split _ (λ (byte : ℕ). byte == 47) c.args.names.now (ap split_rest gives ∙ split.rest)
    (ap split_done gives ∙ split.done) (ap split_callee gives ∙ split.closure) (λ x r q k. search (rules, tests)) in
    let end = YieldsList-end road c.loop-name.yielded _ c.loop-name.yielded_by _ _ c.in-None.is c.next.ensures.steps in
    sym c.loop-name.invariant ∙ ap (found_below (Some (node_of c.args.root))) end.0
