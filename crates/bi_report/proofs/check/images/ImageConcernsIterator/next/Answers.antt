use Rattle.std.proofs.Common.{List, ◌∷◌, ◌++◌, flat_map, length, rules, ap, sym, ◌∙◌}
use Rattle.bi_fdt.specs.Views.{node_of}
use Rattle.bi_common.specs.HashedImages.{found_hash_of, found_left}
use Rattle.bi_report.specs.ConcernValues.{found_or_none, found_value}
use Rattle.bi_report.specs.FoundConcerns.{FoundConcern, found_in_hash}
use Rattle.bi_report.proofs.FoundConcerns.{bad_first, none_first, skip_first}
use Rattle.bi_report.proofs.check.images.ImageConcernsIterator.next.Goals as goal

pub loop-node-preserved : goal.loop-node-preserved
loop-node-preserved c =
    let left = c.loop-node.self in
    let here = found_in_hash (node_of left.image) in
    record {
      left = ap (λ (l : List FoundConcern). found_or_none left.of_skipped ++ l)
          (sym (ap (λ hashes. flat_map here hashes ++ found_or_none left.of_payload) c.in-Some-next_node.ensures
          ∙ none_first (node_of left.image) (found_hash_of (c.in-Some-next_node.node, c.in-Some-next_node.hash)) _ _
          (sym c.is_good.ensures ∙ c.if-not-is_good.false)
          (ap found_or_none (sym c.in_default-of_skipped.is) ∙ c.skip_concern-of_skipped.ensures)))
          ∙ c.loop-node.invariant.left;
      none = c.loop-node.invariant.none;
    }

pub returns-then-not-is_good-clause-steps : goal.returns-then-not-is_good-clause-steps
returns-then-not-is_good-clause-steps c =
    let left = c.loop-node.self in
    let here = found_in_hash (node_of left.image) in
    sym c.loop-node.invariant.left
    ∙ ap (λ o. found_or_none o ++ (flat_map here (found_left left.hashes) ++ found_or_none left.of_payload)) c.loop-node.invariant.none
    ∙ ap (λ hashes. flat_map here hashes ++ found_or_none left.of_payload) c.in-Some-next_node.ensures
    ∙ bad_first (node_of left.image) (found_hash_of (c.in-Some-next_node.node, c.in-Some-next_node.hash)) _ _ _
    (sym c.is_good.ensures ∙ c.if-not-is_good.true) c.skip_concern-of_skipped.ensures

pub returns-in-Some-of_skipped-clause-steps : goal.returns-in-Some-of_skipped-clause-steps
returns-in-Some-of_skipped-clause-steps c =
    let left = c.loop-node.self in
    let here = found_in_hash (node_of left.image) in
    let later = flat_map here (found_left c.next_node.new.self) ++ found_or_none left.of_payload in
    sym c.loop-node.invariant.left
    ∙ ap (λ o. found_or_none o ++ (flat_map here (found_left left.hashes) ++ found_or_none left.of_payload)) c.loop-node.invariant.none
    ∙ ap (λ hashes. flat_map here hashes ++ found_or_none left.of_payload) c.in-Some-next_node.ensures
    ∙ skip_first (node_of left.image) (found_hash_of (c.in-Some-next_node.node, c.in-Some-next_node.hash)) _ _ _
    (sym c.is_good.ensures ∙ c.if-not-is_good.false)
    (ap found_or_none (sym c.in-Some-of_skipped.is) ∙ c.skip_concern-of_skipped.ensures)
    ∙ ap (λ o. found_value c.in-Some-of_skipped.concern ∷ (found_or_none o ++ later)) (sym c.loop-node.invariant.none)

pub returns-then-not-is_good-clause-goes : goal.returns-then-not-is_good-clause-goes
returns-then-not-is_good-clause-goes c = let fewer = ap length (returns-then-not-is_good-clause-steps c) in search rules

pub returns-in-Some-of_skipped-clause-goes : goal.returns-in-Some-of_skipped-clause-goes
returns-in-Some-of_skipped-clause-goes c = let fewer = ap length (returns-in-Some-of_skipped-clause-steps c) in search rules
