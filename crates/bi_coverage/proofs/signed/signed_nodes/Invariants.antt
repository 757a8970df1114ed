use Rattle.std.proofs.Common.{◌≡◌, ◌++◌, map, filter}
use Rattle.bi_fit.specs.Siblings.{siblings_left}
use Rattle.bi_coverage.specs.Signatures.{is_signed}
use Rattle.bi_coverage.specs.Values.{meaning_of_sibling, meaning_of_node}
use Rattle.bi_coverage.proofs.signed.signed_nodes.Given as goal

abbrev pub invariant-loop-child : goal.invariant-loop-child
invariant-loop-child l =
    map meaning_of_node l.found.items ++ filter is_signed (map meaning_of_sibling (siblings_left l.child-iterator))
    ≡ map meaning_of_node l.initial.found.items ++ filter is_signed (map meaning_of_sibling (siblings_left l.initial.child-iterator))
