use Rattle.std.proofs.Common.{◌≡◌, map}
use Rattle.std.specs.List.{list_any}
use Rattle.bi_fit.specs.Siblings.{siblings_left}
use Rattle.bi_coverage.specs.Signatures.{is_signed}
use Rattle.bi_coverage.specs.Values.{meaning_of_sibling}
use Rattle.bi_coverage.proofs.signed.has_signed_node.Given as goal

abbrev pub invariant-loop-child : goal.invariant-loop-child
invariant-loop-child l =
    list_any is_signed (map meaning_of_sibling (siblings_left l.child-iterator))
    ≡ list_any is_signed (map meaning_of_sibling (siblings_left l.initial.child-iterator))
