use Rattle.std.proofs.Common.{◌≡◌, ◌<◌, length, drop}
use Rattle.std.specs.List.{AllByRecursion}
use Rattle.bi_tree.specs.Properties.{tree_properties}
use Rattle.bi_plain.specs.Ranked.{own_numbers, with_marks}
use Rattle.bi_plain.proofs.writer.names.mark_properties.Given as goal

abbrev pub invariant-loop-property : goal.invariant-loop-property
invariant-loop-property l =
    (with_marks (own_numbers (tree_properties (drop l.property-index l.properties))) l.marks
    ≡ with_marks (own_numbers (tree_properties l.properties)) l.initial.marks)
    × AllByRecursion (λ number. number < length l.marks) (own_numbers (tree_properties (drop l.property-index l.properties)))
