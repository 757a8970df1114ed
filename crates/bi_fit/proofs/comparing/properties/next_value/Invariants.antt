use Rattle.std.proofs.Common.{◌≡◌, ◌≤◌, length}
use Rattle.bi_fit.specs.ComparedNodes.{compared_values}
use Rattle.bi_fit.proofs.comparing.properties.next_value.Given as goal

abbrev pub invariant-loop-key : goal.invariant-loop-key
invariant-loop-key l = record {
  can_next : (goal.iterator-loop-key).can_next l.properties;
  is_finite : (goal.iterator-loop-key).is_finite l.properties;
  same_values : compared_values l.role l.properties ≡ compared_values l.role l.initial.properties;
  fewer : length l.properties ≤ length l.initial.properties;
}
