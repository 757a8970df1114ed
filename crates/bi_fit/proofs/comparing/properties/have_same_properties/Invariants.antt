use Rattle.std.proofs.Common.{◌≡◌, ◌↔◌, length}
use Rattle.bi_fit.specs.ComparedNodes.{compared_values}
use Rattle.bi_fit.proofs.comparing.properties.have_same_properties.Given as goal

abbrev pub invariant-loop-key : goal.invariant-loop-key
invariant-loop-key l =
    (compared_values l.role l.properties ≡ compared_values l.role l.others)
    ↔ (compared_values l.role l.initial.properties ≡ compared_values l.role l.initial.others)

abbrev pub decreases-loop-key : goal.decreases-loop-key
decreases-loop-key l = length l.properties
