use Rattle.std.proofs.Common.{◌≡◌, drop}
use Rattle.bi_fit.specs.NormalNodes.{payloads_of}
use Rattle.bi_fit.specs.Text.{payloads_end}
use Rattle.bi_edit.proofs.edit_notes.external_end.Given as goal

abbrev pub invariant-loop-image : goal.invariant-loop-image
invariant-loop-image l =
    payloads_end 4 l.end (payloads_of (drop l.image-index l.images)) ≡ payloads_end 4 0 (payloads_of l.images)
