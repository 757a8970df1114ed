use Rattle.std.proofs.Common.{◌≡◌, ◌≤◌, ◌+◌, drop}
use Rattle.bi_fit.specs.NormalNodes.{payloads_of}
use Rattle.bi_common.specs.PayloadBounds.{payloads_length}
use Rattle.bi_common.proofs.payload_bounds.check_payloads.Given as goal

abbrev pub invariant-loop-image : goal.invariant-loop-image
invariant-loop-image l = record {
  counted : l.total + payloads_length (payloads_of (drop l.image-index l.images)) ≡ payloads_length (payloads_of l.images);
  within : l.total ≤ l.limit;
}
