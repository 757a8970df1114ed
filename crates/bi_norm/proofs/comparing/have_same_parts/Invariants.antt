use Rattle.std.proofs.Common.{◌≡◌, ◌↔◌, length, map}
use Rattle.bi_norm.proofs.ConvertedParts.{bytes_of_part}
use Rattle.bi_norm.proofs.comparing.have_same_parts.Given as goal

-- As many parts are left of both images, and all are the same if and only if these are.
abbrev pub invariant-loop-part : goal.invariant-loop-part
invariant-loop-part l =
    let parts = map bytes_of_part l.part-iterator.a in
    let others = map bytes_of_part l.part-iterator.b in
    (length parts ≡ length others) × ((l.image.image.parts ≡ l.other.image.parts) ↔ (parts ≡ others))
