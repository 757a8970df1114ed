use Rattle.std.proofs.Common.{◌≡◌, ℕ, ◌+◌, List, [], length, map, drop, get_or, arith, ap, ◌∙◌}
use Rattle.std.specs.Borrow.{Bor}
use Rattle.bi_base.specs.Cells.{up4}
use Rattle.bi_base.specs.Slices.{bytes_of}
use Rattle.bi_legacy.specs.Parts.{parts_end_from}
use Rattle.bi_legacy.proofs.EmitParts.{parts_end_from-grows, drop-sizes_of}
use Rattle.bi_legacy.proofs.PartWalk.{parts_end_from-one}
use Rattle.bi_legacy.proofs.emitting.end_within.Goals as goal

pub returns-then-end-most : goal.returns-then-end-most
returns-then-end-most c =
    let left = drop c.loop-part.part-index (map length (bytes_of c.args.parts.now)) in
    omega (arith, c.loop-part.invariant, parts_end_from-grows c.loop-part.end left)

pub loop-part-preserved : goal.loop-part-preserved
loop-part-preserved c =
    let parts = c.args.parts.now in
    let index = c.loop-part.part-index in
    let nothing : Bor (List ℕ) = record { ref_ptr = (0, 0); now = [] } in
    let size = length (get_or parts index nothing).now in
    let later = drop (index + 1) (map length (bytes_of parts)) in
    let here : up4 c.loop-part.end + size ≡ c.in_ok-end.end = omega arith in
    c.loop-part.invariant
    ∙ parts_end_from-one c.loop-part.end size _ later (drop-sizes_of parts index nothing (omega arith))
    ∙ ap (λ end. parts_end_from end later) here
