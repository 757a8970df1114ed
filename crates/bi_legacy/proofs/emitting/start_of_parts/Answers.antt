use Rattle.std.proofs.Common.{◌≡◌, ◌+◌, ◌*◌, Bool, true, length, arith, sym, subst, if◌then◌else◌}
use Rattle.std.proofs.lemmas.List.{length-map}
use Rattle.bi_base.specs.Slices.{bytes_of}
use Rattle.bi_legacy.specs.Meaning.{has_part_table}
use Rattle.bi_legacy.specs.Parts.{part_table}
use Rattle.bi_legacy.proofs.PartOffsets.{length-part_table}
use Rattle.bi_legacy.proofs.emitting.start_of_parts.Goals as goal

pub returns-then-has_part_table : goal.returns-then-has_part_table
returns-then-has_part_table c =
    let parts = bytes_of c.args.parts.now in
    let is_table : has_part_table c.args.image_type ≡ true = cc in
    let P : Bool → Type 0 = λ has_table. 4 * (length c.args.parts.now + 1) ≡ (if has_table then length (part_table parts) else 0) in
    subst P (sym is_table) (omega (arith, length-part_table parts, length-map c.args.parts.now (λ part. part.now)))
