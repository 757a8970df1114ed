use Rattle.std.proofs.Common.{◌≡◌, ℕ, ◌+◌, ◌*◌, ◌<◌, ◌≤◌, Bool, true, List, [], length, MatchBool, if◌then◌else◌, arith, refl, sym, rules}
use Rattle.std.proofs.Common.{ap, ◌∙◌, subst, inl, inr}
use Rattle.std.specs.Prelude.{⊤}
use Rattle.std.specs.Borrow.{Bor}
use Rattle.std.proofs.lemmas.List.{length-append, length-map}
use Rattle.bi_base.specs.Checks.{IsFirstFault, HasNoFault}
use Rattle.bi_base.specs.Limits.{Limits}
use Rattle.bi_base.specs.declared.fault.Fault.{Fault}
use Rattle.bi_base.proofs.FirstFault.{one_fault, not_both}
use Rattle.bi_legacy.specs.Emitting.{EmitPartCheck, EmitPartPasses, emit_part_fault, EmitPasses, emit_fault, FitsLimit, IsNotEmpty}
use Rattle.bi_base.specs.Slices.{bytes_of}
use Rattle.bi_legacy.specs.Emitting.{emit_part_checks, emit_checks, IsEmitFault, HasNoEmitFault}
use Rattle.bi_legacy.specs.Meaning.{LegacyImage, IsImageName, has_part_table}
use Rattle.bi_legacy.specs.Text.{normal_body, legacy_text}
use Rattle.bi_legacy.proofs.CheckLists.{HasNoFault-map, IsFirstFault-map}
use Rattle.bi_legacy.proofs.PartOffsets.{length-part_table}
use Rattle.bi_legacy.proofs.NormalLength.{length-legacy_text, length-normal_body}

-- An image to be written has at most one fault. If its name and its number of parts are right, this is that of its length or the first
-- fault of its parts.

-- The normal text is as long as the header and the normal data.
pub length-text : (image : LegacyImage) → IsImageName image.name →
    length (legacy_text image) ≡ 64 + length (normal_body image.image_type image.parts)
length-text image name =
    length-legacy_text image name ∙ ap (λ n. 64 + n) (sym (length-normal_body image.image_type image.parts))

-- There are as many slices as parts.
pub count-bytes_of : (has_table : Bool) (slices : List (Bor (List ℕ))) → MatchBool has_table ⊤ (length slices ≡ 1) →
    MatchBool has_table ⊤ (length (bytes_of slices) ≡ 1)
count-bytes_of has_table slices count =
    subst (λ (n : ℕ). MatchBool has_table ⊤ (n ≡ 1)) (sym (length-map slices (λ slice. slice.now))) count

-- The part table is within the normal data.
pub part_table-within : (image_type : ℕ) (slices : List (Bor (List ℕ))) → has_part_table image_type ≡ true →
    4 * (length slices + 1) ≤ length (normal_body image_type (bytes_of slices))
part_table-within image_type slices is_table = search (rules, length-append, length-part_table, length-map)

-- The checks of the parts that an image of this type has.
abbrev pub kind_checks : Bool → LegacyImage → List EmitPartCheck
kind_checks has_table image = if has_table then emit_part_checks 0 image.parts else []

-- An image has no fault if its name and number of parts are right, its text is within the limit and its parts pass.
pub can_be_written : (image : LegacyImage) (limits : Limits) (has_table : Bool) → IsImageName image.name →
    MatchBool (has_part_table image.image_type) ⊤ (length image.parts ≡ 1) → length (legacy_text image) ≤ limits.file →
    has_part_table image.image_type ≡ has_table → HasNoFault EmitPartPasses (kind_checks has_table image) → HasNoEmitFault limits image
can_be_written image limits has_table name count short e parts =
    let P : Bool → Type 0 = λ kind. HasNoFault EmitPartPasses (kind_checks kind image) in
    (name, (count, (short, HasNoFault-map (EmitPasses limits image) IsNotEmpty _ (subst P (sym e) parts))))

-- Where the parts do not pass, their first fault is the image's.
pub fault_in_parts : (image : LegacyImage) (limits : Limits) (has_table : Bool) (fault : Fault) → IsImageName image.name →
    MatchBool (has_part_table image.image_type) ⊤ (length image.parts ≡ 1) → length (legacy_text image) ≤ limits.file →
    has_part_table image.image_type ≡ has_table → IsFirstFault EmitPartPasses emit_part_fault (kind_checks has_table image) fault →
    IsEmitFault limits image fault
fault_in_parts image limits has_table fault name count short e first =
    let P : Bool → Type 0 = λ kind. IsFirstFault EmitPartPasses emit_part_fault (kind_checks kind image) fault in
    inr (
      name,
      inr (
        count,
        inr (
          short,
          IsFirstFault-map (EmitPasses limits image) (emit_fault limits) IsNotEmpty _ fault (subst P (sym e) first),
        ),
      ),
    )

-- Where the text is longer than the limit, that is the first fault.
pub text_too_long : (image : LegacyImage) (limits : Limits) → IsImageName image.name →
    MatchBool (has_part_table image.image_type) ⊤ (length image.parts ≡ 1) → limits.file < length (legacy_text image) →
    IsEmitFault limits image (emit_fault limits FitsLimit)
text_too_long image limits name count long =
    inr (name, inr (count, inl (λ (within : length (legacy_text image) ≤ limits.file). omega arith, refl)))

-- An image to be written has at most one fault.
pub one_emit_fault : (image : LegacyImage) (limits : Limits) (a b : Fault) → IsEmitFault limits image a → IsEmitFault limits image b → a ≡ b
one_emit_fault image limits a b is_a is_b =
    one_fault (EmitPasses limits image) (emit_fault limits) (emit_checks image) a b is_a is_b

-- An image without a fault has no fault.
pub no_emit_fault_no_fault : (image : LegacyImage) (limits : Limits) (fault : Fault) → HasNoEmitFault limits image →
    IsEmitFault limits image fault → ⊥
no_emit_fault_no_fault image limits fault none is =
    not_both (EmitPasses limits image) (emit_fault limits) (emit_checks image) fault none is
