use Rattle.std.proofs.Common.{◌≡◌, ℕ, zero, suc, ◌+◌, ◌<◌, ◌≤◌, ◌^◌, Bool, true, false, List, [], ◌∷◌, length, set, bytes_eq, refl, sym, ap}
use Rattle.std.proofs.Common.{◌∙◌}
use Rattle.std.proofs.Common.{arith}
use Rattle.std.specs.Fmt.{decimal}
use Rattle.std.proofs.lemmas.Fmt.{decimal_injective}
use Rattle.std.proofs.lemmas.Slice.Eq.{bytes_eq-Decides}
use Rattle.bi_base.proofs.EqualBytes.{same_bytes}
use Rattle.bi_edit.specs.Edits.{IsPartNumber, has_part, with_part}

-- The part of a number.

pub differs : (one other : List ℕ) → (one ≡ other → ⊥) → (b : Bool) → bytes_eq one other ≡ b → bytes_eq one other ≡ false
differs one other apart true is = absurd (apart (same_bytes one other is))
differs one other apart false is = is

-- It is there.
pub part_there : (name bytes : List ℕ) (index later : ℕ) (parts : List (List ℕ)) → later < length parts → index + later < 2 ^ 64 →
    decimal (index + later) ≡ name →
    (has_part index name parts ≡ true) × (with_part index name bytes parts ≡ set parts later bytes)
part_there name bytes index later [] within small is = absurd (omega (arith, within))
part_there name bytes index zero (part ∷ parts) within small is =
    let here = (bytes_eq-Decides name (decimal index)).1 (sym is ∙ ap decimal (omega arith)) in rw here (refl, refl)
part_there name bytes index (suc later) (part ∷ parts) within small is =
    let other = differs name (decimal index)
    (λ same. let equal = decimal_injective (index + suc later) index small (omega (arith, small)) (is ∙ same) in omega (arith, equal))
    (bytes_eq name (decimal index)) refl in
    let rest = part_there name bytes (index + 1) later parts (omega (arith, within)) (omega (arith, small))
    (ap decimal (omega arith) ∙ is) in
    rw other (rest.0, ap (λ l. part ∷ l) rest.1)

-- It is not there.
pub no_part_there : (name bytes : List ℕ) (index : ℕ) (parts : List (List ℕ)) →
    ((number : ℕ) → index ≤ number → number < index + length parts → decimal number ≡ name → ⊥) →
    (has_part index name parts ≡ false) × (with_part index name bytes parts ≡ parts)
no_part_there name bytes index [] none = (refl, refl)
no_part_there name bytes index (part ∷ parts) none =
    let other = differs name (decimal index) (λ same. none index (omega arith) (omega arith) (sym same))
    (bytes_eq name (decimal index)) refl in
    let rest = no_part_there name bytes (index + 1) parts
    (λ number least most is. none number (omega (arith, least)) (omega (arith, most)) is) in
    rw other (rest.0, ap (λ l. part ∷ l) rest.1)

-- A name that is no number is that of no part.
pub no_number_no_part : (name bytes : List ℕ) (parts : List (List ℕ)) → length parts < 2 ^ 64 → (IsPartNumber name → ⊥) →
    (has_part 0 name parts ≡ false) × (with_part 0 name bytes parts ≡ parts)
no_number_no_part name bytes parts few none =
    no_part_there name bytes 0 parts
    (λ number least most is. none (record { number = number; small = omega (arith, most, few); is = is }))

-- A number that is not below the number of parts is that of no part.
pub number_past_parts : (name bytes : List ℕ) (parts : List (List ℕ)) (number : ℕ) → length parts ≤ number → number < 2 ^ 64 →
    decimal number ≡ name → (has_part 0 name parts ≡ false) × (with_part 0 name bytes parts ≡ parts)
number_past_parts name bytes parts number past small is =
    no_part_there name bytes 0 parts
    (λ other least most same. let equal = decimal_injective number other small (omega (arith, most, past, small)) (is ∙ sym same) in
    omega (arith, equal, most, past))

-- A number below the number of parts is that of the part with this index.
pub number_of_part : (name bytes : List ℕ) (parts : List (List ℕ)) (number : ℕ) → number < length parts → number < 2 ^ 64 →
    decimal number ≡ name → (has_part 0 name parts ≡ true) × (with_part 0 name bytes parts ≡ set parts number bytes)
number_of_part name bytes parts number within small is =
    part_there name bytes 0 number parts within (omega (arith, small)) (ap decimal (omega arith) ∙ is)
