use Rattle.std.proofs.Common.{◌≡◌, ℕ, ◌-◌, Bool, true, false, List, ◌++◌, [], ◌∷◌, length, replicate, arith, refl, sym, ◌∙◌, append_assoc}
use Rattle.std.proofs.Common.{append-nil, MatchBool, if◌then◌else◌, rules}
use Rattle.std.specs.List.{AllByRecursion}
use Rattle.std.proofs.lemmas.List.{length-append}
use Rattle.bi_base.specs.Cells.{up4}
use Rattle.bi_legacy.specs.Meaning.{IsTablePart, AreParts, has_part_table}
use Rattle.bi_legacy.specs.Parts.{part_table, ArePaddedParts, HasPartTable, HoldsParts}
use Rattle.bi_legacy.specs.Text.{joined_parts, normal_body}
use Rattle.bi_legacy.proofs.NormalLength.{length-padded}

-- The normal data of some parts holds them.

-- Joined parts are padded parts in order.
joined_parts-padded : (parts : List (List ℕ)) → ArePaddedParts parts (joined_parts parts)
joined_parts-padded [] = tt
joined_parts-padded (part ∷ []) = ([], sym (append-nil part))
joined_parts-padded (part ∷ next ∷ later) =
    let zeros : List ℕ = replicate (up4 (length part) - length part) 0 in (
      zeros,
      joined_parts (next ∷ later),
      append_assoc part zeros (joined_parts (next ∷ later)),
      sym (length-append part zeros) ∙ length-padded part,
      joined_parts-padded (next ∷ later),
    )

-- The normal data, with or without a part table, holds the parts.
normal_holds : (has_table : Bool) (parts : List (List ℕ)) → MatchBool has_table (AllByRecursion IsTablePart parts) (length parts ≡ 1) →
    let body = if has_table then part_table parts
    ++ joined_parts parts else joined_parts parts in MatchBool has_table (HasPartTable parts body) (parts ≡ body ∷ [])
normal_holds true parts are = search (rules, joined_parts-padded)
normal_holds false [] are = absurd (omega arith)
normal_holds false (part ∷ []) are = refl
normal_holds false (part ∷ next ∷ later) are = absurd (omega arith)

-- The normal data holds the parts.
pub normal_body_holds : (image_type : ℕ) (parts : List (List ℕ)) → AreParts image_type parts →
    HoldsParts image_type (normal_body image_type parts) parts
normal_body_holds image_type parts are = normal_holds (has_part_table image_type) parts are
