use Rattle.std.proofs.Common.{◌≡◌, ◌<◌, ◌≤◌, ◌+◌, ℕ, List, [], ◌∷◌, ◌++◌, drop, flat_map, get_or, length, map, refl, sym, ap, ◌∙◌}
use Rattle.std.proofs.Common.{append_assoc, append-nil}
use Rattle.std.proofs.lemmas.List.{drop_all, drop_more}
use Rattle.bi_describe.specs.declared.describe.part.DescribedPart.{DescribedPart}
use Rattle.bi_describe.specs.Descriptions.{PayloadDigest}
use Rattle.bi_describe.specs.Ignoring.{Ignored}
use Rattle.bi_describe.specs.MadeParts.{bytes_of_parts, digest_of_part}
use Rattle.bi_describe.specs.ReducedMeanings.{kept_part, numbered_parts}

-- Parts are the first and then those after it.

-- The parts from one on are this one and those after it.
parts_from : (parts : List DescribedPart) (index : ℕ) (part : DescribedPart) → part ≡ get_or parts index part → index < length parts →
    drop index parts ≡ part ∷ drop (index + 1) parts
parts_from parts index part is within =
    drop_more parts index part within ∙ ap (λ item. item ∷ drop (index + 1) parts) (sym is)

pub part_digests_from : (parts : List DescribedPart) (index : ℕ) (part : DescribedPart) → part ≡ get_or parts index part →
    index < length parts → map digest_of_part (drop index parts) ≡ digest_of_part part ∷ map digest_of_part (drop (index + 1) parts)
part_digests_from parts index part is within = ap (λ (left : List DescribedPart). map digest_of_part left)
    (parts_from parts index part is within)

pub part_bytes_from : (parts : List DescribedPart) (index : ℕ) (part : DescribedPart) → part ≡ get_or parts index part →
    index < length parts → bytes_of_parts (drop index parts) ≡ part.bytes.now ∷ bytes_of_parts (drop (index + 1) parts)
part_bytes_from parts index part is within = ap bytes_of_parts (parts_from parts index part is within)

-- The parts that stay of those from one on.
abbrev pub kept_from : List Ignored → (index : ℕ) → List DescribedPart → List (ℕ × List ℕ)
kept_from words index parts = flat_map (kept_part words) (numbered_parts index (bytes_of_parts parts))

-- One more part.
pub part_next : (words : List Ignored) (parts : List DescribedPart) (index : ℕ) (part : DescribedPart)
    (so_far more all : List (ℕ × List ℕ)) → part ≡ get_or parts index part → index < length parts →
    more ≡ so_far ++ kept_part words (index, part.bytes.now) → so_far ++ kept_from words index (drop index parts) ≡ all →
    more ++ kept_from words (index + 1) (drop (index + 1) parts) ≡ all
part_next words parts index part so_far more all is within is_more left =
    let later : List (ℕ × List ℕ) = kept_from words (index + 1) (drop (index + 1) parts) in
    ap (λ (more : List (ℕ × List ℕ)). more ++ later) is_more
    ∙ append_assoc so_far (kept_part words (index, part.bytes.now)) later
    ∙ ap (λ (kept : List (ℕ × List ℕ)). so_far ++ kept) (sym (ap (kept_from words index) (parts_from parts index part is within)))
    ∙ left

-- At the end none is left.
pub no_parts_left : (words : List Ignored) (parts : List DescribedPart) (index : ℕ) (all so_far : List (ℕ × List ℕ)) →
    length parts ≤ index → so_far ++ kept_from words index (drop index parts) ≡ all → so_far ≡ all
no_parts_left words parts index all so_far past left =
    sym (append-nil so_far)
    ∙ ap (λ (kept : List DescribedPart). so_far ++ kept_from words index kept) (sym (drop_all index parts past))
    ∙ left
