use Rattle.std.proofs.Common.{◌≡◌, ℕ, zero, suc, ◌+◌, ◌-◌, ◌<◌, ◌≤◌, List, [], ◌∷◌, ◌++◌, length, inl, inr, rules}
use Rattle.std.proofs.Common.{refl, sym, ap, ap₂, subst, subst₂, ◌∙◌, arith}
use Rattle.std.specs.List.{AllZip, range_with_len, sum}
use Rattle.std.proofs.lemmas.List.Sums.{sum_by_push}
use Rattle.std.proofs.lemmas.Bool.{cases_eq}
use Rattle.bi_base.specs.Cells.{u32_at}
use Rattle.bi_base.specs.Checks.{HasNoFault}
use Rattle.bi_base.specs.Limits.{Limits}
use Rattle.bi_base.specs.declared.fault.Fault.{Fault}
use Rattle.bi_blob.specs.Blob.{totalsize}
use Rattle.bi_blob.proofs.Blobs.TestedChecks.{IsDecided, header_decided, le_decided}
use Rattle.bi_norm.specs.declared.kind.Kind.{Kind}
use Rattle.bi_norm.specs.declared.kind.Kind.TheVariants as kind
use Rattle.bi_norm.specs.Kinds.{BeginsAs, IsKindFault, TooShort, OfNoKind}
use Rattle.bi_common.specs.Offsets.{input_from}
use Rattle.bi_report.specs.Scanning.{ClaimsNothing, HasBlobClaim, HasLegacyClaim, IsClaim, IsOverClaims, IsWithinClaims, OfBlob, OfData}
use Rattle.bi_report.specs.Scanning.{CanBeScanned, IsAfterClaim, IsScanFault, OfNothing}
use Rattle.bi_report.specs.ImageStarts.{HasNoStart, IsNextStart, ImageStartsModel}
use Rattle.bi_report.specs.ScanLaws.{ScanHasNoFault}
use Rattle.bi_report.proofs.OffsetLists.{next_offset}

-- Each image has a claim, so those of the first offsets are some of those of all offsets.

-- An image of no kind claims nothing.
pub nothing_is_claimed : (image : List ℕ) (fault : Fault) → IsKindFault image fault → IsClaim image 0
nothing_is_claimed image fault (TooShort short is) =
    OfNothing (λ claim. omega (arith, short, claim.begins.whole)) (λ claim. omega (arith, short, claim.begins.whole)) refl
nothing_is_claimed image fault (OfNoKind whole none is) = OfNothing (λ claim. none _ claim.begins) (λ claim. none _ claim.begins) refl

-- Two facts hold together or not.
both_decided : {P Q : Type 0} → IsDecided P → IsDecided Q → IsDecided (P × Q)
both_decided (inl p) (inl q) = inl (p, q)
both_decided (inl p) (inr fails) = inr (λ both. fails both.1)
both_decided (inr fails) q = inr (λ both. fails both.0)

all_decided : {C : Type 0} (Passes : C → Type 0) → ((check : C) → IsDecided (Passes check)) → (checks : List C) →
    IsDecided (HasNoFault Passes checks)
all_decided Passes decided [] = inl tt
all_decided Passes decided (check ∷ later) = both_decided (decided check) (all_decided Passes decided later)

begins_decided : (image : List ℕ) (found : Kind) → IsDecided (BeginsAs image found)
begins_decided image found = search (rules, both_decided, le_decided, cases_eq)

legacy_decided : (image : List ℕ) → IsDecided (HasLegacyClaim image)
legacy_decided image = search (rules, both_decided, begins_decided, le_decided, cases_eq)

blob_decided : (image : List ℕ) → IsDecided (HasBlobClaim image)
blob_decided image = search (rules, both_decided, begins_decided, all_decided, header_decided)

-- Each image has a claim.
claim_of_image : (image : List ℕ) → (claim : ℕ) × IsClaim image claim
claim_of_image image = by (legacy_decided image) (blob_decided image) where
  by : IsDecided (HasLegacyClaim image) → IsDecided (HasBlobClaim image) → (claim : ℕ) × IsClaim image claim
  by (inl claim) decided = (64 + u32_at image 12, OfData claim refl)
  by (inr fails) (inl claim) = (totalsize image, OfBlob claim refl)
  by (inr fails) (inr none) = (0, OfNothing fails none refl)

-- ---- the claims of the first images

-- The claims of the images at the first offsets of an input have this many bytes together.
abbrev pub HasFirstClaims : (input : List ℕ) → (count total : ℕ) → Type 0
HasFirstClaims input count total =
    (claims : List ℕ) × AllZip (λ offset. IsClaim (input_from offset input)) (range_with_len 0 count) claims × (sum claims ≡ total)

-- The next image adds its claim.
pub next_claim : (input image : List ℕ) (count total claim : ℕ) → HasFirstClaims input count total → image ≡ input_from count input →
    IsClaim image claim → HasFirstClaims input (count + 1) (total + claim)
next_claim input image count total claim (claims, are, same) is claimed = (
  claims ++ claim ∷ [],
  next_offset (λ offset. IsClaim (input_from offset input)) count claims claim are
      (subst (λ (image : List ℕ). IsClaim image claim) is claimed),
  sum_by_push (λ (each : ℕ). each) claims claim ∙ ap (λ (n : ℕ). n + claim) same,
)

-- Images that claim nothing add nothing.
claims_of_more : (input : List ℕ) (count total more : ℕ) → HasFirstClaims input count total → ClaimsNothing input count (count + more) →
    HasFirstClaims input (count + more) total
claims_of_more input count total zero first nothing =
    subst (λ (count : ℕ). HasFirstClaims input count total) (let same : count ≡ count + zero = omega arith in same) first
claims_of_more input count total (suc more) first nothing =
    subst₂ (HasFirstClaims input) (let same : count + 1 + more ≡ count + suc more = omega arith in same)
    (let same : total + 0 ≡ total = omega arith in same)
    (claims_of_more input (count + 1) (total + 0) more
    (next_claim input (input_from count input) count total 0 first refl (nothing count (omega arith) (omega arith)))
    (λ offset after before. nothing offset (omega (arith, after)) (omega (arith, before))))

claims_to : (input : List ℕ) (count total end : ℕ) → count ≤ end → HasFirstClaims input count total → ClaimsNothing input count end →
    HasFirstClaims input end total
claims_to input count total end order first nothing =
    let same : count + (end - count) ≡ end = omega (arith, order) in
    subst (λ (count : ℕ). HasFirstClaims input count total) same
    (claims_of_more input count total (end - count) first (λ offset after before. nothing offset after (omega (arith, before, order))))

-- Images in a row claim nothing if the first ones and the later ones do not.
nothing_in_row : (input : List ℕ) (from middle end : ℕ) → ClaimsNothing input from middle → ClaimsNothing input middle end →
    ClaimsNothing input from end
nothing_in_row input from middle end first later offset after before = search (rules, le_decided)

-- No image claims anything where none begins.
no_start_claims_nothing : (input : List ℕ) (from end : ℕ) → HasNoStart input from end → ClaimsNothing input from end
no_start_claims_nothing input from end none offset after before =
    OfNothing (λ claim. none offset after before kind.Legacy claim.begins) (λ claim. none offset after before kind.Fit claim.begins) refl

-- The claims of the images before the offsets that are left have this many bytes together, and those from `end` on claim nothing.
pub record HasCounted (input : List ℕ) (left : ImageStartsModel) (total end : ℕ) : Type 0 where
  pub counted : HasFirstClaims input left.from total
  pub nothing : ClaimsNothing input end left.from
  pub last : IsAfterClaim input end
  pub is_input : left.input ≡ input
  pub is_end : left.end ≡ length input
  pub are_left : left.from ≤ left.end
  pub passed : end ≤ left.from

pub before_claims : (input : List ℕ) (left : ImageStartsModel) → left ≡ record { input = input; from = 0; end = length input } →
    HasCounted input left 0 0
before_claims input left is = search rules

-- The next image adds its claim.
pub counted_next : (input image : List ℕ) (left after : ImageStartsModel) (total end offset claim new_end : ℕ) →
    HasCounted input left total end → IsNextStart left offset after → image ≡ input_from offset input → IsClaim image claim →
    (0 < claim → new_end ≡ offset + 1) → (claim ≡ 0 → new_end ≡ end) → HasCounted input after (total + claim) new_end
counted_next input image left after total end offset claim new_end old next is claimed with_claim without =
    subst (λ (left : ImageStartsModel). HasCounted input left (total + claim) new_end) (sym next.is_after)
    (record {
      counted = next_claim input image offset total claim (claims_to input left.from total offset next.is_left old.counted between) is
          claimed;
      nothing = nothing_from claim claimed with_claim without;
      last = last_of claim claimed with_claim without;
      is_input = old.is_input;
      is_end = old.is_end;
      are_left = omega (arith, next.within);
      passed = passed_by claim with_claim without;
    })
  where
    between : ClaimsNothing input left.from offset
    between =
        no_start_claims_nothing input left.from offset
        (subst (λ (input : List ℕ). HasNoStart input left.from offset) old.is_input next.no_start)

    passed_by : (claim : ℕ) → (0 < claim → new_end ≡ offset + 1) → (claim ≡ 0 → new_end ≡ end) → new_end ≤ offset + 1
    passed_by zero with_claim without = omega (arith, without refl, old.passed, next.is_left)
    passed_by (suc more) with_claim without = omega (arith, with_claim (omega arith))

    last_of : (claim : ℕ) → IsClaim image claim → (0 < claim → new_end ≡ offset + 1) → (claim ≡ 0 → new_end ≡ end) →
        IsAfterClaim input new_end
    last_of zero claimed with_claim without = subst (IsAfterClaim input) (sym (without refl)) old.last
    last_of (suc more) claimed with_claim without = λ at ends. (
      suc more,
      subst (λ (image : List ℕ). IsClaim image (suc more))
          (is ∙ ap (λ (at : ℕ). input_from at input) (let same : offset ≡ at = omega (arith, ends, with_claim (omega arith)) in same))
          claimed,
      omega arith,
    )

    nothing_from : (claim : ℕ) → IsClaim image claim → (0 < claim → new_end ≡ offset + 1) → (claim ≡ 0 → new_end ≡ end) →
        ClaimsNothing input new_end (offset + 1)
    nothing_from zero claimed with_claim without =
        subst (λ (end : ℕ). ClaimsNothing input end (offset + 1)) (sym (without refl))
        (nothing_in_row input end left.from (offset + 1) old.nothing
        (nothing_in_row input left.from offset (offset + 1) between
        (λ at from before. subst (λ (image : List ℕ). IsClaim image 0)
        (is ∙ ap (λ (at : ℕ). input_from at input) (let same : offset ≡ at = omega (arith, from, before) in same)) claimed)))
    nothing_from (suc more) claimed with_claim without =
        λ at from before. absurd (omega (arith, from, before, with_claim (omega arith)))

-- These are the claims of all images if no image begins at an offset that is left.
pub all_claims_counted : (limits : Limits) (input : List ℕ) (left : ImageStartsModel) (total end : ℕ) → HasCounted input left total end →
    HasNoStart left.input left.from left.end → total ≤ limits.file → IsWithinClaims limits input × ClaimsNothing input end (length input)
all_claims_counted limits input left total end old none within = (
  record { claims = all.0; are_claims = all.1; within = omega (arith, within, all.2) },
  nothing_in_row input end left.from (length input) old.nothing rest,
)
  where
    rest : ClaimsNothing input left.from (length input)
    rest =
        no_start_claims_nothing input left.from (length input)
        (subst₂ (λ input end. HasNoStart input left.from end) old.is_input old.is_end none)

    all : HasFirstClaims input (length input) total
    all = claims_to input left.from total (length input) (omega (arith, old.are_left, old.is_end)) old.counted rest

-- So more images claim at least as much.
more_claims : (input : List ℕ) (count total more : ℕ) → HasFirstClaims input count total →
    (all : ℕ) × HasFirstClaims input (count + more) all × (total ≤ all)
more_claims input count total zero first = (
  total,
  subst (λ (count : ℕ). HasFirstClaims input count total) (let same : count ≡ count + zero = omega arith in same) first,
  omega arith,
)
more_claims input count total (suc more) first =
    let next = claim_of_image (input_from count input) in
    let all = more_claims input (count + 1) (total + next.0) more
    (next_claim input (input_from count input) count total next.0 first refl next.1) in (
      all.0,
      subst (λ (count : ℕ). HasFirstClaims input count all.0) (let same : count + 1 + more ≡ count + suc more = omega arith in same) all.1,
      omega (arith, all.2),
    )

-- If the first images claim more than the limit, all images do.
pub over_claims : (limits : Limits) (input : List ℕ) (count total : ℕ) → count ≤ length input → HasFirstClaims input count total →
    limits.file < total → IsOverClaims limits input
over_claims limits input count total within first over = search (rules, more_claims input count total (length input - count) first)

-- ---- one claim

-- An image begins as one kind.
begins_once : (image : List ℕ) → BeginsAs image kind.Legacy → ¬ (BeginsAs image kind.Fit)
begins_once image begins other = omega (arith, begins.magic, other.magic)

-- An image has one claim.
pub one_claim : (image : List ℕ) (one other : ℕ) → IsClaim image one → IsClaim image other → one ≡ other
one_claim image one other (OfData claims is) (OfData claims_too is_too) = is ∙ sym is_too
one_claim image one other (OfData claims is) (OfBlob claims_too is_too) = absurd (begins_once image claims.begins claims_too.begins)
one_claim image one other (OfData claims is) (OfNothing fails none is_too) = absurd (fails claims)
one_claim image one other (OfBlob claims is) (OfData claims_too is_too) = absurd (begins_once image claims_too.begins claims.begins)
one_claim image one other (OfBlob claims is) (OfBlob claims_too is_too) = is ∙ sym is_too
one_claim image one other (OfBlob claims is) (OfNothing fails none is_too) = absurd (none claims)
one_claim image one other (OfNothing fails none is) (OfData claims is_too) = absurd (fails claims)
one_claim image one other (OfNothing fails none is) (OfBlob claims is_too) = absurd (none claims)
one_claim image one other (OfNothing fails none is) (OfNothing fails_too none_too is_too) = is ∙ sym is_too

-- So have those at some offsets.
same_claims : (input offsets claims others : List ℕ) → AllZip (λ offset. IsClaim (input_from offset input)) offsets claims →
    AllZip (λ offset. IsClaim (input_from offset input)) offsets others → claims ≡ others
same_claims input [] [] [] are are_too = refl
same_claims input [] [] (other ∷ others) are are_too = absurd are_too
same_claims input [] (claim ∷ claims) others are are_too = absurd are
same_claims input (offset ∷ offsets) [] others are are_too = absurd are
same_claims input (offset ∷ offsets) (claim ∷ claims) [] are are_too = absurd are_too
same_claims input (offset ∷ offsets) (claim ∷ claims) (other ∷ others) are are_too =
    ap₂ (λ (claim : ℕ) (claims : List ℕ). claim ∷ claims) (one_claim (input_from offset input) claim other are.0 are_too.0)
    (same_claims input offsets claims others are.1 are_too.1)

-- An input that can be scanned has no fault,
pub fault_or_scan : (limits : Limits) (input : List ℕ) (fault : Fault) → CanBeScanned limits input → ¬ (IsScanFault limits input fault)
fault_or_scan limits input fault can faulty = search (rules, same_claims)

-- and neither has one with a scan.
pub scan_has_no_fault : ScanHasNoFault
scan_has_no_fault format limits input text fault is = fault_or_scan limits input fault is.can
