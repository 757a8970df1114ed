use Rattle.std.proofs.Common.{◌≡◌, ℕ, Bool, true, false, List, [], ◌∷◌, filter, refl, ap, ◌∙◌}
use Rattle.std.specs.List.{list_any}
use Rattle.bi_fit.specs.Judgement.{CheckedHash}
use Rattle.bi_report.specs.declared.check.Allowed.{Allowed}
use Rattle.bi_report.specs.Checking.{UnhashedImage, WeakHash, is_good, is_strong, kept_concerns, protection_concerns}

-- A payload without a Good verdict has one concern, so has one whose Good verdicts are of no strong algorithm, and one with a Good verdict
-- of a strong algorithm has none.

-- The concern about a payload without a Good verdict,
pub unhashed_only : (image : List ℕ) (hashes : List CheckedHash) → list_any is_good hashes ≡ false →
    protection_concerns image hashes ≡ UnhashedImage image ∷ []
unhashed_only image hashes none = rw none refl

-- with Good ones of no strong algorithm,
pub weak_only : (image : List ℕ) (hashes : List CheckedHash) → list_any is_good hashes ≡ true → list_any is_strong hashes ≡ false →
    protection_concerns image hashes ≡ WeakHash image (filter is_good hashes) ∷ []
weak_only image hashes some none = rw (some, none) refl

-- and with one of a strong algorithm.
pub strong_only : (image : List ℕ) (hashes : List CheckedHash) → list_any is_good hashes ≡ true → list_any is_strong hashes ≡ true →
    protection_concerns image hashes ≡ []
strong_only image hashes some strong = rw (some, strong) refl

-- A payload with a Good verdict has no line where weak ones are allowed.
pub weak_allowed : (allowed : Allowed) (image : List ℕ) (hashes : List CheckedHash) → list_any is_good hashes ≡ true →
    allowed.weak_hash ≡ true →
    kept_concerns allowed (protection_concerns image hashes) ≡ []
weak_allowed allowed image hashes some is = by (list_any is_strong hashes) refl where
  by : (b : Bool) → list_any is_strong hashes ≡ b → kept_concerns allowed (protection_concerns image hashes) ≡ []
  by true strong = ap (kept_concerns allowed) (strong_only image hashes some strong)
  by false none = ap (kept_concerns allowed) (weak_only image hashes some none) ∙ rw is refl
