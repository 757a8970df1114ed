use Rattle.std.proofs.Common.{◌≡◌, ℕ, Bool, true, false, ◌&&◌, List, [], ◌∷◌, ◌++◌, Option, Some, None, flat_map, Contains, IsFalse, IsSome}
use Rattle.std.proofs.Common.{is_some, filter, map, bytes_eq, refl, sym, ap, ap₂, subst, ◌∙◌, true≢false, rules}
use Rattle.std.specs.List.{AllByRecursion, list_any}
use Rattle.std.proofs.lemmas.Bool.{and_parts}
use Rattle.std.proofs.lemmas.Slice.Eq.{bytes_eq-Decides}
use Rattle.std.proofs.lemmas.Simd.{map-map}
use Rattle.bi_fit.specs.Judgement.{Image, CheckedHash, checked_hash, hash_nodes}
use Rattle.bi_hash.specs.declared.verdicts.Verdict.TheVariants.{Good}
use Rattle.bi_common.specs.VerdictCounts.{is_verdict}
use Rattle.bi_report.specs.declared.check.Allowed.{Allowed}
use Rattle.bi_report.specs.Checking.{BadHash, JudgedHash, SkippedHash, kept_concerns, hash_concerns, image_concerns, is_good, is_strong}
use Rattle.bi_report.specs.Checking.{judged_hash, judged_hashes, skip_concerns, used_hashes, verdict_concerns}
use Rattle.bi_report.specs.Checking.{is_strong_algorithm, payload_concerns, strong_algorithms, UnhashedImage, WeakHash}
use Rattle.bi_report.specs.CleanFiles.{HasGoodHash, HasNoSkippedHash, HasStrongHash, IsHashed, IsNotWeak}
use Rattle.bi_report.specs.Reports.{AreGood}
use Rattle.bi_report.proofs.CheckedHashes.{strong_only, unhashed_only, weak_allowed, weak_only}
use Rattle.bi_report.proofs.CleanLaws.NoLines.{HaveNoLine, all_have_none, allowed_has_none, failed_has_none, test_fails}
use Rattle.bi_report.proofs.CleanLaws.NoLines.{both_have_none, each_has_none, any_is_found, one_is_allowed}
use Rattle.bi_report.proofs.CleanLaws.NoLines.{parts_have_none, passed_has_none, passes_any, test_is_passed}
use Rattle.bi_report.proofs.ImageReports.{good_passes}

-- The concerns about images have no line if and only if, for each concern that is not allowed, the hashes are Good, and the images are
-- hashed and not weak.

-- The verdicts on hash nodes.
abbrev checked_of : List JudgedHash → List CheckedHash
checked_of hashes = map (λ hash. hash.checked) hashes

-- Hash nodes without a line have Good verdicts, if others are not allowed,
hashes_are_good : (allowed : Allowed) (hashes : List JudgedHash) →
    AllByRecursion (λ hash. HaveNoLine allowed (hash_concerns hash)) hashes → IsFalse allowed.bad_hash → AreGood (checked_of hashes)
hashes_are_good allowed [] each refused = tt
hashes_are_good allowed (hash ∷ later) each refused = (
  good_passes hash.checked.verdict
      (test_is_passed allowed (is_good hash.checked) (BadHash hash.checked)
      (parts_have_none allowed (verdict_concerns hash.checked) (skip_concerns hash) each.0).0 refused),
  hashes_are_good allowed later each.1 refused,
)

-- and U-Boot skips none of them, if that is not allowed.
none_is_skipped : (allowed : Allowed) (hashes : List JudgedHash) →
    AllByRecursion (λ hash. HaveNoLine allowed (hash_concerns hash)) hashes → IsFalse allowed.skipped_hash →
    AllByRecursion (λ hash. IsFalse hash.is_skipped) hashes
none_is_skipped allowed [] each refused = tt
none_is_skipped allowed (hash ∷ later) each refused = (
  test_fails allowed hash.is_skipped (SkippedHash hash.checked.image hash.checked.node_name)
      (parts_have_none allowed (verdict_concerns hash.checked) (skip_concerns hash) each.0).1 refused,
  none_is_skipped allowed later each.1 refused,
)

good_have_none : (allowed : Allowed) (hashes : List JudgedHash) → (IsFalse allowed.bad_hash → AreGood (checked_of hashes)) →
    (IsFalse allowed.skipped_hash → AllByRecursion (λ hash. IsFalse hash.is_skipped) hashes) →
    AllByRecursion (λ hash. HaveNoLine allowed (hash_concerns hash)) hashes
good_have_none allowed [] good used = tt
good_have_none allowed (hash ∷ later) good used = (
  both_have_none allowed (verdict_concerns hash.checked) (skip_concerns hash)
      (passed_has_none allowed (is_good hash.checked) (BadHash hash.checked) (λ refused. ap (is_verdict Good) (good refused).0))
      (failed_has_none allowed hash.is_skipped (SkippedHash hash.checked.image hash.checked.node_name) (λ refused. (used refused).0)),
  good_have_none allowed later (λ refused. (good refused).1) (λ refused. (used refused).1),
)

-- A Good verdict, and the test for one.
pub good_of_test : (image : Image) → list_any is_good (used_hashes (judged_hashes image)) ≡ true → HasGoodHash image
good_of_test image is = search (rules, any_is_found, good_passes)

pub test_of_good : (image : Image) → HasGoodHash image → list_any is_good (used_hashes (judged_hashes image)) ≡ true
test_of_good image has = passes_any is_good (used_hashes (judged_hashes image)) has.hash has.is_there (ap (is_verdict Good) has.is_good)

-- The name of a strong algorithm, and the test for one.
strong_name : (algorithm : Option (List ℕ)) → is_strong_algorithm algorithm ≡ true →
    (name : List ℕ) × (algorithm ≡ Some name) × Contains strong_algorithms name
strong_name None is = absurd cc
strong_name (Some name) is =
    let one = any_is_found (bytes_eq name) strong_algorithms is in
    (name, refl, subst (Contains strong_algorithms) (sym ((bytes_eq-Decides name one.0).0 one.2)) one.1)

test_of_name : (algorithm : Option (List ℕ)) (name : List ℕ) → algorithm ≡ Some name → Contains strong_algorithms name →
    is_strong_algorithm algorithm ≡ true
test_of_name algorithm name is there =
    ap is_strong_algorithm is ∙ passes_any (bytes_eq name) strong_algorithms name there ((bytes_eq-Decides name name).1 refl)

-- A Good verdict of a strong algorithm, and the test for one.
pub strong_of_test : (image : Image) → list_any is_strong (used_hashes (judged_hashes image)) ≡ true → HasStrongHash image
strong_of_test image is = search (rules, any_is_found, and_parts, strong_name, good_passes)

pub test_of_strong : (image : Image) → HasStrongHash image → list_any is_strong (used_hashes (judged_hashes image)) ≡ true
test_of_strong image has =
    passes_any is_strong (used_hashes (judged_hashes image)) has.hash has.is_there
    (ap₂ (λ a b. a && b) (ap (is_verdict Good) has.is_good) (test_of_name has.hash.algo has.algorithm has.has_algorithm has.is_strong))

-- The verdicts on the hash nodes of images are those of the tree.
pub checked_are : (image : Image) → checked_of (judged_hashes image) ≡ map (checked_hash image) (hash_nodes image)
checked_are image = map-map (λ (hash : JudgedHash). hash.checked) (judged_hash image) (hash_nodes image)

pub verdicts_of_each : (images : List Image) →
    flat_map (λ image. checked_of (judged_hashes image)) images
    ≡ flat_map (λ image. map (checked_hash image) (hash_nodes image)) images
verdicts_of_each [] = refl
verdicts_of_each (image ∷ later) = ap₂ (λ (a b : List CheckedHash). a ++ b) (checked_are image) (verdicts_of_each later)

-- If U-Boot skips none of them, it uses all of them.
unskipped : (hashes : List JudgedHash) → AllByRecursion (λ hash. IsFalse hash.is_skipped) hashes → used_hashes hashes ≡ checked_of hashes
unskipped [] each = refl
unskipped (hash ∷ later) each = rw each.0 (ap (λ l. hash.checked ∷ l) (unskipped later each.1))

pub used_are : (image : Image) → HasNoSkippedHash image →
    used_hashes (judged_hashes image) ≡ map (checked_hash image) (hash_nodes image)
used_are image none = unskipped (judged_hashes image) none ∙ checked_are image

-- What an image without a line is.
pub record IsCleanImage (allowed : Allowed) (image : Image) : Type 0 where
  pub good : IsFalse allowed.bad_hash → AreGood (checked_of (judged_hashes image))
  pub used : IsFalse allowed.skipped_hash → HasNoSkippedHash image
  pub hashed : IsFalse allowed.unhashed → IsHashed image
  pub not_weak : IsFalse allowed.weak_hash → IsNotWeak image

module _ (allowed : Allowed) (image : Image) where
  abbrev judged : List JudgedHash
  judged = judged_hashes image

  abbrev hashes : List CheckedHash
  hashes = used_hashes judged

  abbrev name : List ℕ
  name = image.entry.name

  -- An image without a payload is hashed, and not weakly.
  no_payload : image.payload ≡ None → ¬ (IsSome image.payload)
  no_payload is some = true≢false (sym some ∙ ap is_some is)

  -- A payload without a line.
  payload_is_hashed : (payload : Option (List ℕ)) → image.payload ≡ payload → HaveNoLine allowed (payload_concerns name payload hashes) →
      (IsFalse allowed.unhashed → IsHashed image) × (IsFalse allowed.weak_hash → IsNotWeak image)
  payload_is_hashed None is none = (λ refused some. absurd (no_payload is some), λ refused some good. absurd (no_payload is some))
  payload_is_hashed (Some payload) is none = by (list_any is_good hashes) (list_any is_strong hashes) refl refl where
    by : (good strong : Bool) → list_any is_good hashes ≡ good → list_any is_strong hashes ≡ strong →
        (IsFalse allowed.unhashed → IsHashed image) × (IsFalse allowed.weak_hash → IsNotWeak image)
    by false strong no_good is_strong =
        let fine = one_is_allowed allowed (UnhashedImage name)
        (sym (ap (kept_concerns allowed) (unhashed_only name hashes no_good)) ∙ none) in (
          λ refused some. absurd (true≢false (sym fine ∙ refused)),
          λ refused some good. absurd (true≢false (sym (test_of_good image good) ∙ no_good)),
        )
    by true false some_good no_strong =
        let fine = one_is_allowed allowed (WeakHash name (filter is_good hashes))
        (sym (ap (kept_concerns allowed) (weak_only name hashes some_good no_strong)) ∙ none) in
        (λ refused some. good_of_test image some_good, λ refused some good. absurd (true≢false (sym fine ∙ refused)))
    by true true some_good some_strong = (
      λ refused some. good_of_test image some_good,
      λ refused some good. strong_of_test image some_strong,
    )

  hashed_has_none : (payload : Option (List ℕ)) → image.payload ≡ payload → (IsFalse allowed.unhashed → IsHashed image) →
      (IsFalse allowed.weak_hash → IsNotWeak image) →
      HaveNoLine allowed (payload_concerns name payload hashes)
  hashed_has_none None is hashed not_weak = refl
  hashed_has_none (Some payload) is hashed not_weak = by (list_any is_good hashes) (list_any is_strong hashes) refl refl where
    there : IsSome image.payload
    there = ap is_some is

    unhashed_one : list_any is_good hashes ≡ false → (b : Bool) → allowed.unhashed ≡ b →
        HaveNoLine allowed (payload_concerns name (Some payload) hashes)
    unhashed_one no_good true fine = ap (kept_concerns allowed) (unhashed_only name hashes no_good)
        ∙ allowed_has_none allowed (UnhashedImage name) fine
    unhashed_one no_good false refused = absurd (true≢false (sym (test_of_good image (hashed refused there)) ∙ no_good))

    weak_one : list_any is_good hashes ≡ true → list_any is_strong hashes ≡ false → (b : Bool) → allowed.weak_hash ≡ b →
        HaveNoLine allowed (payload_concerns name (Some payload) hashes)
    weak_one some_good no_strong true fine = weak_allowed allowed name hashes some_good fine
    weak_one some_good no_strong false refused =
        absurd (true≢false (sym (test_of_strong image (not_weak refused there (good_of_test image some_good))) ∙ no_strong))

    by : (good strong : Bool) → list_any is_good hashes ≡ good → list_any is_strong hashes ≡ strong →
        HaveNoLine allowed (payload_concerns name (Some payload) hashes)
    by false strong no_good is_strong = unhashed_one no_good allowed.unhashed refl
    by true false some_good no_strong = weak_one some_good no_strong allowed.weak_hash refl
    by true true some_good some_strong = ap (kept_concerns allowed) (strong_only name hashes some_good some_strong)

  -- An image without a line.
  pub image_is_clean : HaveNoLine allowed (image_concerns image) → IsCleanImage allowed image
  image_is_clean none =
      let both = parts_have_none allowed (flat_map hash_concerns judged) (payload_concerns name image.payload hashes) none in
      let payload = payload_is_hashed image.payload refl both.1 in
      record {
        good = hashes_are_good allowed judged (each_has_none allowed hash_concerns judged both.0);
        used = none_is_skipped allowed judged (each_has_none allowed hash_concerns judged both.0);
        hashed = payload.0;
        not_weak = payload.1;
      }

  pub clean_image_has_none : IsCleanImage allowed image → HaveNoLine allowed (image_concerns image)
  clean_image_has_none is =
      both_have_none allowed (flat_map hash_concerns judged) (payload_concerns name image.payload hashes)
      (all_have_none allowed hash_concerns judged (good_have_none allowed judged is.good is.used))
      (hashed_has_none image.payload refl is.hashed is.not_weak)

-- Good verdicts of two lists.
good_parts : (one later : List CheckedHash) → AreGood (one ++ later) → AreGood one × AreGood later
good_parts [] later good = (tt, good)
good_parts (hash ∷ one) later good = let rest = good_parts one later good.1 in ((good.0, rest.0), rest.1)

pub both_good : (one later : List CheckedHash) → AreGood one → AreGood later → AreGood (one ++ later)
both_good [] later first rest = rest
both_good (hash ∷ one) later first rest = (first.0, both_good one later first.1 rest)

-- What images without a line are.
pub record AreCleanImages (allowed : Allowed) (images : List Image) : Type 0 where
  pub good : IsFalse allowed.bad_hash → AreGood (flat_map (λ image. checked_of (judged_hashes image)) images)
  pub used : IsFalse allowed.skipped_hash → AllByRecursion HasNoSkippedHash images
  pub hashed : IsFalse allowed.unhashed → AllByRecursion IsHashed images
  pub not_weak : IsFalse allowed.weak_hash → AllByRecursion IsNotWeak images

pub images_are_clean : (allowed : Allowed) (images : List Image) → HaveNoLine allowed (flat_map image_concerns images) →
    AreCleanImages allowed images
images_are_clean allowed [] none = record { good = λ refused. tt; used = λ refused. tt; hashed = λ refused. tt; not_weak = λ refused. tt }
images_are_clean allowed (image ∷ later) none =
    let both = parts_have_none allowed (image_concerns image) (flat_map image_concerns later) none in
    let first = image_is_clean allowed image both.0 in
    let rest = images_are_clean allowed later both.1 in
    record {
      good = λ refused. both_good (checked_of (judged_hashes image))
          (flat_map (λ image. checked_of (judged_hashes image)) later) (first.good refused) (rest.good refused);
      used = λ refused. (first.used refused, rest.used refused);
      hashed = λ refused. (first.hashed refused, rest.hashed refused);
      not_weak = λ refused. (first.not_weak refused, rest.not_weak refused);
    }

pub clean_images_have_none : (allowed : Allowed) (images : List Image) → AreCleanImages allowed images →
    HaveNoLine allowed (flat_map image_concerns images)
clean_images_have_none allowed [] are = refl
clean_images_have_none allowed (image ∷ later) are =
    both_have_none allowed (image_concerns image) (flat_map image_concerns later)
    (clean_image_has_none allowed image (record {
      good = λ refused. (good_parts (checked_of (judged_hashes image))
          (flat_map (λ image. checked_of (judged_hashes image)) later) (are.good refused)).0;
      used = λ refused. (are.used refused).0;
      hashed = λ refused. (are.hashed refused).0;
      not_weak = λ refused. (are.not_weak refused).0;
    }))
    (clean_images_have_none allowed later (record {
      good = λ refused. (good_parts (checked_of (judged_hashes image))
          (flat_map (λ image. checked_of (judged_hashes image)) later) (are.good refused)).1;
      used = λ refused. (are.used refused).1;
      hashed = λ refused. (are.hashed refused).1;
      not_weak = λ refused. (are.not_weak refused).1;
    }))
