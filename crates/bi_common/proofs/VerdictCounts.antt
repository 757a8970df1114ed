use Rattle.std.proofs.Common.{◌≡◌, ◌==◌, suc, ℕ, Option, ap₂, ◌+◌, ◌&&◌, Bool, true, false, List, [], ◌∷◌, ◌++◌, refl, sym, ap, ◌∙◌, arith}
use Rattle.std.specs.List.{list_all}
use Rattle.std.proofs.Math.Dec.{eqb-suc-zero}
use Rattle.bi_blob.specs.Lookups.{Sibling, siblings}
use Rattle.bi_blob.specs.Tree.{FileNode}
use Rattle.bi_fit.specs.Content.{ImageModel}
use Rattle.bi_fit.specs.HashNodes.{file_hashes, file_verdicts}
use Rattle.bi_fit.specs.Judgement.{CheckedHash}
use Rattle.bi_fit.specs.Names.{is_hash_name}
use Rattle.bi_hash.specs.declared.verdicts.Verdict.{Verdict}
use Rattle.bi_hash.specs.declared.verdicts.Verdict.TheVariants.{Good, Bad, UnknownAlgo, NoPayload, Malformed}
use Rattle.bi_common.specs.declared.verdict_counts.Counts.{Counts}
use Rattle.bi_common.specs.VerdictCounts.{is_verdict}
use Rattle.bi_common.specs.VerdictCounts.{are_good, hash_counts, one_more_verdict, plus_hashes, total}

-- The verdicts on the first hash nodes and on the later ones are counted one after the other.

-- Counts with the same numbers are the same.
same_counts : (one other : Counts) → one.good ≡ other.good → one.bad ≡ other.bad → one.unknown_algorithm ≡ other.unknown_algorithm →
    one.no_payload ≡ other.no_payload → one.malformed ≡ other.malformed → one ≡ other
same_counts one other a b c d e = rw (a, b, c, d, e) refl

-- A hash node is counted before the later ones.
pub counted_first : (counts : Counts) (hash : CheckedHash) (later : List CheckedHash) →
    plus_hashes counts (hash ∷ later) ≡ plus_hashes (one_more_verdict hash.verdict counts) later
counted_first counts hash later = by hash.verdict refl
  where
    by : (verdict : Verdict) → hash.verdict ≡ verdict →
        plus_hashes counts (hash ∷ later) ≡ plus_hashes (one_more_verdict verdict counts) later
    by Good is = rw is (same_counts _ _ (omega arith) (omega arith) (omega arith) (omega arith) (omega arith))
    by Bad is = rw is (same_counts _ _ (omega arith) (omega arith) (omega arith) (omega arith) (omega arith))
    by UnknownAlgo is = rw is (same_counts _ _ (omega arith) (omega arith) (omega arith) (omega arith) (omega arith))
    by NoPayload is = rw is (same_counts _ _ (omega arith) (omega arith) (omega arith) (omega arith) (omega arith))
    by Malformed is = rw is (same_counts _ _ (omega arith) (omega arith) (omega arith) (omega arith) (omega arith))

-- It is one more.
pub total_first : (verdict : Verdict) (counts : Counts) → total (one_more_verdict verdict counts) ≡ total counts + 1
total_first Good counts = omega arith
total_first Bad counts = omega arith
total_first UnknownAlgo counts = omega arith
total_first NoPayload counts = omega arith
total_first Malformed counts = omega arith

-- No hash node is counted.
pub counted_none : (counts : Counts) → plus_hashes counts [] ≡ counts
counted_none counts = same_counts _ _ (omega arith) (omega arith) (omega arith) (omega arith) (omega arith)

-- The first hash nodes are counted before the later ones.
pub counted_before : (counts : Counts) (first later : List CheckedHash) →
    plus_hashes counts (first ++ later) ≡ plus_hashes (plus_hashes counts first) later
counted_before counts [] later = ap (λ (counts : Counts). plus_hashes counts later) (sym (counted_none counts))
counted_before counts (hash ∷ first) later =
    counted_first counts hash (first ++ later)
    ∙ counted_before (one_more_verdict hash.verdict counts) first later
    ∙ ap (λ (counts : Counts). plus_hashes counts later) (sym (counted_first counts hash first))

-- All are counted from the beginning.
pub counted_all : (counts : Counts) (hashes : List CheckedHash) → total counts ≡ 0 → plus_hashes counts hashes ≡ hash_counts hashes
counted_all counts hashes no_one =
    same_counts _ _ (omega (arith, no_one)) (omega (arith, no_one)) (omega (arith, no_one)) (omega (arith, no_one)) (omega (arith, no_one))

-- A number after another one is not zero.
not_zero : (n : ℕ) → (suc n == 0) ≡ false
not_zero n = eqb-suc-zero n

-- Tests one of which does not pass.
last_fails : (a : Bool) → (a && false) ≡ false
last_fails true = refl
last_fails false = refl

second_fails : (a c d : Bool) → (((a && false) && c) && d) ≡ false
second_fails a c d = ap (λ b. (b && c) && d) (last_fails a)

third_fails : (a d : Bool) → ((a && false) && d) ≡ false
third_fails a d = ap (λ b. b && d) (last_fails a)

-- The numbers are those of good verdicts if each verdict is.
pub good_counts : (hashes : List CheckedHash) →
    are_good (hash_counts hashes) ≡ list_all (λ (hash : CheckedHash). is_verdict Good hash.verdict) hashes
good_counts [] = refl
good_counts (hash ∷ later) = by hash.verdict refl (good_counts later)
  where
    good : CheckedHash → Bool
    good other = is_verdict Good other.verdict

    by : (verdict : Verdict) → hash.verdict ≡ verdict → are_good (hash_counts later) ≡ list_all good later →
        are_good (hash_counts (hash ∷ later)) ≡ list_all good (hash ∷ later)
    by Good is rest = rw is rest
    by Bad is rest = rw (is, not_zero) refl
    by UnknownAlgo is rest = rw (is, not_zero) (second_fails _ _ _)
    by NoPayload is rest = rw (is, not_zero) (third_fails _ _)
    by Malformed is rest = rw (is, not_zero) (last_fails _)

-- The hash nodes among the first child and the later ones.
first_child : (image : List ℕ) (payload : Option (List ℕ)) (entry : Sibling FileNode) (later : List (Sibling FileNode)) →
    file_hashes image payload (entry ∷ later) ≡ file_hashes image payload (entry ∷ []) ++ file_hashes image payload later
first_child image payload entry later = by (is_hash_name entry.name) refl
  where
    by : (b : Bool) → is_hash_name entry.name ≡ b →
        file_hashes image payload (entry ∷ later) ≡ file_hashes image payload (entry ∷ []) ++ file_hashes image payload later
    by true is = rw is refl
    by false is = rw is refl

-- One more child is counted.
pub one_child_counted : (image : List ℕ) (payload : Option (List ℕ)) (entry : Sibling FileNode) (left later : List (Sibling FileNode))
    (counts next all : Counts) → left ≡ entry ∷ later → next ≡ plus_hashes counts (file_hashes image payload (entry ∷ [])) →
    plus_hashes counts (file_hashes image payload left) ≡ all → plus_hashes next (file_hashes image payload later) ≡ all
one_child_counted image payload entry left later counts next all is more so_far =
    ap (λ (c : Counts). plus_hashes c (file_hashes image payload later)) more
    ∙ sym (counted_before counts (file_hashes image payload (entry ∷ [])) (file_hashes image payload later))
    ∙ ap (plus_hashes counts) (sym (ap (file_hashes image payload) is ∙ first_child image payload entry later))
    ∙ so_far

-- The hash nodes of one more image are counted.
pub one_image_counted : (entry : Sibling FileNode) (left later : List (Sibling FileNode)) (image : ImageModel)
    (images others : List ImageModel) (payload : Option (List ℕ)) (counts next all : Counts) → left ≡ entry ∷ later →
    images ≡ image ∷ others → payload ≡ image.payload →
    next ≡ plus_hashes counts (file_hashes entry.name payload (siblings entry.children)) →
    plus_hashes counts (file_verdicts left images) ≡ all → plus_hashes next (file_verdicts later others) ≡ all
one_image_counted entry left later image images others payload counts next all is are same more so_far =
    let hashes : List CheckedHash = file_hashes entry.name image.payload (siblings entry.children) in
    ap (λ (c : Counts). plus_hashes c (file_verdicts later others))
    (more ∙ ap (λ p. plus_hashes counts (file_hashes entry.name p (siblings entry.children))) same)
    ∙ sym (counted_before counts hashes (file_verdicts later others))
    ∙ ap (plus_hashes counts) (sym (ap₂ file_verdicts is are))
    ∙ so_far
