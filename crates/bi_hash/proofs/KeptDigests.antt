use Rattle.std.proofs.Common.{◌≡◌, ℕ, zero, suc, List, cond, Option, Some, None, refl, sym, ap, ◌∙◌}
use Rattle.std.proofs.lemmas.Option.{none-some, same_Some}
use Rattle.std.proofs.lemmas.Map.Lookups.{exact_unsigned}
use Rattle.std.specs.declared.cmp.Ordering.{Ordering}
use Rattle.std.specs.declared.cmp.Ordering.TheVariants.{Less, Equal, Greater}
use Rattle.std.specs.Ordering.{nat_cmp, ordering_then, is_eq}
use Rattle.std.specs.BTreeMap.{BTreeMap, Updates, get}
use Rattle.bi_hash.specs.declared.algo.Algo.{Algo}
use Rattle.bi_hash.specs.declared.algo.Algo.TheVariants.{Crc32, Md5, Sha1, Sha256, Sha384, Sha512}
use Rattle.bi_hash.specs.declared.region_digests.Region.{Region}
use Rattle.bi_hash.specs.Algos.{algorithm_index}
use Rattle.bi_hash.specs.Digests.{padded_digest}
use Rattle.bi_hash.specs.Regions.{bytes_of_region}
use Rattle.bi_hash.specs.KeptDigests.{DigestKey, AreDigestsOf, KeepsAll, by_digest_key, digest_key}

-- If one more digest of a region is kept, all digests that are kept are those of their regions.

-- The algorithm at an index.
abbrev algorithm_at : ℕ → Option Algo
algorithm_at zero = Some Crc32
algorithm_at (suc zero) = Some Md5
algorithm_at (suc (suc zero)) = Some Sha1
algorithm_at (suc (suc (suc zero))) = Some Sha256
algorithm_at (suc (suc (suc (suc zero)))) = Some Sha384
algorithm_at (suc (suc (suc (suc (suc index))))) = Some Sha512

at_index : (algo : Algo) → algorithm_at (algorithm_index algo) ≡ Some algo
at_index Crc32 = refl
at_index Md5 = refl
at_index Sha1 = refl
at_index Sha256 = refl
at_index Sha384 = refl
at_index Sha512 = refl

-- Algorithms with one index are the same.
same_index : (one other : Algo) → algorithm_index one ≡ algorithm_index other → one ≡ other
same_index one other is = same_Some one other (sym (at_index one) ∙ ap algorithm_at is ∙ at_index other)

-- What is equal by two orders in turn is equal by each.
both_equal : (first second : Ordering) → ordering_then first second ≡ Equal → (first ≡ Equal) × (second ≡ Equal)
both_equal Less second is = absurd cc
both_equal Equal second is = (refl, is)
both_equal Greater second is = absurd cc

-- Keys that are equal by their order are the same.
same_key : (one other : DigestKey) → by_digest_key one other ≡ Equal → (one.0 ≡ other.0) × (one.1 ≡ other.1) × (one.2 ≡ other.2)
same_key one other is =
    let last = both_equal (ordering_then (nat_cmp one.0 other.0) (nat_cmp one.1 other.1)) (nat_cmp one.2 other.2) is in
    let first = both_equal (nat_cmp one.0 other.0) (nat_cmp one.1 other.1) last.0 in
    (exact_unsigned one.0 other.0 first.0, exact_unsigned one.1 other.1 first.1, exact_unsigned one.2 other.2 last.1)

-- One more digest is kept.
pub one_more_digest : (file : List ℕ) (old new : BTreeMap DigestKey (List ℕ)) (region : Region) (algo : Algo) (digest : List ℕ) →
    digest ≡ padded_digest algo (bytes_of_region file region) → Updates by_digest_key old new (digest_key region algo) (Some digest) →
    AreDigestsOf file old → AreDigestsOf file new
one_more_digest file old new region algo digest is updates kept = record {
  each = λ other other_algo found at.
      by_order other other_algo found (by_digest_key (digest_key region algo) (digest_key other other_algo)) refl
      (sym (updates.0 (digest_key other other_algo)) ∙ at);
}
  where
    by_order : (other : Region) (other_algo : Algo) (found : List ℕ) (order : Ordering) →
        by_digest_key (digest_key region algo) (digest_key other other_algo) ≡ order →
        cond (is_eq order) (Some digest) (get by_digest_key old (digest_key other other_algo)) ≡ Some found →
        found ≡ padded_digest other_algo (bytes_of_region file other)
    by_order other other_algo found Less differs before = kept.each other other_algo found before
    by_order other other_algo found Greater differs before = kept.each other other_algo found before
    by_order other other_algo found Equal same now =
        let keys = same_key (digest_key region algo) (digest_key other other_algo) same in
        sym (same_Some digest found now) ∙ is
        ∙ ap (λ a. padded_digest a (bytes_of_region file region)) (same_index algo other_algo keys.2)
        ∙ ap (padded_digest other_algo) (ap (λ begin. bytes_of_region file (record { begin = begin; length = region.length })) keys.0)
        ∙ ap (padded_digest other_algo) (ap (λ long. bytes_of_region file (record { begin = other.begin; length = long })) keys.1)

-- The digests that were kept still are, if none had the new key.
pub others_are_kept : (old new : BTreeMap DigestKey (List ℕ)) (key : DigestKey) (digest : List ℕ) →
    Updates by_digest_key old new key (Some digest) → get by_digest_key old key ≡ None → KeepsAll old new
others_are_kept old new key digest updates absent other kept at =
    updates.0 other ∙ by_order (by_digest_key key other) refl
  where
    by_order : (order : Ordering) → by_digest_key key other ≡ order →
        cond (is_eq order) (Some digest) (get by_digest_key old other) ≡ Some kept
    by_order Less differs = at
    by_order Greater differs = at
    by_order Equal same =
        let keys = same_key key other same in
        let equal : key ≡ other = (λ i. (keys.0 i, keys.1 i, keys.2 i)) in
        absurd (none-some kept (sym absent ∙ ap (get by_digest_key old) equal ∙ at))
