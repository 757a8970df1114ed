use Rattle.std.specs.Prelude.{◌≡◌, ℕ, List, Some}
use Rattle.std.specs.BTreeMap.{BTreeMap, get}
use Rattle.std.specs.declared.cmp.Ordering.{Ordering}
use Rattle.std.specs.Ordering.{nat_cmp, ordering_then}
use Rattle.bi_hash.specs.declared.algo.Algo.{Algo}
use Rattle.bi_hash.specs.declared.region_digests.Region.{Region}
use Rattle.bi_hash.specs.declared.region_digests.RegionDigests.TheInside.{Inside as Fields}
use Rattle.bi_hash.specs.Algos.{algorithm_index}
use Rattle.bi_hash.specs.Digests.{padded_digest}
use Rattle.bi_hash.specs.Regions.{bytes_of_region}

-- The digests of regions of a file that are kept.

-- The key of a digest in the map: the offset and the length of the region, and the index of the
-- algorithm.
abbrev pub DigestKey : Type 0
DigestKey = ℕ × ℕ × ℕ

-- The order of keys.
abbrev pub by_digest_key : DigestKey → DigestKey → Ordering
by_digest_key one other =
    ordering_then
    (ordering_then (nat_cmp one.0 other.0) (nat_cmp one.1 other.1))
    (nat_cmp one.2 other.2)

-- The key of the digest of a region with an algorithm.
abbrev pub digest_key : Region → Algo → DigestKey
digest_key region algo = (region.begin, region.length, algorithm_index algo)

-- A map has this digest under this key.
abbrev pub KeepsDigest : BTreeMap DigestKey (List ℕ) → DigestKey → (digest : List ℕ) → Type 0
KeepsDigest digests key digest = get by_digest_key digests key ≡ Some digest

-- What one map has, the other one has.
abbrev pub KeepsAll : (old new : BTreeMap DigestKey (List ℕ)) → Type 0
KeepsAll old new = (key : DigestKey) (digest : List ℕ) → KeepsDigest old key digest
    → KeepsDigest new key digest

-- Each digest in a map is that of its region of a file with its algorithm.
pub record AreDigestsOf (file : List ℕ) (digests : BTreeMap DigestKey (List ℕ)) : Type 0 where
  pub each : (region : Region) (algo : Algo) (digest : List ℕ)
      → KeepsDigest digests (digest_key region algo) digest
      → digest ≡ padded_digest algo (bytes_of_region file region)

-- The digests that are kept are those of the file.
abbrev pub AreKept : Fields → Type 0
AreKept fields = AreDigestsOf fields.file.now fields.digests
