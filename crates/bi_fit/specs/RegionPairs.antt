use Rattle.std.specs.Prelude.{◌≡◌, ◌↔◌, ℕ, ◌+◌, ◌-◌, ◌≤◌, ◌<◌, List, Option, length}
use Rattle.std.specs.Prelude.{slice_index_or}
use Rattle.std.specs.List.{AllByRecursion}
use Rattle.bi_fit.specs.declared.comparing.region_pairs.RegionPair.{RegionPair}

-- Regions of two files that are compared.

-- Both regions of a pair are within their files.
pub record AreInFiles (file other : List ℕ) (pair : RegionPair) : Type 0 where
  pub ordered : pair.begin ≤ pair.end
  pub within : pair.end ≤ length file
  pub after_begin : length file ≤ pair.begin + pair.distance
  pub other_within : pair.end + pair.distance ≤ length other + length file

-- The two regions of a pair have the same bytes, one by one.
abbrev pub HasSameBytes : List ℕ → List ℕ → RegionPair → Type 0
HasSameBytes file other pair =
    (index : ℕ) → pair.begin ≤ index → index < pair.end →
    slice_index_or file index 0 ≡ slice_index_or other (index + pair.distance - length file) 0

-- A pair with the same distance begins within another pair, or at its end.
pub record BeginsWithin (compared pair : RegionPair) : Type 0 where
  pub same_distance : pair.distance ≡ compared.distance
  pub no_sooner : compared.begin ≤ pair.begin
  pub no_later : pair.begin ≤ compared.end

-- The pair of two payloads, or of none: its regions have the same bytes if and only if the payloads
-- are the same.
pub record IsPairOfPayloads (file other : List ℕ) (payload other_payload : Option (List ℕ))
    (pair : RegionPair) : Type 0 where
  pub within : AreInFiles file other pair
  pub same : HasSameBytes file other pair ↔ (payload ≡ other_payload)

-- The pairs of two lists of payloads: the regions of all have the same bytes if and only if the
-- lists are the same.
pub record ArePairsOfPayloads (file other : List ℕ)
    (payloads other_payloads : List (Option (List ℕ))) (pairs : List RegionPair) : Type 0 where
  pub within : AllByRecursion (AreInFiles file other) pairs
  pub same : AllByRecursion (HasSameBytes file other) pairs ↔ (payloads ≡ other_payloads)
