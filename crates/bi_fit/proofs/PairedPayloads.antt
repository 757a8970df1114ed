use Rattle.std.proofs.Common.{◌≡◌, ◌↔◌, ℕ, List, [], ◌∷◌, ◌++◌, length, rules}
use Rattle.std.specs.List.{All, AllByRecursion}
use Rattle.std.specs.List.Sorted.{IsPermutation}
use Rattle.std.proofs.lemmas.List.Elements.{All-nil, All-cons, All-head, All-tail}
use Rattle.std.proofs.lemmas.List.Sorted.{All-permutation}
use Rattle.bi_base.proofs.ListMembers.{each-append, each-front, each-back}
use Rattle.bi_fit.specs.declared.comparing.region_pairs.RegionPair.{RegionPair}
use Rattle.bi_fit.specs.Content.{ImageModel, payloads_of_models, IsAtItsPlace}
use Rattle.bi_fit.specs.RegionPairs.{AreInFiles, HasSameBytes, IsPairOfPayloads}

-- The payloads of two lists of images are paired one by one.

-- The payloads of all images are the same if and only if the regions of the pairs so far and the payloads of the images that are left are.
abbrev pub IsPairing : (file other : List ℕ) → List RegionPair → (images others : List ImageModel) → (AllSame : Type 0) → Type 0
IsPairing file other pairs images others AllSame =
    (length images ≡ length others)
    × AllByRecursion (IsAtItsPlace file) images
    × AllByRecursion (IsAtItsPlace other) others
    × AllByRecursion (AreInFiles file other) pairs
    × ((AllByRecursion (HasSameBytes file other) pairs × (payloads_of_models images ≡ payloads_of_models others)) ↔ AllSame)

-- One more pair.
pub pairing_next : (file other : List ℕ) (pairs : List RegionPair) (pair : RegionPair)
    (image other_image : ImageModel) (images others : List ImageModel) (AllSame : Type 0)
    → IsPairing file other pairs (image ∷ images) (other_image ∷ others) AllSame
    → IsPairOfPayloads file other image.payload other_image.payload pair
    → IsPairing file other (pairs ++ pair ∷ []) images others AllSame
pairing_next file other pairs pair image other_image images others AllSame is is_pair = search (rules, each-append, each-front, each-back)

-- What holds of each pair holds of each in another order.
pub each_moved : (P : RegionPair → Type 0) (pairs moved : List RegionPair) → IsPermutation pairs moved →
    AllByRecursion P pairs → AllByRecursion P moved
each_moved P pairs moved permutation each = from_all moved (All-permutation P pairs moved permutation (to_all pairs each))
  where
    to_all : (pairs : List RegionPair) → AllByRecursion P pairs → All P pairs
    to_all [] each = All-nil P
    to_all (pair ∷ pairs) each = All-cons P pair pairs each.0 (to_all pairs each.1)

    from_all : (pairs : List RegionPair) → All P pairs → AllByRecursion P pairs
    from_all [] all = tt
    from_all (pair ∷ pairs) all = (All-head P pair pairs all, from_all pairs (All-tail P pair pairs all))
