use Rattle.std.proofs.Common.{◌≡◌, ℕ, ◌+◌, ◌-◌, ◌<◌, ◌≤◌, List, length, take, drop, get_or, Some, refl, sym, ap, subst, ◌∙◌, arith, rules}
use Rattle.std.proofs.lemmas.List.{get_or-drop, get_or-take, ext_get_or, length-take, length-drop}
use Rattle.bi_fit.specs.declared.comparing.region_pairs.RegionPair.{RegionPair}
use Rattle.bi_fit.specs.declared.image.Place.{Place}
use Rattle.bi_fit.specs.declared.image.Place.TheVariants.{Absent, Data, DataOffset, DataPosition}
use Rattle.bi_fit.specs.Content.{offset_of_place}
use Rattle.bi_fit.specs.Payloads.{IsAt, IsAtPlace}
use Rattle.bi_fit.specs.RegionPairs.{AreInFiles, HasSameBytes, IsPairOfPayloads}
use Rattle.bi_fit.proofs.Meanings.{same_in_some}

-- Two regions of files have the same bytes, one by one, if and only if they are the same list of bytes.

-- The bytes from one offset to another.
abbrev pub region : List ℕ → (begin end : ℕ) → List ℕ
region bytes begin end = take (end - begin) (drop begin bytes)

-- How many they are.
length-region : (bytes : List ℕ) (begin end : ℕ) → begin ≤ end → end ≤ length bytes → length (region bytes begin end) ≡ end - begin
length-region bytes begin end ordered within = search (rules, length-drop, length-take)

-- One of them.
get_or-region : (bytes : List ℕ) (begin end index : ℕ) → index < end - begin →
    get_or (region bytes begin end) index 0 ≡ get_or bytes (begin + index) 0
get_or-region bytes begin end index within =
    get_or-take (end - begin) (drop begin bytes) index 0 within ∙ get_or-drop begin bytes index 0

module _ (file other : List ℕ) (pair : RegionPair) (is : AreInFiles file other pair) where
  -- Where the other region begins and ends.
  abbrev pub other_begin : ℕ
  other_begin = pair.begin + pair.distance - length file

  abbrev pub other_end : ℕ
  other_end = pair.end + pair.distance - length file

  -- The bytes of one list are those of the other,
  pub each_byte : region file pair.begin pair.end ≡ region other other_begin other_end → HasSameBytes file other pair
  each_byte same index from below =
      let ordered : pair.begin ≤ pair.end = is.ordered in
      let after_begin : length file ≤ pair.begin + pair.distance = is.after_begin in
      ap (λ n. get_or file n 0) (omega arith)
      ∙ sym (get_or-region file pair.begin pair.end (index - pair.begin) (omega arith))
      ∙ ap (λ bytes. get_or bytes (index - pair.begin) 0) same
      ∙ get_or-region other other_begin other_end (index - pair.begin) (omega arith)
      ∙ ap (λ n. get_or other n 0) (omega arith)

  -- and the lists are the same if these are.
  pub same_region : HasSameBytes file other pair → region file pair.begin pair.end ≡ region other other_begin other_end
  same_region each =
      let ordered : pair.begin ≤ pair.end = is.ordered in
      let within : pair.end ≤ length file = is.within in
      let after_begin : length file ≤ pair.begin + pair.distance = is.after_begin in
      let other_within : pair.end + pair.distance ≤ length other + length file = is.other_within in
      let long : length (region file pair.begin pair.end) ≡ pair.end - pair.begin = length-region file pair.begin pair.end ordered within in
      let other_long : length (region other other_begin other_end)
      ≡ other_end - other_begin = length-region other other_begin other_end (omega arith) (omega arith) in
      ext_get_or 0 (region file pair.begin pair.end) (region other other_begin other_end) (omega arith)
      (λ index below.
      get_or-region file pair.begin pair.end index (omega arith)
      ∙ each (pair.begin + index) (omega arith) (omega arith)
      ∙ ap (λ n. get_or other n 0) (omega arith)
      ∙ sym (get_or-region other other_begin other_end index (omega arith)))

-- The bytes from an offset on, as many as a payload has, are the payload where it is in the file.
region_is : (file : List ℕ) (begin end : ℕ) (payload : List ℕ) → IsAt file begin payload → end ≡ begin + length payload →
    region file begin end ≡ payload
region_is file begin end payload is ends = search rules

-- A payload that has a place is at its offset.
pub is_at_offset : (file : List ℕ) (place : Place) (payload : List ℕ) (begin : ℕ) → IsAtPlace file (offset_of_place place) (Some payload) →
    ((offset : ℕ) → offset_of_place place ≡ Some offset → begin ≡ offset) → IsAt file begin payload
is_at_offset file Absent payload begin placed is = absurd placed
is_at_offset file (Data offset) payload begin placed is = subst (λ n. IsAt file n payload) (sym (is offset refl)) placed
is_at_offset file (DataOffset offset) payload begin placed is = subst (λ n. IsAt file n payload) (sym (is offset refl)) placed
is_at_offset file (DataPosition offset) payload begin placed is = subst (λ n. IsAt file n payload) (sym (is offset refl)) placed

-- The pair of two payloads of one length.
pub pair_of_two : (file other : List ℕ) (begin other_offset : ℕ) (payload other_payload : List ℕ) →
    IsAt file begin payload → IsAt other other_offset other_payload → length payload ≡ length other_payload →
    IsPairOfPayloads file other (Some payload) (Some other_payload)
    (record { distance = other_offset + length file - begin; begin = begin; end = begin + length payload })
pair_of_two file other begin other_offset payload other_payload is other_is same_length = record {
  within = within;
  same = (
    (λ each. ap Some (sym here ∙ same_region file other pair within each ∙ there)),
    (λ same. each_byte file other pair within (here ∙ same_in_some payload other_payload same ∙ sym there)),
  );
}
  where
    pair : RegionPair
    pair = record { distance = other_offset + length file - begin; begin = begin; end = begin + length payload }

    within : AreInFiles file other pair
    within =
        let in_file : begin + length payload ≤ length file = is.in_file in
        let in_other : other_offset + length other_payload ≤ length other = other_is.in_file in
        record { ordered = omega arith; within = omega arith; after_begin = omega arith; other_within = omega arith }

    here : region file begin (begin + length payload) ≡ payload
    here = region_is file begin (begin + length payload) payload is refl

    there : region other (begin + (other_offset + length file - begin) - length file)
        (begin + length payload + (other_offset + length file - begin) - length file) ≡ other_payload
    there =
        let in_file : begin + length payload ≤ length file = is.in_file in
        let from : begin + (other_offset + length file - begin) - length file ≡ other_offset = omega arith in
        let to : begin + length payload + (other_offset + length file - begin) - length file
        ≡ other_offset + length other_payload = omega arith in
        ap (λ n. region other n (begin + length payload + (other_offset + length file - begin) - length file)) from
        ∙ ap (region other other_offset) to
        ∙ region_is other other_offset (other_offset + length other_payload) other_payload other_is refl
