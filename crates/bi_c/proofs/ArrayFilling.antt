use Rattle.std.proofs.Common.{◌≡◌, ◌+◌, ◌<◌, ◌≤◌, ◌++◌, ℕ, List, [], ◌∷◌, length, take, drop, refl, sym, ap, ap₂, ◌∙◌}
use Rattle.std.proofs.Common.{arith, append_assoc}
use Rattle.std.proofs.Common.{append-nil, add-one, zero, suc, Some}
use Rattle.std.specs.Prelude.{slice_get}
use Rattle.std.proofs.Math.ListN.{set, length-set}
use Rattle.std.proofs.lemmas.List.{take_more_set, drop-set-lt, take-append-drop}
use Rattle.bi_fit.proofs.Meanings.{same_in_some}
use Rattle.bi_c.specs.declared.answer.Answer.{Answer}
use Rattle.bi_c.specs.declared.failure.Failure.{Failure}
use Rattle.bi_c.specs.Answers.{FillsBuffer, Filled, HadNoRoom, IsThisOutput, answer_of}

-- A loop writes elements to the beginning of an array, one after the other.

-- The first of all elements are at the beginning of the array, those that are left are not written yet, and what is after the place for
-- all elements is as it was.
pub record IsFilling {T : Type 0} (all left : List T) (count : ℕ) (before now : List T) : Type 0 where
  pub counted : count + length left ≡ length all
  pub filled : take count now ++ left ≡ all
  pub rest : drop (length all) now ≡ drop (length all) before
  pub same_length : length now ≡ length before
  pub room : length all ≤ length before

pub filling_begins : {T : Type 0} (all before : List T) → length all ≤ length before → IsFilling all all 0 before before
filling_begins all before room = record { counted = omega arith; filled = refl; rest = refl; same_length = refl; room = room }

-- The next element has its place in the array.
pub filling_fits : {T : Type 0} (all later : List T) (first : T) (count : ℕ) (before now : List T) →
    IsFilling all (first ∷ later) count before now → count < length now
filling_fits all later first count before now is = omega (arith, is.counted, is.same_length, is.room)

pub filling_goes_on : {T : Type 0} (all later : List T) (first : T) (count : ℕ) (before now : List T) →
    IsFilling all (first ∷ later) count before now → IsFilling all later (count + 1) before (set now count first)
filling_goes_on all later first count before now is =
    let fits = filling_fits all later first count before now is in
    let within : count < length all = omega (arith, is.counted) in
    record {
      counted = omega (arith, is.counted);
      filled = ap (λ l. l ++ later) (take_more_set now count first fits)
          ∙ append_assoc (take count now) (first ∷ []) later
          ∙ is.filled;
      rest = drop-set-lt (length all) now count first within ∙ is.rest;
      same_length = length-set now count first ∙ is.same_length;
      room = is.room;
    }

-- All elements are written.
pub filling_ends : {T : Type 0} (all : List T) (count : ℕ) (before now : List T) → IsFilling all [] count before now →
    now ≡ all ++ drop (length all) before
filling_ends all count before now is =
    let whole : count ≡ length all = omega (arith, is.counted) in
    let filled : take (length all) now ≡ all =
    ap (λ n. take n now) (sym whole) ∙ sym (append-nil (take count now)) ∙ is.filled in
    sym (take-append-drop (length all) now) ∙ ap₂ (λ a b. a ++ b) filled is.rest

-- So the call filled the array,
pub array_is_filled : {T : Type 0} (HasFailed : Failure → Type 0) (all : List T) (value count : ℕ) (before now : List T)
    (answer : Answer) → answer ≡ answer_of (length all) value → IsFilling all [] count before now →
    FillsBuffer (IsThisOutput all value) HasFailed before now answer 0
array_is_filled HasFailed all value count before now answer told is =
    Filled all value (record { is_text = refl; is_number = refl }) is.room (filling_ends all count before now is) told refl

-- or it had no room for the elements.
pub array_is_short : {T : Type 0} (HasFailed : Failure → Type 0) (all : List T) (value : ℕ) (before : List T) (answer : Answer) →
    answer ≡ answer_of (length all) value → length before < length all
    → FillsBuffer (IsThisOutput all value) HasFailed before before answer 3
array_is_short HasFailed all value before answer told short =
    HadNoRoom all value (record { is_text = refl; is_number = refl }) short refl told refl

-- The element at an index of a list is the first of the elements from that index on.
pub found_at : {T : Type 0} (all : List T) (index : ℕ) (value : T) → slice_get all index ≡ Some value →
    drop index all ≡ value ∷ drop (index + 1) all
found_at all index value is = rw add-one (by all index is)
  where
    by : {T : Type 0} {value : T} (all : List T) (index : ℕ) → slice_get all index ≡ Some value →
        drop index all ≡ value ∷ drop (suc index) all
    by [] index is = absurd cc
    by (first ∷ later) zero is = ap (λ it. it ∷ later) (same_in_some first _ is)
    by (first ∷ later) (suc index) is = by later index is
