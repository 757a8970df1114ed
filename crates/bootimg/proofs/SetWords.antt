use Rattle.std.proofs.Common.{◌≡◌, ◌≢◌, ◌∙◌, ◌<◌, ◌≤◌, ◌==◌, ℕ, zero, suc, Bool, true, false, Bor, List, [], ◌∷◌, ◌++◌, Option, None, Some}
use Rattle.std.proofs.Common.{MatchOption}
use Rattle.std.proofs.Math.Seq.{take-append_seam}
use Rattle.std.proofs.Common.{◌+◌, append-nil, append_assoc, length-append, ap, arith, get_or, length, refl, rules, subst, sym, take}
use Rattle.std.proofs.Common.{take_all, tests, true≢false}
use Rattle.std.specs.List.{after_first, before_first, position_or_len}
use Rattle.std.specs.Prelude.{slice_index}
use Rattle.std.proofs.lemmas.List.Sums.{fails_before_first, passes_at_first, split_at_first}
use Rattle.bi_common.specs.Shown.{path, shown_text}
use Rattle.bi_edit.specs.declared.edit.Edit.{Edit}
use Rattle.bi_edit.specs.declared.edit.Edit.TheVariants.{RemoveNode, RemoveProperty, SetProperty}
use Rattle.bi_edit.specs.declared.edit.Edit.TheVariants.{SetField, SetPayload, SetTime, SetDigests}
use Rattle.bi_edit.specs.declared.edit.FieldValue.{FieldValue}
use Rattle.bi_edit.specs.declared.edit.FieldValue.TheVariants as field
use Rattle.bi_edit.specs.Cuts.{from_byte, IsCutAt, LacksByte}
use Rattle.bi_edit.specs.EditWords.{IsSettingWord}
use Rattle.bi_edit.specs.Places.{PropertyPlaceModel}
use Rattle.bi_edit.proofs.CutTexts.{cut_is}
use Rattle.bi_edit.proofs.PathNames.{path_no_space, shown_no_space}
use Rattle.bootimg.specs.EditOptions.{IsFieldWord, IsSetWord, field_to_set, set_place}

-- What a word for a new value is of, by its spaces.

-- ---- the first space

abbrev pub byte_is_space : ℕ → Bool
byte_is_space byte = byte == 32

not_space : (byte : ℕ) → byte_is_space byte ≡ false → byte ≢ 32
not_space byte other same = true≢false (sym (ap byte_is_space same) ∙ other)

space_is : (byte : ℕ) → byte_is_space byte ≡ true → byte ≡ 32
space_is byte holds = search (rules, tests)

lacks_space : (bytes : List ℕ) (n : ℕ) → ((k : ℕ) → k < n → byte_is_space (get_or bytes k 0) ≡ false) →
    n ≤ length bytes → LacksByte 32 (take n bytes)
lacks_space bytes zero below within = tt
lacks_space [] (suc n) below within = absurd (omega (arith, within))
lacks_space (byte ∷ bytes) (suc n) below within =
    (not_space byte (below 0 (omega arith)), lacks_space bytes n (λ k less. below (suc k) (omega (arith, less))) (omega (arith, within)))

-- What `split_once` says of a word and a space.
abbrev pub IsSplitAtSpace : (word : List ℕ) → Option (Bor (List ℕ) × Bor (List ℕ)) → Type 0
IsSplitAtSpace word result = MatchOption result (position_or_len byte_is_space word ≡ length word)
    (λ x. (x.0.now ≡ before_first byte_is_space word) × (x.1.now ≡ after_first byte_is_space word)
    × (position_or_len byte_is_space word < length word))

pub cut_of_split : (word first rest : List ℕ) → first ≡ before_first byte_is_space word → rest ≡ after_first byte_is_space word →
    position_or_len byte_is_space word < length word → IsCutAt 32 word first (Some rest)
cut_of_split word first rest is_first is_rest within =
    let place = position_or_len byte_is_space word in
    rw (is_first, is_rest) (record {
      is = split_at_first byte_is_space word 0 within
          ∙ ap (λ byte. before_first byte_is_space word ++ byte ∷ after_first byte_is_space word)
          (space_is _ (passes_at_first byte_is_space word 0 within));
      first = lacks_space word place (λ k less. fails_before_first byte_is_space word k 0 less) (omega (arith, within));
    })

pub cut_of_none : (word : List ℕ) → position_or_len byte_is_space word ≡ length word → IsCutAt 32 word word None
cut_of_none word all = record {
  is = sym (append-nil word);
  first = subst (LacksByte 32) (take_all (position_or_len byte_is_space word) word (omega (arith, all)))
      (lacks_space word (position_or_len byte_is_space word) (λ k less. fails_before_first byte_is_space word k 0 less)
      (omega (arith, all)));
}

-- ---- fields

field_no_space : (value : FieldValue) → LacksByte 32 (field_to_set value)
field_no_space (field.Name name) = search (rules, tests)
field_no_space (field.Time time) = search (rules, tests)
field_no_space (field.Load load) = search (rules, tests)
field_no_space (field.Entry entry) = search (rules, tests)
field_no_space (field.Os code) = search (rules, tests)
field_no_space (field.Arch code) = search (rules, tests)
field_no_space (field.Compression code) = search (rules, tests)

-- A word of a property begins with a slash, and one of a field does not.
path_slash : (names : List (List ℕ)) (rest : List ℕ) → slice_index (path names ++ rest) 0 ≡ 47
path_slash [] rest = refl
path_slash (name ∷ names) rest = refl

pub setting_slash : (word : List ℕ) (place : PropertyPlaceModel) (value : List ℕ) → IsSettingWord word place value → slice_index word 0 ≡ 47
setting_slash word place value is =
    ap (λ w. slice_index w 0) (sym is.is)
    ∙ ap (λ w. slice_index w 0) (append_assoc (path place.path) (32 ∷ shown_text place.name) (from_byte 32 is.after))
    ∙ path_slash place.path (32 ∷ (shown_text place.name ++ from_byte 32 is.after))

pub field_slash : (word : List ℕ) (value : FieldValue) → IsFieldWord word value → ¬ (slice_index word 0 ≡ 47)
field_slash word (field.Name name) is same = let e = ap (λ w. slice_index w 0) is.is in absurd (omega (arith, e, same))
field_slash word (field.Time time) is same = let e = ap (λ w. slice_index w 0) is.is in absurd (omega (arith, e, same))
field_slash word (field.Load load) is same = let e = ap (λ w. slice_index w 0) is.is in absurd (omega (arith, e, same))
field_slash word (field.Entry entry) is same = let e = ap (λ w. slice_index w 0) is.is in absurd (omega (arith, e, same))
field_slash word (field.Os code) is same = let e = ap (λ w. slice_index w 0) is.is in absurd (omega (arith, e, same))
field_slash word (field.Arch code) is same = let e = ap (λ w. slice_index w 0) is.is in absurd (omega (arith, e, same))
field_slash word (field.Compression code) is same = let e = ap (λ w. slice_index w 0) is.is in absurd (omega (arith, e, same))

-- ---- cuts

module _ (word first : List ℕ) (after : Option (List ℕ)) (cut : IsCutAt 32 word first after) where
  pub field_cut : (value : FieldValue) (is : IsFieldWord word value) → (field_to_set value ≡ first) × (Some is.text ≡ after)
  field_cut value is = cut_is 32 word first after cut (field_to_set value) (Some is.text) (field_no_space value) (sym is.is)

  property_cut : (place : PropertyPlaceModel) (value : List ℕ) (is : IsSettingWord word place value) →
      (path place.path ≡ first) × (Some (shown_text place.name ++ from_byte 32 is.after) ≡ after)
  property_cut place value is =
      cut_is 32 word first after cut (path place.path) (Some (shown_text place.name ++ from_byte 32 is.after)) (path_no_space place.path)
      (sym (append_assoc (path place.path) (32 ∷ shown_text place.name) (from_byte 32 is.after)) ∙ is.is)

  -- Without a space it is not a word for a new value.
  pub no_set_word : after ≡ None → (edit : Edit) → ¬ (IsSetWord word edit)
  no_set_word none (SetProperty place value) is = absurd (let e = (property_cut place value.items is).1 ∙ none in cc)
  no_set_word none (SetField value) is = absurd (let e = (field_cut value is).1 ∙ none in cc)
  no_set_word none (RemoveNode names) is = is
  no_set_word none (RemoveProperty place) is = is
  no_set_word none (SetPayload image payload) is = is
  no_set_word none (SetTime time) is = is
  no_set_word none SetDigests is = is

  -- Without a slash at its beginning it is one of a field.
  pub place_of_field : ¬ (slice_index word 0 ≡ 47) → (edit : Edit) → IsSetWord word edit → first ≡ set_place edit
  place_of_field none (SetProperty place value) is = absurd (none (setting_slash word place value.items is))
  place_of_field none (SetField value) is = sym (field_cut value is).0
  place_of_field none (RemoveNode names) is = absurd is
  place_of_field none (RemoveProperty place) is = absurd is
  place_of_field none (SetPayload image payload) is = absurd is
  place_of_field none (SetTime time) is = absurd is
  place_of_field none SetDigests is = absurd is

  -- With one it is one of a property.
  module _ (rest second : List ℕ) (text : Option (List ℕ)) (there : after ≡ Some rest) (rest_is : IsCutAt 32 rest second text)
      (slash : slice_index word 0 ≡ 47) where
    pub place_of_property : (edit : Edit) → IsSetWord word edit → first ++ 32 ∷ second ≡ set_place edit
    place_of_property (SetProperty place value) is =
        let parts = property_cut place value.items is in
        let e : Some (shown_text place.name ++ from_byte 32 is.after) ≡ Some rest = parts.1 ∙ there in
        let same : shown_text place.name ++ from_byte 32 is.after ≡ rest = cc in
        let name = cut_is 32 rest second text rest_is (shown_text place.name) is.after (shown_no_space place.name) same in
        rw (sym parts.0, sym name.0) refl
    place_of_property (SetField value) is = absurd (field_slash word value is slash)
    place_of_property (RemoveNode names) is = absurd is
    place_of_property (RemoveProperty place) is = absurd is
    place_of_property (SetPayload image payload) is = absurd is
    place_of_property (SetTime time) is = absurd is
    place_of_property SetDigests is = absurd is

-- A word that begins with a slash.
pub slash_is : (word : List ℕ) (result : Bool) → result ≡ (slice_index word 0 == 47) → result ≡ true → slice_index word 0 ≡ 47
slash_is word result is given = space_is_like (slice_index word 0) (sym is ∙ given) where
  space_is_like : (byte : ℕ) → (byte == 47) ≡ true → byte ≡ 47
  space_is_like byte holds = search (rules, tests)

-- What is before the second space.
pub before_second : (word first rest second third : List ℕ) → word ≡ first ++ 32 ∷ rest → rest ≡ second ++ 32 ∷ third →
    take (length first + 1 + length second) word ≡ first ++ 32 ∷ second
before_second word first rest second third is rest_is =
    let whole : word ≡ (first ++ 32 ∷ second) ++ 32 ∷ third =
    is ∙ ap (λ r. first ++ 32 ∷ r) rest_is ∙ sym (append_assoc first (32 ∷ second) (32 ∷ third)) in
    let size : length first + 1 + length second ≡ length (first ++ 32 ∷ second) = omega (arith, length-append first (32 ∷ second)) in
    ap (λ n. take n word) size ∙ ap (take (length (first ++ 32 ∷ second))) whole ∙ take-append_seam (first ++ 32 ∷ second) (32 ∷ third)
