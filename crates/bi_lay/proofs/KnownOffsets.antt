use Rattle.std.proofs.Common.{◌≡◌, ℕ, ◌<◌, Bool, true, false, List, length, get_or, set, Option, Some, None, rules}
use Rattle.std.proofs.Common.{refl, sym, ap, subst, ◌∙◌, eqb, Result, Ok, Err, OnOk, IfErr, true≢false}
use Rattle.std.proofs.lemmas.Grind.{get_or-set_at}
use Rattle.std.proofs.lemmas.List.Folds.{list_any-append}
use Rattle.std.proofs.lemmas.Bool.Decides.{Decides-eqb}
use Rattle.std.proofs.lemmas.List.{get_or-set_other}
use Rattle.std.proofs.lemmas.Option.{same_Some, get_or_from_slice_get, slice_get_read}
use Rattle.bi_blob.specs.Layout.{offset_in, is_among}
use Rattle.bi_blob.proofs.Texts.FirstUse.{found_among}
use Rattle.bi_lay.specs.Contents.{name_numbered}
use Rattle.bi_lay.specs.Names.{offset_among, saturated_usize, with_name}
use Rattle.bi_lay.specs.NumberedNames.{NumberedNames, with_use, AreKnownOffsets}
use Rattle.bi_lay.proofs.NameOffsets.{look_up-some, offset_in-stays, with_name-known}
use Rattle.bi_lay.proofs.UsedNames.{with_name-has}

-- An offset that is stored under the number of a name is the offset of the name, and stays so as names are added.

-- A look-up of a name that is there finds its offset.
look_up-there : (names : List (List ℕ)) (name : List ℕ) → is_among name names ≡ true →
    offset_among names name ≡ Some (saturated_usize (offset_in names name))
look_up-there names name among = rw among refl

-- A name is found after it was added.
offset_among-added : (names : List (List ℕ)) (name : List ℕ) →
    offset_among (with_name names name) name ≡ Some (saturated_usize (offset_in (with_name names name) name))
offset_among-added names name =
    look_up-there (with_name names name) name (found_among (with_name names name) name (with_name-has names name))

-- A name that is found has the same offset after another was added.
offset_among-stays : (names : List (List ℕ)) (name other : List ℕ) (offset : ℕ) → offset_among names name ≡ Some offset →
    offset_among (with_name names other) name ≡ Some offset
offset_among-stays names name other offset found = search (rules, look_up-some, look_up-there, offset_in-stays, list_any-append)

-- Offsets that are known stay known after a use of any name.
known-with_use : (names : NumberedNames) (name : List ℕ) (offsets : List (Option ℕ)) → AreKnownOffsets names offsets →
    AreKnownOffsets (with_use names name) offsets
known-with_use names name offsets known number offset is =
    offset_among-stays names.in_block (name_numbered names.by_number number) name offset (known number offset is)

-- One more offset is known.
known-set : (names : NumberedNames) (offsets : List (Option ℕ)) (number offset : ℕ) → number < length offsets →
    AreKnownOffsets names offsets → offset_among names.in_block (name_numbered names.by_number number) ≡ Some offset →
    AreKnownOffsets names (set offsets number (Some offset))
known-set names offsets number offset within known found other value is = by (eqb other number) refl
  where
    Found : Type 0
    Found = offset_among names.in_block (name_numbered names.by_number other) ≡ Some value

    by : (b : Bool) → eqb other number ≡ b → Found
    by true same =
        let there : other ≡ number = (Decides-eqb other number).0 same in
        let is_value : offset ≡ value = same_Some offset value
        (sym (get_or-set_at offsets number other (Some offset) None there within) ∙ is) in
        subst (λ n. offset_among names.in_block (name_numbered names.by_number n) ≡ Some value) (sym there) (found ∙ ap Some is_value)
    by false differs =
        known other value (sym (get_or-set_other offsets number other (Some offset) None
        (λ there. true≢false (sym ((Decides-eqb other number).1 there) ∙ differs))) ∙ is)

-- An offset that is read is the one that a use of the name finds, and the names stay the same then.
pub known-read : (names : NumberedNames) (offsets : List (Option ℕ)) (number : ℕ) (stored : Option ℕ) (offset : ℕ) →
    AreKnownOffsets names offsets → number < length offsets → stored ≡ get_or offsets number stored → stored ≡ Some offset →
    (offset ≡ saturated_usize (offset_in names.in_block (name_numbered names.by_number number)))
    × (names ≡ with_use names (name_numbered names.by_number number))
known-read names offsets number stored offset known within is some = (
  there.0,
  sym (ap (λ l. record names { in_block = l }) (with_name-known names.in_block (name_numbered names.by_number number) there.1)),
)
  where
    read : get_or offsets number None ≡ Some offset
    read = get_or_from_slice_get offsets number stored None (slice_get_read offsets (length offsets) number stored refl within is) ∙ some

    there :
        (offset ≡ saturated_usize (offset_in names.in_block (name_numbered names.by_number number)))
        × (is_among (name_numbered names.by_number number) names.in_block ≡ true)
    there = look_up-some names.in_block (name_numbered names.by_number number) offset (known number offset read)

-- Offsets that are known stay known where a name is added or memory runs out.
pub known-added : {E : Type 0} (names : NumberedNames) (name : List ℕ) (offsets : List (Option ℕ)) (new : List (List ℕ))
    (result : Result ℕ E) → AreKnownOffsets names offsets → OnOk result (new ≡ with_name names.in_block name) →
    IfErr result (λ _. new ≡ names.in_block) →
    AreKnownOffsets (record names { in_block = new }) offsets
known-added names name offsets new (Ok offset) known ok failed =
    subst (λ l. AreKnownOffsets (record names { in_block = l }) offsets) (sym ok) (known-with_use names name offsets known)
known-added names name offsets new (Err error) known ok failed =
    subst (λ l. AreKnownOffsets (record names { in_block = l }) offsets) (sym failed) known

-- A name was added, and the offset where it is now is stored under its number.
pub known-stored : (names : NumberedNames) (offsets : List (Option ℕ)) (number offset : ℕ) (new : List (List ℕ)) → number < length offsets →
    AreKnownOffsets names offsets → new ≡ with_name names.in_block (name_numbered names.by_number number) →
    offset ≡ saturated_usize (offset_in new (name_numbered names.by_number number)) →
    AreKnownOffsets (record names { in_block = new }) (set offsets number (Some offset))
known-stored names offsets number offset new within known is is_offset = search (rules, known-set, known-with_use, offset_among-added)
