use Rattle.std.proofs.Common.{◌≡◌, ℕ, ◌+◌, true, false, cond, List, [], ◌∷◌, ◌++◌, length, bytes_eq, Some, None, Bor, refl, sym, ap, rules}
use Rattle.std.proofs.Common.{length-append, append-nil, true≢false}
use Rattle.std.specs.Map.{keys_of}
use Rattle.std.proofs.lemmas.List.{map-append}
use Rattle.std.proofs.lemmas.Slice.Eq.{bytes_eq-Decides}
use Rattle.std.proofs.lemmas.List.Folds.{list_any-append}
use Rattle.std.proofs.lemmas.List.Concat.{flat_map-append}
use Rattle.std.proofs.lemmas.Option.{none-some, same_Some}
use Rattle.indexmap.specs.IndexMap.{IndexMap, get, Updates}
use Rattle.bi_base.specs.Slices.{bytes_of}
use Rattle.bi_blob.specs.Layout.{offset_in, strings_of, is_among}
use Rattle.bi_lay.specs.Names.{offset_among, saturated_usize, with_name, same_name}

-- A look-up finds the offset of a name if and only if the name is among the names, and a new name is at the end of the strings block.

-- A look-up that finds a name gives its offset, and the name is among the names.
pub look_up-some : (names : List (List ℕ)) (name : List ℕ) (value : ℕ) → offset_among names name ≡ Some value →
    (value ≡ saturated_usize (offset_in names name)) × (is_among name names ≡ true)
look_up-some names name value found = search (rules, same_Some, none-some)

-- A name that a look-up does not find is not among the names.
pub look_up-none : (names : List (List ℕ)) (name : List ℕ) → offset_among names name ≡ None → is_among name names ≡ false
look_up-none names name none = search (rules, none-some)

-- The strings block with one more name.
pub strings-push : (names : List (List ℕ)) (name : List ℕ) →
    length (strings_of (names ++ name ∷ [])) ≡ length (strings_of names) + length name + 1
strings-push names name = search (rules, flat_map-append, append-nil, length-append)

-- A name that was not among others is at the end of their strings block.
pub offset_in-new : (names : List (List ℕ)) (name : List ℕ) → is_among name names ≡ false →
    offset_in (names ++ name ∷ []) name ≡ length (strings_of names)
offset_in-new [] name new = ap (λ b. cond b 0 (length name + 1 + 0)) ((bytes_eq-Decides name name).1 refl)
offset_in-new (other ∷ later) name new = search (rules, length-append, offset_in-new later name)

-- The offset of a name stays where another comes after it.
pub offset_in-stays : (names : List (List ℕ)) (name other : List ℕ) → is_among name names ≡ true →
    offset_in (names ++ other ∷ []) name ≡ offset_in names name
offset_in-stays [] name other among = absurd (true≢false (sym among))
offset_in-stays (first ∷ later) name other among = search (rules, offset_in-stays later name other)

-- The offsets of names, when a name that was not among them comes after them.
pub offset_among-push : (names : List (List ℕ)) (key name : List ℕ) → is_among key names ≡ false →
    cond (bytes_eq key name) (Some (saturated_usize (length (strings_of names)))) (offset_among names name)
    ≡ offset_among (names ++ key ∷ []) name
offset_among-push names key name new = search (rules, list_any-append, offset_in-stays, bytes_eq-Decides, offset_in-new)

-- The map of offsets, when a name that it lacks comes after the others.
pub placed-push : {S : Type 0} (old new : IndexMap (Bor (List ℕ)) ℕ S) (names : List (List ℕ)) (key : Bor (List ℕ))
    → ((name : Bor (List ℕ)) → get same_name old name ≡ offset_among names name.now)
    → Updates same_name old new key (Some (saturated_usize (length (strings_of names))))
    → is_among key.now names ≡ false
    → (name : Bor (List ℕ)) → get same_name new name ≡ offset_among (names ++ key.now ∷ []) name.now
placed-push old new names key placed updates lacks name = search (rules, offset_among-push)

-- The names of entries with one more entry after them.
pub names_of_keys-push : (entries : List (Bor (List ℕ) × ℕ)) (key : Bor (List ℕ)) (offset : ℕ) →
    bytes_of (keys_of (entries ++ (key, offset) ∷ [])) ≡ bytes_of (keys_of entries) ++ key.now ∷ []
names_of_keys-push entries key offset = search (rules, map-append)

-- The names after one more use, by whether the name was there.
pub with_name-known : (names : List (List ℕ)) (name : List ℕ) → is_among name names ≡ true → with_name names name ≡ names
with_name-known names name among = rw among refl

pub with_name-new : (names : List (List ℕ)) (name : List ℕ) → is_among name names ≡ false → with_name names name ≡ names ++ name ∷ []
with_name-new names name new = rw new refl
