use Rattle.std.proofs.Common.{◌≡◌, ◌≢◌, ◌⊎◌, ℕ, Bool, true, false, cond, List, [], ◌∷◌, ◌++◌, Option, Some, None, inl, inr, flat_map, refl}
use Rattle.std.proofs.Common.{sym}
use Rattle.std.proofs.Common.{IfNone, IfSome, ◌<◌, ◌≤◌, ◌-◌, arith, drop, length, take, ap, ◌∙◌, subst, append_assoc, append-nil, bytes_eq}
use Rattle.std.proofs.Common.{codes}
use Rattle.std.specs.List.{AllByRecursion, find}
use Rattle.std.proofs.lemmas.Grind.{flat_map-append}
use Rattle.std.proofs.lemmas.Slice.Eq.{bytes_eq-Decides}
use Rattle.std.proofs.lemmas.List.{drop_all, length-drop, take_all}
use Rattle.std.specs.Borrow.{Bor}
use Rattle.bi_common.specs.MadeFields.{bytes_of_names}
use Rattle.bi_common.specs.Shown.{path}
use Rattle.bi_common.proofs.ReadableWords.Cuts.{begin_apart, first_same, later_same}
use Rattle.bi_common.proofs.ReadableWords.ShownNames.{same_shown}
use Rattle.bi_values.specs.NameWords.{AreNoWords, AreWordsOf, BeginWithName, BeginWithNoName, IsNoPath, IsNoProperty, IsNoPropertyName}
use Rattle.bi_values.specs.NameWords.{IsPathWord, IsShownPropertyName}
use Rattle.bi_values.specs.ValueNames.{FieldAt, IsValueName, PropertyAt, ValueNameModel, field_word, header_fields, words_of_value}
use Rattle.bi_values.specs.declared.value_name.HeaderField.{HeaderField}
use Rattle.bi_values.specs.declared.value_name.HeaderField.TheVariants.{Name, Time, Load, Entry, Os, Arch, ImageType, Compression}
use Rattle.bi_values.proofs.Steps.{one_path, path_begins}

-- The names of values are read back from their words.

-- ---- fields

-- The field with a word.
abbrev field_by_word : List ℕ → Option HeaderField
field_by_word word = find (λ one. bytes_eq (field_word one) word) header_fields

-- The word of a field finds it.
found_by_word : (field : HeaderField) → field_by_word (field_word field) ≡ Some field
found_by_word Name = refl
found_by_word Time = refl
found_by_word Load = refl
found_by_word Entry = refl
found_by_word Os = refl
found_by_word Arch = refl
found_by_word ImageType = refl
found_by_word Compression = refl

-- No two fields have the same word.
same_field : (one other : HeaderField) → field_word one ≡ field_word other → one ≡ other
same_field one other same =
    let e : Some one ≡ Some other = sym (found_by_word one) ∙ ap field_by_word same ∙ found_by_word other in cc

-- The first of some fields that passes a test passes it.
first_passes : (p : HeaderField → Bool) (fields : List HeaderField) (found : HeaderField) → find p fields ≡ Some found → p found ≡ true
first_passes p [] found is = absurd cc
first_passes p (field ∷ fields) found is = by (p field) refl (first_passes p fields found) is
  where
    by : (b : Bool) → p field ≡ b → (find p fields ≡ Some found → p found ≡ true) → cond b (Some field) (find p fields) ≡ Some found →
        p found ≡ true
    by true passes next first = let same : field ≡ found = cc in subst (λ one. p one ≡ true) same passes
    by false fails next later = next later

-- A field that is found has the word.
pub word_of_found : (word : List ℕ) (field : HeaderField) → field_by_word word ≡ Some field → field_word field ≡ word
word_of_found word field is =
    (bytes_eq-Decides (field_word field) word).0 (first_passes (λ one. bytes_eq (field_word one) word) header_fields field is)

pub found_has_word : (word : List ℕ) (found : Option HeaderField) → found ≡ field_by_word word →
    IfSome found (λ field. field_word field ≡ word)
found_has_word word None is = tt
found_has_word word (Some field) is = word_of_found word field (sym is)

-- If none is found, none has the word.
pub no_field_found : (word : List ℕ) → field_by_word word ≡ None → (field : HeaderField) → field_word field ≢ word
no_field_found word none field is = let e : Some field ≡ None = sym (found_by_word field) ∙ ap field_by_word is ∙ none in absurd cc

-- No word of a field begins with a slash.
pub field_no_slash : (field : HeaderField) (later : List ℕ) → field_word field ≢ 47 ∷ later
field_no_slash Name later is = begin_apart 110 47 (codes "ame") later refl is
field_no_slash Time later is = begin_apart 116 47 (codes "ime") later refl is
field_no_slash Load later is = begin_apart 108 47 (codes "oad") later refl is
field_no_slash Entry later is = begin_apart 101 47 (codes "ntry") later refl is
field_no_slash Os later is = begin_apart 111 47 (codes "s") later refl is
field_no_slash Arch later is = begin_apart 97 47 (codes "rch") later refl is
field_no_slash ImageType later is = begin_apart 116 47 (codes "ype") later refl is
field_no_slash Compression later is = begin_apart 99 47 (codes "ompression") later refl is

-- ---- one name

-- A path is not the word of a field.
path_no_field : (names : List (List ℕ)) (field : HeaderField) → path names ≢ field_word field
path_no_field names field same = let begins = path_begins names in field_no_slash field begins.0 (sym same ∙ begins.1)

-- A name of a value is read back from its words, whatever follows them.
pub first_words : (one other : ValueNameModel) (x y : List (List ℕ)) → IsValueName one → IsValueName other →
    words_of_value one ++ x ≡ words_of_value other ++ y → (one ≡ other) × (x ≡ y)
first_words (PropertyAt p n) (PropertyAt q m) x y is also same =
    let paths : p ≡ q = one_path p q is.0 also.0 (first_same same) in
    let names : n ≡ m = same_shown n m (first_same (later_same same)) in
    (cc, later_same (later_same same))
first_words (PropertyAt p n) (FieldAt g) x y is also same = absurd (path_no_field p g (first_same same))
first_words (FieldAt f) (PropertyAt q m) x y is also same = absurd (path_no_field q f (sym (first_same same)))
first_words (FieldAt f) (FieldAt g) x y is also same =
    let fields : f ≡ g = same_field f g (first_same same) in (cc, later_same same)

-- The words of a name are some.
some_words : (one : ValueNameModel) (later : List (List ℕ)) → words_of_value one ++ later ≢ []
some_words (PropertyAt p n) later same = absurd cc
some_words (FieldAt f) later same = absurd cc

-- ---- several names

-- What follows the words of some names is the words of the others.
rest_of_words : (names others : List ValueNameModel) (rest : List (List ℕ)) → AllByRecursion IsValueName names →
    AllByRecursion IsValueName others → flat_map words_of_value names ++ rest ≡ flat_map words_of_value others →
    (more : List ValueNameModel) × (others ≡ names ++ more) × (rest ≡ flat_map words_of_value more)
rest_of_words [] others rest are also same = (others, refl, same)
rest_of_words (name ∷ names) [] rest are also same =
    absurd (some_words name (flat_map words_of_value names ++ rest)
    (sym (append_assoc (words_of_value name) (flat_map words_of_value names) rest) ∙ same))
rest_of_words (name ∷ names) (other ∷ others) rest are also same =
    let first = first_words name other (flat_map words_of_value names ++ rest) (flat_map words_of_value others) are.0 also.0
    (sym (append_assoc (words_of_value name) (flat_map words_of_value names) rest) ∙ same) in
    let next = rest_of_words names others rest are.1 also.1 first.1 in
    let head : name ≡ other = first.0 in
    let tail : others ≡ names ++ next.0 = next.1 in
    (next.0, cc, next.2)

-- One more name.
pub all-snoc : (names : List ValueNameModel) (name : ValueNameModel) → AllByRecursion IsValueName names → IsValueName name →
    AllByRecursion IsValueName (names ++ name ∷ [])
all-snoc [] name are is = (is, tt)
all-snoc (first ∷ names) name are is = (are.0, all-snoc names name are.1 is)

pub one_more_value : (words rest later : List (List ℕ)) (names : List ValueNameModel) (name : ValueNameModel) →
    flat_map words_of_value names ++ rest ≡ words → rest ≡ words_of_value name ++ later →
    flat_map words_of_value (names ++ name ∷ []) ++ later ≡ words
one_more_value words rest later names name are is =
    ap (λ all. all ++ later) (flat_map-append words_of_value names (name ∷ []))
    ∙ append_assoc (flat_map words_of_value names) (words_of_value name ++ []) later
    ∙ ap (λ end. flat_map words_of_value names ++ (end ++ later)) (append-nil (words_of_value name))
    ∙ ap (λ end. flat_map words_of_value names ++ end) (sym is)
    ∙ are

-- If no word is left, the words are those of the names.
pub value_words_are : (words : List (List ℕ)) (names : List ValueNameModel) → AllByRecursion IsValueName names →
    flat_map words_of_value names ≡ words → AreWordsOf words names
value_words_are words names valid are = record { valid = valid; are = are; only = only }
  where
    by : (others : List ValueNameModel) → (more : List ValueNameModel) × (others ≡ names ++ more) × ([] ≡ flat_map words_of_value more) →
        others ≡ names
    by others ([], is, ends) = is ∙ append-nil names
    by others (name ∷ more, is, ends) = absurd (some_words name (flat_map words_of_value more) (sym ends))

    only : (others : List ValueNameModel) → AllByRecursion IsValueName others → flat_map words_of_value others ≡ words → others ≡ names
    only others also same =
        by others (rest_of_words names others [] valid also (append-nil (flat_map words_of_value names) ∙ are ∙ sym same))

-- If words are left that begin with no name, the words are those of no names.
pub no_words : (words rest : List (List ℕ)) (names : List ValueNameModel) → AllByRecursion IsValueName names →
    flat_map words_of_value names ++ rest ≡ words → rest ≢ [] → BeginWithNoName rest → AreNoWords words
no_words words rest names valid are some none others also same =
    by (rest_of_words names others rest valid also (are ∙ sym same))
  where
    valid_after : (names more : List ValueNameModel) (name : ValueNameModel) → AllByRecursion IsValueName (names ++ name ∷ more) →
        IsValueName name
    valid_after [] more name all = all.0
    valid_after (first ∷ names) more name all = valid_after names more name all.1

    by : (more : List ValueNameModel) × (others ≡ names ++ more) × (rest ≡ flat_map words_of_value more) → ⊥
    by ([], is, ends) = some ends
    by (name ∷ more, is, goes_on) =
        none name (flat_map words_of_value more) (valid_after names more name (subst (AllByRecursion IsValueName) is also)) goes_on

-- What is known where there is nothing.
pub none_holds : {T : Type 0} (P : Type 0) (found : Option T) → found ≡ None → IfNone found P → P
none_holds P None is holds = holds
none_holds P (Some found) is holds = absurd cc

-- No names list no words, and a list goes on where it is not at its end.
some_names : (words : List (Bor (List ℕ))) → 0 < length words → bytes_of_names words ≢ []
some_names [] some same = omega (arith, some)
some_names (word ∷ words) some same = absurd cc

-- At the end of the words they are those of the names so far.
pub words_at_end : (words : List (Bor (List ℕ))) (at : ℕ) (names : List ValueNameModel) → AllByRecursion IsValueName names →
    flat_map words_of_value names ++ bytes_of_names (drop at words) ≡ bytes_of_names words → length words ≤ at →
    AreWordsOf (bytes_of_names words) names
words_at_end words at names valid are past =
    value_words_are (bytes_of_names words) names valid
    (sym (append-nil (flat_map words_of_value names))
    ∙ ap (λ rest. flat_map words_of_value names ++ bytes_of_names rest) (sym (drop_all at words past)) ∙ are)

-- If no name follows, they are those of no names.
pub no_words_at : (words : List (Bor (List ℕ))) (at : ℕ) (names : List ValueNameModel) → AllByRecursion IsValueName names →
    flat_map words_of_value names ++ bytes_of_names (drop at words) ≡ bytes_of_names words → at < length words →
    BeginWithNoName (bytes_of_names (take (length words - at) (drop at words))) → AreNoWords (bytes_of_names words)
no_words_at words at names valid are more none =
    no_words (bytes_of_names words) (bytes_of_names (drop at words)) names valid are
    (some_names (drop at words) (omega (arith, more, length-drop at words)))
    (subst (λ rest. BeginWithNoName (bytes_of_names rest))
    (take_all (length words - at) (drop at words) (omega (arith, length-drop at words))) none)

-- ---- the words for a property

-- A path and a name as they are printed are those of a property.
pub words_of_property : (place name : List ℕ) (names : List (List ℕ)) (own : List ℕ) → IsPathWord place names →
    IsShownPropertyName name own → BeginWithName (place ∷ name ∷ []) (PropertyAt names own) []
words_of_property place name names own is also = record {
  valid = (is.is_path, also.is_name);
  are = let e = is.is in let f = also.is in rw (e, f) refl;
}

-- Words after them.
pub words_then : (words later : List (List ℕ)) (name : ValueNameModel) → BeginWithName words name [] →
    BeginWithName (words ++ later) name later
words_then words later name begin = record {
  valid = begin.valid;
  are = ap (λ all. all ++ later) (begin.are ∙ append-nil (words_of_value name));
}

-- A word with a slash begins a property, or nothing.
pub no_property_words : (place name : List ℕ) (later : List (List ℕ)) (rest : List ℕ) → place ≡ 47 ∷ rest → IsNoProperty place name →
    BeginWithNoName (place ∷ name ∷ later)
no_property_words place name later rest slash none (PropertyAt p n) others is same = by none
  where
    by : IsNoPath place ⊎ IsNoPropertyName name → ⊥
    by (inl no_path) = no_path p is.0 (sym (first_same same))
    by (inr no_name) = no_name n is.1 (sym (first_same (later_same same)))
no_property_words place name later rest slash none (FieldAt f) others is same =
    field_no_slash f rest (sym (first_same same) ∙ slash)

-- A path alone begins nothing.
pub no_name_word : (place rest : List ℕ) → place ≡ 47 ∷ rest → BeginWithNoName (place ∷ [])
no_name_word place rest slash (PropertyAt p n) others is same = let e = later_same same in absurd cc
no_name_word place rest slash (FieldAt f) others is same = field_no_slash f rest (sym (first_same same) ∙ slash)

-- A word without a slash is that of a field, or begins nothing.
pub word_of_field : (word : List ℕ) (later : List (List ℕ)) (field : HeaderField) → field_word field ≡ word →
    BeginWithName (word ∷ later) (FieldAt field) later
word_of_field word later field is = record { valid = tt; are = ap (λ one. one ∷ later) (sym is) }

pub no_field_word : (word : List ℕ) (later : List (List ℕ)) → ((rest : List ℕ) → word ≢ 47 ∷ rest) →
    ((field : HeaderField) → field_word field ≢ word) → BeginWithNoName (word ∷ later)
no_field_word word later other none (PropertyAt p n) others is same =
    let begins = path_begins p in other begins.0 (first_same same ∙ begins.1)
no_field_word word later other none (FieldAt f) others is same = none f (sym (first_same same))
