use Rattle.std.proofs.Common.{◌≡◌, ◌<◌, ◌+◌, ℕ, List, [], ◌∷◌, ◌++◌, Contains, get_or, length, map, take, inl, inr, refl, sym, ap, subst}
use Rattle.std.proofs.Common.{◌∙◌, arith}
use Rattle.std.proofs.Common.{append_assoc, append-nil}
use Rattle.std.specs.Prelude.{◌⊎◌}
use Rattle.std.specs.Borrow.{Bor}
use Rattle.std.specs.List.{AllZip}
use Rattle.std.proofs.lemmas.List.{get_or-map, get_or_default, length-map, take_more}
use Rattle.bi_common.specs.MadeFields.{bytes_of_names}
use Rattle.bi_base.proofs.ListMembers.{Contains-cases, Contains-none}
use Rattle.bi_describe.specs.IgnoredWords.{AreFirstWords, AreNoPlainWords, AreWordsOfValue, AreWordsOfValues, IsBadIgnoredValue}
use Rattle.bi_describe.specs.IgnoredWords.{IsFirstBadIgnored, IsNoPlainWord}
use Rattle.bi_describe.specs.IgnoredWords.{IsNoWordWithPath, IsOneWord, IsPlainWord, IsWordWithPath}
use Rattle.bi_describe.specs.Ignoring.{Ignored}

-- The words of values are those of each value.

-- One more value.
pub values_more : (values : List (List ℕ)) (value : List ℕ) (words more : List Ignored) → AreWordsOfValues values words →
    AreWordsOfValue value more → AreWordsOfValues (values ++ value ∷ []) (words ++ more)
values_more [] value words more none are =
    record { first = more; others = []; is_first = are; is_other = refl; are = ap (λ words. words ++ more) none ∙ sym (append-nil more) }
values_more (first ∷ later) value words more all are = record {
  first = all.first;
  others = all.others ++ more;
  is_first = all.is_first;
  is_other = values_more later value all.others more all.is_other are;
  are = ap (λ words. words ++ more) all.are ∙ append_assoc all.first all.others more;
}

-- One more word without a path.
pub one_more_plain : (texts : List (List ℕ)) (words : List Ignored) (text : List ℕ) (word : Ignored) → AllZip IsPlainWord texts words →
    IsPlainWord text word → AllZip IsPlainWord (texts ++ text ∷ []) (words ++ word ∷ [])
one_more_plain [] [] text word are is = (is, tt)
one_more_plain [] (other ∷ words) text word are is = absurd are
one_more_plain (first ∷ texts) [] text word are is = absurd are
one_more_plain (first ∷ texts) (other ∷ words) text word are is = (are.0, one_more_plain texts words text word are.1 is)

-- Texts one of which is not a word without a path are not those of words.
pub no_plain_among : (texts : List (List ℕ)) (text : List ℕ) → Contains texts text → IsNoPlainWord text → (words : List Ignored) →
    AllZip IsPlainWord texts words → ⊥
no_plain_among [] text has none words are = Contains-none text has
no_plain_among (first ∷ later) text has none [] are = are
no_plain_among (first ∷ later) text has none (word ∷ words) are =
    by (Contains-cases first later text has) (λ more. no_plain_among later text more none words are.1)
  where
    by : (first ≡ text) ⊎ Contains later text → (Contains later text → ⊥) → ⊥
    by (inl is) after = none word (subst (λ text. IsPlainWord text word) is are.0)
    by (inr more) after = after more

-- A value that is neither of both.
pub bad_ignored_value : (value : List ℕ) → AreNoPlainWords value → IsNoWordWithPath value → IsBadIgnoredValue value
bad_ignored_value value no_plain no_path words (inl are) = no_plain words are
bad_ignored_value value no_plain no_path words (inr one) = no_path one.word one.is_word

-- The values of slices, up to one of them.
values_from : (values : List (Bor (List ℕ))) (index : ℕ) (value : Bor (List ℕ)) → value ≡ get_or values index value →
    index < length values → take (index + 1) (bytes_of_names values) ≡ take index (bytes_of_names values) ++ value.now ∷ []
values_from values index value is within =
    let long = length-map values (λ (value : Bor (List ℕ)). value.now) in
    take_more (bytes_of_names values) index value.now (omega (arith, within, long))
    ∙ ap (λ bytes. take index (bytes_of_names values) ++ bytes ∷ [])
    (get_or-map (λ (value : Bor (List ℕ)). value.now) values index value value.now within ∙ ap (λ (value : Bor (List ℕ)). value.now)
    (sym is))

-- These are the words of so many of these values, from the first on.
abbrev pub AreWordsUpTo : (values : List (Bor (List ℕ))) → (number : ℕ) → List Ignored → Type 0
AreWordsUpTo values number words = AreWordsOfValues (take number (bytes_of_names values)) words

pub values_next : (values : List (Bor (List ℕ))) (index : ℕ) (d : Bor (List ℕ)) (words first more : List Ignored) →
    index < length values → AreWordsUpTo values index words → AreWordsOfValue (get_or values index d).now first →
    more ≡ words ++ first → AreWordsUpTo values (index + 1) more
values_next values index d words first more within so_far are appended =
    let value = get_or values index d in
    subst (AreWordsOfValues (take (index + 1) (bytes_of_names values))) (sym appended)
    (subst (λ values. AreWordsOfValues values (words ++ first))
    (sym (values_from values index value (get_or_default values index d value within) within))
    (values_more (take index (bytes_of_names values)) value.now words first so_far are))

pub first_bad_value : (values : List (Bor (List ℕ))) (index : ℕ) (d : Bor (List ℕ)) (words : List Ignored) →
    index < length values → AreWordsUpTo values index words → IsBadIgnoredValue (get_or values index d).now →
    IsFirstBadIgnored (bytes_of_names values) index
first_bad_value values index d words within so_far bad =
    let value = get_or values index d in
    let is = get_or_default values index d value within in
    let long = length-map values (λ (value : Bor (List ℕ)). value.now) in
    record {
      within = omega (arith, within, long);
      before = words;
      is_before = so_far;
      is_bad = subst IsBadIgnoredValue (ap (λ (value : Bor (List ℕ)). value.now) is
          ∙ sym (get_or-map (λ (value : Bor (List ℕ)). value.now) values index value [] within)) bad;
    }
