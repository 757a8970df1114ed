use Rattle.std.proofs.Common.{◌≡◌, ◌<◌, ◌≤◌, ◌∙◌, ◌+◌, ℕ, Bool, true, false, List, [], ◌∷◌, ◌++◌, Option, None, Some, ap, drop, flat_map}
use Rattle.std.proofs.Common.{append-nil, get_or, inl, inr, length, map, refl, subst, sym, take, true≢false}
use Rattle.std.specs.Prelude.{◌↔◌, IfNone, IfSome, IsTrue, is_some, nat_le, option_map}
use Rattle.std.specs.Option.{option_or}
use Rattle.std.specs.List.{AllByRecursion, find}
use Rattle.std.proofs.lemmas.List.Folds.{find-append}
use Rattle.std.proofs.lemmas.List.{append_assoc, map-append, map_more, take-append-drop, take_all, take_more}
use Rattle.std.proofs.lemmas.Bool.{le-leb, lt-leb}
use Rattle.std.proofs.lemmas.List.Concat.{flat_map-append, flat_map_single}
use Rattle.bi_base.proofs.ListMembers.{each-append}
use Rattle.std.specs.Borrow.{Bor}
use Rattle.bi_edit.specs.declared.words.PayloadWord.{PayloadWord}
use Rattle.bi_edit.specs.EditWords.{IsPayloadWord}
use Rattle.bootimg.specs.CommandLine.{IsBadValue, IsFailureOutcome, NoneIs, texts_of}
use Rattle.bootimg.specs.RefusedWords.{FindsFirst, GivenWordModel, IsFirstRefusedWord, IsRefused, OptionTextModel, RefusedWordModel}
use Rattle.bootimg.specs.RefusedWords.{all_option_words}
use Rattle.bootimg.specs.RefusedWords.{option_words}
use Rattle.bootimg.specs.RefusedWords.{option_text_model, taking_options, words_given}
use Rattle.bootimg.specs.RefusedWords.{edits_between, first_near, given_word}
use Rattle.bootimg.specs.declared.command_line.NoRequest.{NoRequest}
use Rattle.bootimg.specs.declared.command_line.NoRequest.TheVariants as outcome
use Rattle.bootimg.specs.declared.command_line.refused.GivenWord.{GivenWord}
use Rattle.bootimg.specs.declared.command_line.table.OptionForm.TheVariants as form
use Rattle.bootimg.specs.declared.command_line.table.OptionText.{OptionText}
use Rattle.bootimg.specs.declared.command_line.takes.Place.TheVariants as place
use Rattle.bootimg.specs.declared.command_line.takes.Takes.TheVariants as takes
use Rattle.bootimg.specs.declared.failure.Failure.TheVariants.{BadValue}
use Rattle.bootimg.specs.TakenWords.{IsTaken}

-- The first word that is not taken, in lists that are looked through one word after another.

-- The word is taken where it stands.
abbrev pub IsTakenThere : GivenWordModel → Type 0
IsTakenThere given = IsTaken given.takes given.word

-- A word that is refused among the first ones is the first of all that is.
pub found_before : (xs ys : List GivenWordModel) (found : GivenWordModel) → IsFirstRefusedWord xs found → IsFirstRefusedWord
    (xs ++ ys) found
found_before xs ys found is = record {
  before = is.before;
  later = is.later ++ ys;
  are = ap (λ l. l ++ ys) is.are ∙ append_assoc is.before (found ∷ is.later) ys;
  taken = is.taken;
  refused = is.refused;
}

-- After words that are taken, the first of the later ones that is refused is the first of all.
pub found_after : (xs ys : List GivenWordModel) (found : Option GivenWordModel) → AllByRecursion IsTakenThere xs → FindsFirst ys found
    → FindsFirst (xs ++ ys) found
found_after xs ys None taken later = each-append IsTakenThere xs ys taken later
found_after xs ys (Some found) taken is = record {
  before = xs ++ is.before;
  later = is.later;
  are = ap (λ l. xs ++ l) is.are ∙ sym (append_assoc xs is.before (found ∷ is.later));
  taken = each-append IsTakenThere xs is.before taken is.taken;
  refused = is.refused;
}

-- ---- lists of words for each of several things

-- The words before one thing, those of that thing, and those after it.
words_at : {X : Type 0} (f : X → List GivenWordModel) (xs : List X) (i : ℕ) (d : X) → i < length xs
    → flat_map f xs ≡ (flat_map f (take i xs) ++ f (get_or xs i d)) ++ flat_map f (drop (i + 1) xs)
words_at f xs i d within =
    let later = flat_map f (drop (i + 1) xs) in
    ap (flat_map f) (sym (take-append-drop (i + 1) xs))
    ∙ flat_map-append f (take (i + 1) xs) (drop (i + 1) xs)
    ∙ ap (λ l. flat_map f l ++ later) (take_more xs i d within)
    ∙ ap (λ l. l ++ later) (flat_map-append f (take i xs) (get_or xs i d ∷ [])
    ∙ ap (λ l. flat_map f (take i xs) ++ l) (append-nil (f (get_or xs i d))))

-- The words of the first things are taken, and so are those of one more.
pub more_taken : {X : Type 0} (f : X → List GivenWordModel) (xs : List X) (i : ℕ) (d : X) → i < length xs
    → AllByRecursion IsTakenThere (flat_map f (take i xs)) → AllByRecursion IsTakenThere (f (get_or xs i d))
    → AllByRecursion IsTakenThere (flat_map f (take (i + 1) xs))
more_taken f xs i d within first one =
    subst (AllByRecursion IsTakenThere)
    (sym (ap (flat_map f) (take_more xs i d within) ∙ flat_map-append f (take i xs) (get_or xs i d ∷ [])
    ∙ ap (λ l. flat_map f (take i xs) ++ l) (append-nil (f (get_or xs i d)))))
    (each-append IsTakenThere (flat_map f (take i xs)) (f (get_or xs i d)) first one)

-- Those of the first things are taken, and one of the next thing is refused.
pub refused_at : {X : Type 0} (f : X → List GivenWordModel) (xs : List X) (i : ℕ) (d : X) (found : GivenWordModel) → i < length xs
    → AllByRecursion IsTakenThere (flat_map f (take i xs)) → IsFirstRefusedWord (f (get_or xs i d)) found
    → IsFirstRefusedWord (flat_map f xs) found
refused_at f xs i d found within first is =
    subst (λ l. IsFirstRefusedWord l found) (sym (words_at f xs i d within))
    (found_before (flat_map f (take i xs) ++ f (get_or xs i d)) (flat_map f (drop (i + 1) xs)) found
    (found_after (flat_map f (take i xs)) (f (get_or xs i d)) (Some found) first is))

-- Those of all things are taken.
pub none_refused : {X : Type 0} (f : X → List GivenWordModel) (xs : List X) (i : ℕ) → length xs ≤ i
    → AllByRecursion IsTakenThere (flat_map f (take i xs)) → FindsFirst (flat_map f xs) None
none_refused f xs i past all = subst (λ l. AllByRecursion IsTakenThere (flat_map f l)) (take_all i xs past) all

-- What a list of words gives past its end.
abbrev pub no_lent_word : Bor (List ℕ)
no_lent_word = record { ref_ptr = (0, 0); now = [] }

-- What lists give past their ends.
abbrev pub no_given_word : GivenWord
no_given_word = record { place = place.Option no_lent_word; takes = takes.Anything; word = no_lent_word }

abbrev pub no_option : OptionText
no_option = record { name = no_lent_word; value_name = no_lent_word; help = no_lent_word; form = form.Flag; takes = takes.Anything }

-- ---- one word for each

-- A word by itself.
abbrev pub only : {X : Type 0} → (X → GivenWordModel) → X → List GivenWordModel
only f x = f x ∷ []

-- It is refused.
pub found_one : (given : GivenWordModel) → IsRefused given → IsFirstRefusedWord (given ∷ []) given
found_one given refused = record { before = []; later = []; are = refl; taken = tt; refused = refused }

pub found_in_map : {X : Type 0} (f : X → GivenWordModel) (xs : List X) (found : Option GivenWordModel) → FindsFirst (flat_map
    (only f) xs) found
    → FindsFirst (map f xs) found
found_in_map f xs found is = subst (λ l. FindsFirst l found) (flat_map_single f xs) is

-- A refused word, with a name that is near it.
abbrev pub given_near : GivenWordModel → (near : Option (List ℕ)) → RefusedWordModel
given_near given near = record { given = given; near = near }

-- ---- options

-- A word of an option.
abbrev pub given_to : OptionTextModel → Bor (List ℕ) → GivenWordModel
given_to option word = record { place = option.place; takes = option.takes; word = word.now }

-- The words that an option of the table has.
abbrev pub words_of_option : (values : List ℕ → List (List ℕ)) → OptionText → List GivenWordModel
words_of_option values option = option_words values (option_text_model option)

-- Those of all options of the table.
pub words_of_all : (values : List ℕ → List (List ℕ)) (table : List OptionText) → map option_text_model table ≡ taking_options
    → flat_map (words_of_option values) table ≡ all_option_words values
words_of_all values table same = flat_of_map option_text_model (option_words values) table ∙ ap (flat_map (option_words values)) same
  where
    flat_of_map : {X Y Z : Type 0} (f : X → Y) (g : Y → List Z) (xs : List X) → flat_map (λ x. g (f x)) xs ≡ flat_map g (map f xs)
    flat_of_map f g [] = refl
    flat_of_map f g (x ∷ xs) = ap (λ l. g (f x) ++ l) (flat_of_map f g xs)

-- The words of an option, as they were lent.
pub given_words_of : (option : OptionTextModel) (words : List (Bor (List ℕ))) → map (given_to option) words ≡ words_given option
    (texts_of words)
given_words_of option [] = refl
given_words_of option (word ∷ words) = ap (λ l. given_to option word ∷ l) (given_words_of option words)

-- A word of an option of the table is refused, and is the first one, or all its words are taken.
pub first_of_options : (values : List ℕ → List (List ℕ)) (table : List OptionText) (i : ℕ) (d : OptionText) (found : Option GivenWord)
    (texts : List (List ℕ)) → map option_text_model table ≡ taking_options → i < length table → texts ≡ values (get_or table i d).name.now
    → AllByRecursion IsTakenThere (flat_map (words_of_option values) (take i table))
    → FindsFirst (words_given (option_text_model (get_or table i d)) texts) (option_map given_word found) → is_some found ≡ true
    → FindsFirst (all_option_words values) (option_map given_word found)
first_of_options values table i d None texts same within named first is some = absurd (let e : false ≡ true = some in cc)
first_of_options values table i d (Some given) texts same within named first is some =
    subst (λ l. IsFirstRefusedWord l (given_word given)) (words_of_all values table same)
    (refused_at (words_of_option values) table i d (given_word given) within first
    (subst (λ t. IsFirstRefusedWord (words_given (option_text_model (get_or table i d)) t) (given_word given)) named is))

pub more_options : (values : List ℕ → List (List ℕ)) (table : List OptionText) (i : ℕ) (d : OptionText) (found : Option GivenWord)
    (texts : List (List ℕ)) → i < length table → texts ≡ values (get_or table i d).name.now
    → AllByRecursion IsTakenThere (flat_map (words_of_option values) (take i table))
    → FindsFirst (words_given (option_text_model (get_or table i d)) texts) (option_map given_word found) → is_some found ≡ false
    → AllByRecursion IsTakenThere (flat_map (words_of_option values) (take (i + 1) table))
more_options values table i d None texts within named first is none =
    more_taken (words_of_option values) table i d within first
    (subst (λ t. AllByRecursion IsTakenThere (words_given (option_text_model (get_or table i d)) t)) named is)
more_options values table i d (Some given) texts within named first is none = absurd (let e : true ≡ false = none in cc)

-- ---- names that are near

near_at : (most : ℕ) (names : List (Bor (List ℕ))) (word : List ℕ) (i : ℕ) → i < length names
    → first_near most (texts_of (take i names)) word ≡ None
    → first_near most (texts_of (take (i + 1) names)) word ≡ first_near most ((get_or names i no_lent_word).now ∷ []) word
near_at most names word i within none =
    let near : List ℕ → Bool = λ name. nat_le (edits_between word name) most in
    let one = (get_or names i no_lent_word).now in
    ap (find near) (map_more (λ name. name.now) names i no_lent_word within)
    ∙ find-append near (texts_of (take i names)) (one ∷ [])
    ∙ ap (λ first. option_or first (find near (one ∷ []))) none

-- A name is near, and none before it is.
pub near_found : (most : ℕ) (names : List (Bor (List ℕ))) (word : List ℕ) (i : ℕ) → i < length names
    → first_near most (texts_of (take i names)) word ≡ None → edits_between word (get_or names i no_lent_word).now ≤ most
    → first_near most (texts_of names) word ≡ Some (get_or names i no_lent_word).now
near_found most names word i within none few =
    let near : List ℕ → Bool = λ name. nat_le (edits_between word name) most in
    let one = (get_or names i no_lent_word).now in
    let found : first_near most (texts_of (take (i + 1) names)) word ≡ Some one =
    near_at most names word i within none ∙ rw (le-leb (edits_between word one) most few) refl in
    ap (find near) (sym (ap (map (λ name. name.now)) (take-append-drop (i + 1) names))
    ∙ map-append (λ name. name.now) (take (i + 1) names) (drop (i + 1) names))
    ∙ find-append near (texts_of (take (i + 1) names)) (texts_of (drop (i + 1) names))
    ∙ ap (λ first. option_or first (find near (texts_of (drop (i + 1) names)))) found

-- It is not.
pub near_not_yet : (most : ℕ) (names : List (Bor (List ℕ))) (word : List ℕ) (i : ℕ) → i < length names
    → first_near most (texts_of (take i names)) word ≡ None → most < edits_between word (get_or names i no_lent_word).now
    → first_near most (texts_of (take (i + 1) names)) word ≡ None
near_not_yet most names word i within none many =
    let one = (get_or names i no_lent_word).now in
    near_at most names word i within none ∙ rw (lt-leb (edits_between word one) most many) refl

-- ---- whether a word is taken

pub true_is_taken : (taken : Bool) (Is : Type 0) → IsTrue taken ↔ Is → taken ≡ true → Is
true_is_taken taken Is says holds = says.0 holds

pub false_is_refused : (taken : Bool) (Is : Type 0) → IsTrue taken ↔ Is → taken ≡ false → ¬ Is
false_is_refused taken Is says fails is = true≢false (sym (says.1 is) ∙ fails)

-- An option with a value exactly for words that are taken.
pub taken_if_some : {T : Type 0} (Is : T → Type 0) (given : Option T) (is_given : Bool) → IfSome given Is → IfNone given (NoneIs Is)
    → is_given ≡ is_some given → IsTrue is_given ↔ ((value : T) × Is value)
taken_if_some Is None is_given some none same = (λ holds. absurd (true≢false (sym holds ∙ same)), λ is. absurd (none is.0 is.1))
taken_if_some Is (Some value) is_given some none same = (λ holds. (value, some), λ is. same)

-- The same, if the value is known by its word.
pub taken_if_known : {T : Type 0} (Is : T → Type 0) (given : Option T) (is_given : Bool) → IfSome given Is
    → ((value : T) → Is value → given ≡ Some value) → is_given ≡ is_some given → IsTrue is_given ↔ ((value : T) × Is value)
taken_if_known Is None is_given some exactly same =
    (λ holds. absurd (true≢false (sym holds ∙ same)), λ is. absurd (let e : None ≡ Some is.0 = exactly is.0 is.1 in cc))
taken_if_known Is (Some value) is_given some exactly same = (λ holds. (value, some), λ is. same)

-- The same for the word for a new payload.
pub payload_is_taken : (word : List ℕ) (given : Option PayloadWord) (is_given : Bool)
    → IfSome given (λ payload. IsPayloadWord word payload.image payload.file.now)
    → IfNone given ((image file : List ℕ) → IsPayloadWord word image file → ⊥) → is_given ≡ is_some given
    → IsTrue is_given ↔ ((image : List ℕ) × (file : List ℕ) × IsPayloadWord word image file)
payload_is_taken word None is_given some none same =
    (λ holds. absurd (true≢false (sym holds ∙ same)), λ is. absurd (none is.0 is.1 is.2))
payload_is_taken word (Some payload) is_given some none same = (λ holds. (payload.image, payload.file.now, some), λ is. same)

-- ---- words that are parsed

-- A word is taken if it is parsed, and not if that fails for another reason than memory.
pub taken_if_parsed : {X : Type 0} (P : X → Type 0) (found : X) → P found → IsTrue true ↔ ((value : X) × P value)
taken_if_parsed P found is = (λ holds. (found, is), λ given. refl)

pub refused_if_bad : {X : Type 0} (P : X → Type 0) (failure : NoRequest) → failure ≡ outcome.Failure BadValue
    → IsFailureOutcome (IsBadValue P) failure → IsTrue false ↔ ((value : X) × P value)
refused_if_bad P failure same fails =
    let none = not_memory (subst (IsFailureOutcome (IsBadValue P)) same fails) in
    (λ holds. absurd (true≢false (sym holds)), λ given. absurd (none given.0 given.1))
  where
    not_memory : IsFailureOutcome (IsBadValue P) (outcome.Failure BadValue) → NoneIs P
    not_memory (inl bad) = bad.1
    not_memory (inr memory) = absurd cc
