use Rattle.std.proofs.Common.{◌≡◌, ◌<◌, ◌+◌, ℕ, Bool, true, false, List, [], ◌∷◌, ◌++◌, Some, get_or, length}
use Rattle.std.proofs.Common.{refl, sym, ap, take, ◌∙◌}
use Rattle.std.specs.Prelude.{◌&&◌, ◌||◌}
use Rattle.std.specs.Borrow.{Bor}
use Rattle.std.specs.List.{list_any}
use Rattle.std.proofs.lemmas.List.{map-append, take_more}
use Rattle.std.proofs.lemmas.List.Folds.{list_any-append}
use Rattle.bi_describe.specs.declared.ignored.Ignored.{Ignored as MadeWord}
use Rattle.bi_describe.specs.declared.ignored.PayloadPlace.{PayloadPlace as MadePlace}
use Rattle.bi_describe.specs.Ignoring.{Ignored, PayloadPlace}
use Rattle.bi_describe.specs.MadeInsides.{has_place, is_one_of_places}
use Rattle.bi_describe.specs.MadeWords.{ignored_word, ignored_words, place_of_payload}
use Rattle.bi_describe.specs.OpenedPayloads.{is_same_payload, is_word_inside}

-- The payloads that are opened are found.

pub no_more : (one : Bool) → (one || false) ≡ one
no_more true = refl
no_more false = refl

both_or : (one other can : Bool) → ((one && can) || (other && can)) ≡ ((one || other) && can)
both_or true true true = refl
both_or true true false = refl
both_or true false true = refl
both_or true false false = refl
both_or false other can = refl

words_more : (p : Ignored → Bool) (words : List MadeWord) (index : ℕ) (word : MadeWord) → word ≡ get_or words index word →
    index < length words →
    list_any p (ignored_words (take (index + 1) words)) ≡ (list_any p (ignored_words (take index words)) || p (ignored_word word))
words_more p words index word is within =
    ap (λ words. list_any p (ignored_words words)) (take_more words index word within)
    ∙ ap (list_any p) (map-append ignored_word (take index words) (get_or words index word ∷ []))
    ∙ list_any-append p (ignored_words (take index words)) (ignored_word (get_or words index word) ∷ [])
    ∙ ap (λ b. list_any p (ignored_words (take index words)) || b) (no_more (p (ignored_word (get_or words index word))))
    ∙ ap (λ word. list_any p (ignored_words (take index words)) || p (ignored_word word)) (sym is)

-- One more word.
pub word_opens : (words : List MadeWord) (index : ℕ) (word : MadeWord) (place : PayloadPlace) (before after own can : Bool) →
    word ≡ get_or words index word → index < length words → own ≡ (is_word_inside place (ignored_word word) && can) →
    before ≡ (list_any (is_word_inside place) (ignored_words (take index words)) && can) → after ≡ (before || own) →
    after ≡ (list_any (is_word_inside place) (ignored_words (take (index + 1) words)) && can)
word_opens words index word place before after own can is within is_own is_before is_after =
    let p = is_word_inside place in
    is_after ∙ (λ i. is_before i || is_own i)
    ∙ both_or (list_any p (ignored_words (take index words))) (p (ignored_word word)) can
    ∙ ap (λ b. b && can) (sym (words_more p words index word is within))

-- One more place.
pub places_more : (places : List (Bor MadePlace)) (place : Bor MadePlace) (payload : PayloadPlace) →
    is_one_of_places (places ++ place ∷ []) payload ≡ (is_one_of_places places payload || has_place payload (Some place))
places_more places place payload =
    list_any-append (λ place. is_same_payload payload (place_of_payload place.now)) places (place ∷ [])
    ∙ ap (λ b. is_one_of_places places payload || b) (no_more (has_place payload (Some place)))
