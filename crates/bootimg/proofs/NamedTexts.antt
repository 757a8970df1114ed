use Rattle.std.proofs.Common.{◌≡◌, ◌==◌, ◌∙◌, ◌+◌, ◌<◌, ℕ, Bor, List, [], ◌∷◌, ◌++◌, length, take, drop, get_or, map, codes, ap, refl}
use Rattle.std.proofs.Common.{sym, subst, suc, true}
use Rattle.std.proofs.Common.{add-one, arith}
use Rattle.std.specs.List.{AllByRecursion, AllZip, after_first, position_or_len}
use Rattle.std.proofs.Math.Seq.{drop-cons}
use Rattle.std.proofs.lemmas.List.{map-append, take-append-drop, length-append, length-take, length-drop}
use Rattle.bi_base.proofs.ListMembers.{each-append}
use Rattle.bi_blob.specs.Layout.{is_among}
use Rattle.bi_blob.specs.Tree.{AreDistinct, IsNew}
use Rattle.bootimg.specs.CommandLine.{texts_of, NoneIs}
use Rattle.bootimg.specs.ConfigurationWords.{name_of_word}
use Rattle.bootimg.specs.OwnTexts.{AreNamedTexts, IsNamedText}
use Rattle.bootimg.specs.declared.command_line.texts.NamedText.{NamedText}
use Rattle.bootimg.proofs.CommandLines.{texts_push, zip_push}
use Rattle.bootimg.proofs.ListedTexts.{distinct_here, values_around}

-- A word is at most one text for a name, and words are the texts that are parsed from them one by one.

-- A word without a colon is no text.
pub without_colon : (word : List ℕ) → position_or_len (λ byte. byte == 58) word ≡ length word → NoneIs (IsNamedText word)
without_colon word all named is =
    let whole = ap length is.name ∙ length-take (position_or_len (λ byte. byte == 58) word) word in
    omega (arith, whole, all, ap length is.is, length-append named.name.now (codes ":" ++ named.text.now))

-- A word with nothing after its first colon is none either.
no_bytes : (bytes : List ℕ) → length bytes ≡ 0 → bytes ≡ []
no_bytes [] none = refl
no_bytes (byte ∷ bytes) none = absurd (omega (arith, none))

pub nothing_after_colon : (word : List ℕ) → position_or_len (λ byte. byte == 58) word < length word →
    length (after_first (λ byte. byte == 58) word) ≡ 0 → NoneIs (IsNamedText word)
nothing_after_colon word within none named is =
    let name = ap length is.name ∙ length-take (position_or_len (λ byte. byte == 58) word) word in
    is.some (no_bytes named.text.now
    (omega (
      arith,
      name,
      within,
      none,
      ap length is.is,
      length-append named.name.now (codes ":" ++ named.text.now),
      length-drop (position_or_len (λ byte. byte == 58) word + 1) word,
    )))

-- The text of a word is what it has after its first colon.
after_next : (name text : List ℕ) → drop (suc (length name)) (name ++ (codes ":" ++ text)) ≡ text
after_next [] text = refl
after_next (byte ∷ name) text = after_next name text

after_name : (name text : List ℕ) → drop (length name + 1) (name ++ (codes ":" ++ text)) ≡ text
after_name name text = rw add-one (after_next name text)

pub text_after_colon : (word : List ℕ) (named : NamedText) → IsNamedText word named → named.text.now ≡ after_first (λ byte. byte == 58) word
text_after_colon word named is =
    let place = position_or_len (λ byte. byte == 58) word in
    let size : length named.name.now ≡ place =
    omega (arith, ap length is.name, length-take place word, ap length is.is, length-append named.name.now (codes ":" ++ named.text.now)) in
    sym (ap (λ n. drop (n + 1) word) (sym size) ∙ ap (drop (length named.name.now + 1)) is.is
    ∙ after_name named.name.now named.text.now)

-- ---- words

-- Words are those before one, it, and those after it.
pub words_cut : (words : List (Bor (List ℕ))) (index : ℕ) (d : Bor (List ℕ)) → index < length words →
    texts_of words ≡ texts_of (take index words) ++ (get_or words index d).now ∷ texts_of (drop (index + 1) words)
words_cut words index d within =
    let cut : drop index words ≡ get_or words index d ∷ drop (index + 1) words = rw add-one (drop-cons words index d within) in
    ap texts_of (sym (take-append-drop index words))
    ∙ ap (λ later. texts_of (take index words ++ later)) cut
    ∙ map-append (λ (word : Bor (List ℕ)). word.now) (take index words) (get_or words index d ∷ drop (index + 1) words)

-- If one of them is no text, they are none.
pub no_texts : (names : List (List ℕ)) (words : List (Bor (List ℕ))) (index : ℕ) (d : Bor (List ℕ)) → index < length words →
    NoneIs (IsNamedText (get_or words index d).now) → NoneIs (AreNamedTexts names (texts_of words))
no_texts names words index d within none texts are =
    let cut = words_cut words index d within in
    let around = values_around IsNamedText (texts_of (take index words)) (get_or words index d).now (texts_of (drop (index + 1) words))
    texts (subst (λ words. AllZip IsNamedText words texts) cut are.each) in
    none around.here around.is_here

-- What holds of each, holds of one of them.
each_here : (P : List ℕ → Type 0) (before : List (List ℕ)) (word : List ℕ) (later : List (List ℕ)) →
    AllByRecursion P (before ++ word ∷ later) → P word
each_here P [] word later each = each.0
each_here P (b ∷ before) word later each = each_here P before word later each.1

pub each_word : (P : List ℕ → Type 0) (words : List (Bor (List ℕ))) (index : ℕ) (d : Bor (List ℕ)) → index < length words →
    AllByRecursion P (texts_of words) → P (get_or words index d).now
each_word P words index d within each =
    each_here P (texts_of (take index words)) (get_or words index d).now (texts_of (drop (index + 1) words))
    (subst (AllByRecursion P) (words_cut words index d within) each)

-- The names of words, and of one more.
pub word_names_more : (words : List (Bor (List ℕ))) (index : ℕ) (d : Bor (List ℕ)) → index < length words →
    map name_of_word (texts_of (take (index + 1) words))
    ≡ map name_of_word (texts_of (take index words)) ++ name_of_word (get_or words index d).now ∷ []
word_names_more words index d within =
    ap (map name_of_word) (texts_push words index d within)
    ∙ map-append name_of_word (texts_of (take index words)) ((get_or words index d).now ∷ [])

-- Of distinct names each is new among those before it.
pub new_word_name : (words : List (Bor (List ℕ))) (index : ℕ) (d : Bor (List ℕ)) → index < length words →
    AreDistinct (map name_of_word (texts_of words)) →
    IsNew (name_of_word (get_or words index d).now) (map name_of_word (texts_of (take index words)))
new_word_name words index d within distinct =
    distinct_here (map name_of_word (texts_of (take index words))) (name_of_word (get_or words index d).now)
    (map name_of_word (texts_of (drop (index + 1) words)))
    (subst AreDistinct
    (ap (map name_of_word) (words_cut words index d within)
    ∙ map-append name_of_word (texts_of (take index words)) ((get_or words index d).now ∷ texts_of (drop (index + 1) words))) distinct)

-- One more text.
pub named_texts_push : (names : List (List ℕ)) (words : List (Bor (List ℕ))) (index : ℕ) (d : Bor (List ℕ))
    (texts next : List NamedText) (named : NamedText) → index < length words →
    AreNamedTexts names (texts_of (take index words)) texts → next ≡ texts ++ named ∷ [] →
    IsNamedText (get_or words index d).now named → is_among (name_of_word (get_or words index d).now) names ≡ true →
    AreNamedTexts names (texts_of (take (index + 1) words)) next
named_texts_push names words index d texts next named within are more is known =
    rw (texts_push words index d within, more) (record {
      each = zip_push IsNamedText (texts_of (take index words)) texts (get_or words index d).now named are.each is;
      known = each-append (λ word. is_among (name_of_word word) names ≡ true) (texts_of (take index words))
          ((get_or words index d).now ∷ []) are.known (known, tt);
    })
