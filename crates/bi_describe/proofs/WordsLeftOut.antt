use Rattle.std.proofs.Common.{◌≡◌, ℕ, ◌+◌, ◌<◌, Bool, true, false, List, [], ◌∷◌, ◌++◌, Option, None, Some, get_or, length, map, take}
use Rattle.std.proofs.Common.{◌≤◌, refl, sym, ap, ap₂, subst, take_all, ◌∙◌, true≢false}
use Rattle.std.specs.Prelude.{◌||◌, if◌then◌else◌}
use Rattle.std.specs.List.{list_any}
use Rattle.std.specs.Option.{option_map}
use Rattle.std.proofs.lemmas.List.{map-append, take-map, take_more}
use Rattle.std.proofs.lemmas.List.Folds.{list_any-append}
use Rattle.bi_describe.specs.declared.describe.insides.Insides.{Insides as MadeInsides}
use Rattle.bi_describe.specs.declared.ignored.Ignored.{Ignored as MadeWord}
use Rattle.bi_blob.specs.Tree.{with_each_node}
use Rattle.bi_describe.specs.ComparedNodes.{plain_compared}
use Rattle.bi_describe.specs.Devicetrees.{Devicetree, Insides}
use Rattle.bi_describe.specs.Ignoring.{Ignored, PayloadPlace}
use Rattle.bi_describe.specs.MadeInsides.{HoldInsides, HoldsAt, made_tree_at, trees_after, whole_devicetrees, with_tree_at}
use Rattle.bi_describe.specs.MadeWords.{ignored_word, ignored_words}
use Rattle.bi_describe.specs.OpenedPayloads.{is_same_payload, is_word_inside, tree_at_without, words_inside}
use Rattle.bi_describe.specs.ReducedMeanings.{ReducedTree, kept_root}
use Rattle.bi_describe.proofs.NothingLeftOutDeep.{tree_stays}
use Rattle.bi_describe.proofs.OneInside.{place_found, same_place}

-- What words leave out of the trees inside payloads, word by word.

-- The same trees at all places.
pub held_for : (trees others : PayloadPlace → Option ReducedTree) (made : MadeInsides) →
    ((place : PayloadPlace) → trees place ≡ others place) → HoldInsides trees made → HoldInsides others made
held_for trees others made same held place = subst (λ tree. HoldsAt place tree (made_tree_at made place)) (same place) (held place)

-- ---- one more word

or_false : (b : Bool) → (b || false) ≡ b
or_false true = refl
or_false false = refl

word_next : (p : Ignored → Bool) (words : List MadeWord) (index : ℕ) (word : MadeWord) → word ≡ get_or words index word →
    index < length words →
    list_any p (take (index + 1) (ignored_words words)) ≡ (list_any p (take index (ignored_words words)) || p (ignored_word word))
word_next p words index word is within =
    let item = get_or words index word in
    ap (list_any p) (take-map ignored_word (index + 1) words
    ∙ ap (map ignored_word) (take_more words index word within)
    ∙ map-append ignored_word (take index words) (item ∷ []))
    ∙ list_any-append p (map ignored_word (take index words)) (ignored_word item ∷ [])
    ∙ ap₂ (λ (one other : Bool). one || other) (ap (list_any p) (sym (take-map ignored_word index words)))
    (or_false (p (ignored_word item)) ∙ ap (λ word. p (ignored_word word)) (sym is))

abbrev trees_by : List Ignored → Insides → PayloadPlace → Bool → Option ReducedTree
trees_by words insides place b = if b then tree_at_without words insides place else whole_devicetrees insides place

module _ (words : List MadeWord) (index : ℕ) (word : MadeWord) (is : word ≡ get_or words index word) (within : index < length words)
    (insides : Insides) where
  abbrev all : List Ignored
  all = ignored_words words

  next : (place : PayloadPlace) → trees_after all (take (index + 1) all) insides place
      ≡ trees_by all insides place (list_any (is_word_inside place) (take index all) || is_word_inside place (ignored_word word))
  next place = ap (trees_by all insides place) (word_next (is_word_inside place) words index word is within)

  -- It is for nothing inside a payload.
  pub no_word_inside : ((place : PayloadPlace) → is_word_inside place (ignored_word word) ≡ false) → (place : PayloadPlace) →
      trees_after all (take index all) insides place ≡ trees_after all (take (index + 1) all) insides place
  no_word_inside not place =
      sym (next place ∙ ap (λ b. trees_by all insides place (list_any (is_word_inside place) (take index all) || b)) (not place)
      ∙ ap (trees_by all insides place) (or_false (list_any (is_word_inside place) (take index all))))

  -- A word before it is for something inside the same payload.
  pub word_again : (found : PayloadPlace) →
      ((place : PayloadPlace) → is_same_payload place found ≡ is_word_inside place (ignored_word word)) →
      list_any (is_word_inside found) (take index all) ≡ true → (place : PayloadPlace) →
      trees_after all (take index all) insides place ≡ trees_after all (take (index + 1) all) insides place
  word_again found own before place =
      sym (next place ∙ ap (λ b. trees_by all insides place (list_any (is_word_inside place) (take index all) || b)) (sym (own place))
      ∙ ap (trees_by all insides place) (by (is_same_payload place found) refl))
    where
      there : place ≡ found → list_any (is_word_inside place) (take index all) ≡ true
      there same = ap (λ place. list_any (is_word_inside place) (take index all)) same ∙ before

      by : (b : Bool) → is_same_payload place found ≡ b →
          (list_any (is_word_inside place) (take index all) || is_same_payload place found)
          ≡ list_any (is_word_inside place) (take index all)
      by true alike = rw (alike, there (same_place place found alike)) refl
      by false other = rw other (or_false (list_any (is_word_inside place) (take index all)))

  -- It is the first one for something there.
  pub word_first : (found : PayloadPlace) →
      ((place : PayloadPlace) → is_same_payload place found ≡ is_word_inside place (ignored_word word)) →
      list_any (is_word_inside found) (take index all) ≡ false → (place : PayloadPlace) →
      with_tree_at found (tree_at_without all insides found) (trees_after all (take index all) insides) place
      ≡ trees_after all (take (index + 1) all) insides place
  word_first found own before place = by (is_same_payload found place) refl
    where
      here : found ≡ place → tree_at_without all insides found ≡ trees_after all (take (index + 1) all) insides place
      here same =
          ap (tree_at_without all insides) same
          ∙ sym (next place ∙ ap (λ b. trees_by all insides place (list_any (is_word_inside place) (take index all) || b))
          (sym (own place) ∙ place_found place found (sym same)) ∙ ap (trees_by all insides place)
          (or_true (list_any (is_word_inside place) (take index all))))
        where
          or_true : (b : Bool) → (b || true) ≡ true
          or_true true = refl
          or_true false = refl

      other : ((found ≡ place) → ⊥) → (b : Bool) → is_same_payload place found ≡ b →
          trees_after all (take index all) insides place ≡ trees_after all (take (index + 1) all) insides place
      other differs true alike = absurd (differs (sym (same_place place found alike)))
      other differs false unlike =
          sym (next place ∙ ap (λ b. trees_by all insides place (list_any (is_word_inside place) (take index all) || b))
          (sym (own place) ∙ unlike) ∙ ap (trees_by all insides place) (or_false (list_any (is_word_inside place) (take index all))))

      by : (b : Bool) → is_same_payload found place ≡ b →
          (if b then tree_at_without all insides found else trees_after all (take index all) insides place)
          ≡ trees_after all (take (index + 1) all) insides place
      by true alike = here (same_place found place alike)
      by false unlike = other (λ same. true≢false (sym (place_found found place same) ∙ unlike)) (is_same_payload place found) refl

  pub is_whole : (found : PayloadPlace) → list_any (is_word_inside found) (take index all) ≡ false →
      trees_after all (take index all) insides found ≡ whole_devicetrees insides found
  is_whole found before = rw before refl

-- ---- the first and the last

pub none_yet : (words : List Ignored) (insides : Insides) (place : PayloadPlace) →
    whole_devicetrees insides place ≡ trees_after words (take 0 words) insides place
none_yet [] insides place = refl
none_yet (word ∷ words) insides place = refl

no_words : (place : PayloadPlace) (words : List Ignored) → list_any (is_word_inside place) words ≡ false → words_inside place words ≡ []
no_words place [] is = refl
no_words place (word ∷ words) is = by (is_word_inside place word) refl is (λ is. no_words place words is)
  where
    by : (b : Bool) → is_word_inside place word ≡ b → list_any (is_word_inside place) (word ∷ words) ≡ false →
        (list_any (is_word_inside place) words ≡ false → words_inside place words ≡ []) → words_inside place (word ∷ words) ≡ []
    by true alike is rest = absurd (true≢false (rw alike at is))
    by false unlike is rest = rw unlike (rest (rw unlike at is))

whole_if_none : (words : List Ignored) (insides : Insides) (place : PayloadPlace) → list_any (is_word_inside place) words ≡ false →
    whole_devicetrees insides place ≡ tree_at_without words insides place
whole_if_none words insides place none =
    sym (ap (λ inner. option_map (λ (tree : Devicetree). record {
      cpu = tree.cpu;
      reservations = tree.reservations;
      root = kept_root inner (with_each_node plain_compared tree.root);
    }) (insides place)) (no_words place words none) ∙ tree_stays place (insides place))

pub all_left_out : (words : List Ignored) (index : ℕ) (insides : Insides) → length words ≤ index → (place : PayloadPlace) →
    trees_after words (take index words) insides place ≡ tree_at_without words insides place
all_left_out words index insides past place =
    ap (λ first. trees_after words first insides place) (take_all index words past)
    ∙ by (list_any (is_word_inside place) words) refl
  where
    by : (b : Bool) → list_any (is_word_inside place) words ≡ b → trees_by words insides place b ≡ tree_at_without words insides place
    by true is = refl
    by false is = whole_if_none words insides place is
