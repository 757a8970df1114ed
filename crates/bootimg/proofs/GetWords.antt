use Rattle.std.proofs.Common.{◌≡◌, ◌∙◌, ◌<◌, ◌≤◌, ◌+◌, ℕ, Bor, List, [], ◌∷◌, ◌++◌, drop, flat_map, get_or, length, map, take}
use Rattle.std.proofs.Common.{ap, ap₂, arith, sym}
use Rattle.std.proofs.lemmas.List.{drop-drop, drop-map, drop_at, drop_more, length-append, length-drop, length-map, map-append, take_more}
use Rattle.bi_values.specs.ValueNames.{FieldAt, ValueNameModel, value_name_model, value_name_models, words_of_value}
use Rattle.bi_values.specs.declared.value_name.HeaderField.TheVariants as field
use Rattle.bi_values.specs.declared.value_name.ValueName.{ValueName}
use Rattle.bootimg.specs.CommandLine.{texts_of}
use Rattle.bootimg.specs.ValueWords.{texts_of_value}
use Rattle.bootimg.specs.declared.command_line.values.ValueWords.{ValueWords}

-- The words of names of values, one name after the other.

-- The words of the names from this one on.
pub words_from : (names : List ValueName) (index : ℕ) (name : ValueName) → index < length names → name ≡ get_or names index name →
    flat_map words_of_value (value_name_models (drop index names))
    ≡ words_of_value (value_name_model name) ++ flat_map words_of_value (value_name_models (drop (index + 1) names))
words_from names index name within is =
    ap (λ rest. flat_map words_of_value (value_name_models rest))
    (drop_more names index name within ∙ ap (λ one. one ∷ drop (index + 1) names) (sym is))

-- The words for one more name.
pub words_push : (found : List ValueWords) (first : ValueWords) (names : List ValueName) (index : ℕ) (name : ValueName) →
    index < length names → name ≡ get_or names index name →
    map texts_of_value found ≡ map words_of_value (value_name_models (take index names)) →
    texts_of_value first ≡ words_of_value (value_name_model name) →
    map texts_of_value (found ++ first ∷ []) ≡ map words_of_value (value_name_models (take (index + 1) names))
words_push found first names index name within is so_far first_is =
    map-append texts_of_value found (first ∷ [])
    ∙ ap₂ (λ before one. before ++ one ∷ []) so_far first_is
    ∙ sym (ap (λ some. map words_of_value (value_name_models some))
    (take_more names index name within ∙ ap (λ one. take index names ++ one ∷ []) (sym is))
    ∙ ap (map words_of_value) (map-append value_name_model (take index names) (name ∷ []))
    ∙ map-append words_of_value (value_name_models (take index names)) (value_name_model name ∷ []))

-- The words after the first ones.
pub later_words : (words : List (Bor (List ℕ))) (at count : ℕ) (first later : List (List ℕ)) → texts_of (drop at words) ≡ first ++ later →
    count ≡ length first → at ≤ length words → (texts_of (drop (at + count) words) ≡ later) × (at + count ≤ length words)
later_words words at count first later are counted within =
    let text = λ (word : Bor (List ℕ)). word.now in
    let some = length-drop at words in
    let all = length-map (drop at words) text in
    let both = ap length are ∙ length-append first later in (
      sym (drop-map text (at + count) words) ∙ sym (drop-drop count at (map text words))
          ∙ ap (drop count) (drop-map text at words ∙ are) ∙ drop_at first later count (sym counted),
      omega (arith, some, all, both, counted, within),
    )

-- Two names, for what is known.
abbrev pub load_and_name : List ValueNameModel
load_and_name = FieldAt field.Load ∷ FieldAt field.Name ∷ []
