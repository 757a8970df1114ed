use Rattle.std.proofs.Common.{◌≡◌, ◌≢◌, ◌∙◌, ◌+◌, ◌<◌, ℕ, suc, zero, Bor, List, [], ◌∷◌, ◌++◌, length, take, get_or}
use Rattle.std.proofs.Common.{map, ap, sym, subst, refl, arith}
use Rattle.std.proofs.Common.{Bool, true, false, true≢false, bytes_eq, Option, None, Some, option_map}
use Rattle.bi_base.specs.Slices.{bytes_of}
use Rattle.std.specs.Prelude.{◌||◌}
use Rattle.std.specs.List.{AllByRecursion, AllZip, list_any}
use Rattle.std.proofs.lemmas.List.{map-append, take_more, length-map, get_or-map}
use Rattle.bi_blob.specs.Layout.{is_among}
use Rattle.bi_base.proofs.ListMembers.{each-append}
use Rattle.bi_blob.specs.Tree.{AreDistinct, IsChildName, IsNew}
use Rattle.bi_blob.proofs.Blobs.OpenNodes.{AreDistinct-push}
use Rattle.bi_fit.specs.Building.{ConfigurationSpecModel, IsConfigurationSpec, configuration_names}
use Rattle.bi_fit.specs.NamedImages.{configuration_spec_model, configuration_spec_models}
use Rattle.bi_fit.specs.declared.building.ConfigurationSpec.{ConfigurationSpec}
use Rattle.bi_fit.specs.declared.key.Key.{Key}
use Rattle.bi_norm.specs.FitBuilding.{ListsOnly}
use Rattle.bootimg.specs.CommandLine.{texts_of, NoneIs}
use Rattle.bootimg.specs.ConfigurationWords.{configuration_model, configuration_models, names_under, AreConfigurations, AreLists}
use Rattle.bootimg.specs.ConfigurationWords.{name_of_word, IsConfigurationWord, IsDefault, IsFirstBadConfiguration, IsListText}
use Rattle.bootimg.specs.Words.{parts_of}
use Rattle.bootimg.specs.OwnTexts.{planned_configuration, planned_configurations, text_named, texts_named}
use Rattle.bootimg.specs.declared.command_line.configurations.ConfigurationWord.{ConfigurationWord}
use Rattle.bootimg.specs.declared.command_line.texts.OwnTexts.{OwnTexts}
use Rattle.bootimg.proofs.CommandLines.{texts_push, zip_push}
use Rattle.bootimg.proofs.KeyLists.{same_listed_names}
use Rattle.bootimg.proofs.ListedTexts.{distinct_here, values_around}

-- A word is one configuration, and words are the configurations that are parsed from them one by one, up to the first that is none.

abbrev pub model_of : (name : List ℕ) (lists : Key → List (List ℕ)) → ConfigurationSpecModel
model_of name lists = record { name = name; description = None; compatible = []; lists = lists }

-- Configurations with the same name and the same lists.
pub equal_models : (name other : List ℕ) (lists others : Key → List (List ℕ)) → name ≡ other → ((key : Key) → lists key ≡ others key) →
    model_of name lists ≡ model_of other others
equal_models name other lists others names same =
    λ i. record { name = names i; description = None; compatible = []; lists = λ key. same key i }

-- A word is one configuration.
pub same_configuration : (word : List ℕ) (one other : ConfigurationWord) → IsConfigurationWord word one → IsConfigurationWord word other →
    configuration_model one ≡ configuration_model other
same_configuration word one other is also =
    let parts : one.name.now ∷ is.first ∷ is.later ≡ other.name.now ∷ also.first ∷ also.later = sym is.parts ∙ also.parts in
    let name : one.name.now ≡ other.name.now = cc in
    let texts : also.first ∷ also.later ≡ is.first ∷ is.later = cc in
    equal_models one.name.now other.name.now (names_under one.lists.items) (names_under other.lists.items) name
    (same_listed_names (is.first ∷ is.later) one.lists.items other.lists.items is.lists.each
    (subst (λ t. AllZip IsListText t other.lists.items) texts also.lists.each))

same_configurations : (words : List (List ℕ)) (ones others : List ConfigurationWord) → AllZip IsConfigurationWord words ones →
    AllZip IsConfigurationWord words others → configuration_models ones ≡ configuration_models others
same_configurations [] [] [] are also = refl
same_configurations [] [] (o ∷ others) are also = absurd also
same_configurations [] (o ∷ ones) others are also = absurd are
same_configurations (w ∷ words) [] others are also = absurd are
same_configurations (w ∷ words) (o ∷ ones) [] are also = absurd also
same_configurations (w ∷ words) (one ∷ ones) (other ∷ others) are also =
    let same = same_configuration w one other are.0 also.0 in
    let later = same_configurations words ones others are.1 also.1 in
    λ i. same i ∷ later i

-- ---- one more word

models_more : (configurations : List ConfigurationWord) (configuration : ConfigurationWord) (later : List ConfigurationWord) →
    configuration_models (configurations ++ configuration ∷ later)
    ≡ configuration_models configurations ++ configuration_model configuration ∷ configuration_models later
models_more configurations configuration later = map-append configuration_model configurations (configuration ∷ later)

names_more : (models : List ConfigurationSpecModel) (model : ConfigurationSpecModel) (later : List ConfigurationSpecModel) →
    configuration_names (models ++ model ∷ later) ≡ configuration_names models ++ model.name ∷ configuration_names later
names_more models model later = map-append (λ (m : ConfigurationSpecModel). m.name) models (model ∷ later)

pub configurations_push : (image_names words : List (List ℕ)) (configurations : List ConfigurationWord) (word : List ℕ)
    (configuration : ConfigurationWord) → AreConfigurations image_names words configurations → IsConfigurationWord word configuration →
    IsConfigurationSpec image_names (configuration_model configuration) →
    IsNew configuration.name.now (configuration_names (configuration_models configurations)) →
    AreConfigurations image_names (words ++ word ∷ []) (configurations ++ configuration ∷ [])
configurations_push image_names words configurations word configuration are is can new =
    let models = configuration_models configurations in
    let model = configuration_model configuration in
    let more = models_more configurations configuration [] in
    record {
      each = zip_push IsConfigurationWord words configurations word configuration are.each is;
      can = subst (AllByRecursion (IsConfigurationSpec image_names)) (sym more)
          (each-append (IsConfigurationSpec image_names) models (model ∷ []) are.can (can, tt));
      distinct = subst (λ all. AreDistinct (configuration_names all)) (sym more)
          (subst AreDistinct (sym (names_more models model []))
          (AreDistinct-push (configuration_names models) configuration.name.now are.distinct new));
    }

-- The word after some is none.
pub no_word : (image_names words : List (List ℕ)) (word : List ℕ) → NoneIs (IsConfigurationWord word) →
    NoneIs (AreConfigurations image_names (words ++ word ∷ []))
no_word image_names words word none others are =
    let around = values_around IsConfigurationWord words word [] others are.each in
    none around.here around.is_here

-- What holds of each, holds of one of them.
each_here : {A : Type 0} (P : A → Type 0) (before : List A) (value : A) (later : List A) →
    AllByRecursion P (before ++ value ∷ later) → P value
each_here P [] value later each = each.0
each_here P (b ∷ before) value later each = each_here P before value later each.1

-- It cannot be built of the images.
pub cannot_build_word : (image_names words : List (List ℕ)) (word : List ℕ) (configuration : ConfigurationWord) →
    IsConfigurationWord word configuration →
    ¬ (IsChildName configuration.name.now × ListsOnly image_names (configuration_model configuration)) →
    NoneIs (AreConfigurations image_names (words ++ word ∷ []))
cannot_build_word image_names words word configuration is fails others are =
    let around = values_around IsConfigurationWord words word [] others are.each in
    let models = ap configuration_models around.is ∙ models_more around.first around.here around.later in
    let can = each_here (IsConfigurationSpec image_names) (configuration_models around.first) (configuration_model around.here)
    (configuration_models around.later) (subst (AllByRecursion (IsConfigurationSpec image_names)) models are.can) in
    let same = same_configuration word around.here configuration around.is_here is in
    let is_spec = subst (IsConfigurationSpec image_names) same can in
    fails (is_spec.is_name, is_spec.of_images)

-- It has the name of one before it.
pub name_twice : (image_names words : List (List ℕ)) (configurations : List ConfigurationWord) (word : List ℕ)
    (configuration : ConfigurationWord) → AreConfigurations image_names words configurations → IsConfigurationWord word configuration →
    (IsNew configuration.name.now (configuration_names (configuration_models configurations)) → ⊥) →
    NoneIs (AreConfigurations image_names (words ++ word ∷ []))
name_twice image_names words configurations word configuration are_before is held others are =
    let around = values_around IsConfigurationWord words word [] others are.each in
    let first = configuration_models around.first in
    let here = configuration_model around.here in
    let later = configuration_models around.later in
    let names = ap (λ all. configuration_names (configuration_models all)) around.is
    ∙ ap configuration_names (models_more around.first around.here around.later) ∙ names_more first here later in
    let new = distinct_here (configuration_names first) here.name (configuration_names later) (subst AreDistinct names are.distinct) in
    let same = same_configuration word around.here configuration around.is_here is in
    let same_first = same_configurations words around.first configurations around.are_first are_before.each in
    held (subst (λ models. IsNew configuration.name.now (configuration_names models)) same_first
    (subst (λ (model : ConfigurationSpecModel). IsNew model.name (configuration_names first)) same new))

-- ---- words

abbrev pub words_to : List (Bor (List ℕ)) → ℕ → List (List ℕ)
words_to words index = texts_of (take index words)

-- Words up to an index.
taken_texts : (words : List (Bor (List ℕ))) (index : ℕ) → take index (texts_of words) ≡ texts_of (take index words)
taken_texts [] zero = refl
taken_texts [] (suc index) = refl
taken_texts (w ∷ words) zero = refl
taken_texts (w ∷ words) (suc index) = ap (λ l. w.now ∷ l) (taken_texts words index)

-- The first bad word.
pub first_bad_word : (image_names : List (List ℕ)) (words : List (Bor (List ℕ))) (index : ℕ) (d : Bor (List ℕ))
    (configurations : List ConfigurationWord) → index < length words → AreConfigurations image_names (words_to words index) configurations →
    NoneIs (AreConfigurations image_names (words_to words index ++ (get_or words index d).now ∷ [])) →
    IsFirstBadConfiguration image_names (texts_of words) index
first_bad_word image_names words index d configurations within are none = record {
  configurations = configurations;
  before = subst (λ w. AreConfigurations image_names w configurations) (sym (taken_texts words index)) are;
  bad = λ others more.
      none others (subst (λ w. AreConfigurations image_names w others)
      (taken_texts words (index + 1) ∙ texts_push words index d within) more);
}

-- One more good word.
pub good_word : (image_names : List (List ℕ)) (words : List (Bor (List ℕ))) (index : ℕ) (d : Bor (List ℕ))
    (configurations next : List ConfigurationWord) (configuration : ConfigurationWord) → index < length words →
    AreConfigurations image_names (words_to words index) configurations → next ≡ configurations ++ configuration ∷ [] →
    IsConfigurationWord (get_or words index d).now configuration →
    IsConfigurationSpec image_names (configuration_model configuration) →
    IsNew configuration.name.now (configuration_names (configuration_models configurations)) →
    AreConfigurations image_names (words_to words (index + 1)) next
good_word image_names words index d configurations next configuration within are more is can new =
    rw (texts_push words index d within, more)
    (configurations_push image_names (words_to words index) configurations (get_or words index d).now configuration are is can new)

-- The names of the configurations so far, and one more.
pub names_next : (configurations next : List ConfigurationWord) (configuration : ConfigurationWord) →
    next ≡ configurations ++ configuration ∷ [] →
    configuration_names (configuration_models configurations) ++ configuration.name.now ∷ []
    ≡ configuration_names (configuration_models next)
names_next configurations next configuration more =
    sym (ap (λ all. configuration_names (configuration_models all)) more
    ∙ ap configuration_names (models_more configurations configuration [])
    ∙ names_more (configuration_models configurations) (configuration_model configuration) [])

-- ---- configurations that are lent

-- The configurations so far were lent, and one more.
pub configuration_lent_next : (texts : OwnTexts) (words : List ConfigurationWord) (index : ℕ) (d : ConfigurationWord)
    (lent next : List ConfigurationSpec) (spec : ConfigurationSpec) → index < length words →
    configuration_spec_models lent ≡ planned_configurations texts (take index words) → next ≡ lent ++ spec ∷ [] →
    configuration_spec_model spec ≡ planned_configuration texts (get_or words index d) →
    configuration_spec_models next ≡ planned_configurations texts (take (index + 1) words)
configuration_lent_next texts words index d lent next spec within are more same =
    ap configuration_spec_models more ∙ map-append configuration_spec_model lent (spec ∷ []) ∙ (λ i. are i ++ same i ∷ [])
    ∙ sym (ap (planned_configurations texts) (take_more words index d within)
    ∙ map-append (planned_configuration texts) (take index words) (get_or words index d ∷ []))

-- The texts at the index of a configuration are its own.
pub compatibles_at : {V : Type 0} (bytes : V → List (List ℕ)) (all : List V) (texts : OwnTexts) (words : List ConfigurationWord)
    (index : ℕ) (one : V) (d : ConfigurationWord) →
    map bytes all ≡ map (λ word. texts_named texts.compatibles.items word.name.now) words → index < length words →
    one ≡ get_or all index one → bytes one ≡ texts_named texts.compatibles.items (get_or words index d).name.now
compatibles_at bytes all texts words index one d same within is =
    let below : index < length all =
    omega (
      arith,
      within,
      ap length same,
      length-map all bytes,
      length-map words (λ (word : ConfigurationWord). texts_named texts.compatibles.items word.name.now),
    ) in
    ap bytes is
    ∙ sym (get_or-map bytes all index one [] below)
    ∙ ap (λ l. get_or l index []) same
    ∙ get_or-map (λ (word : ConfigurationWord). texts_named texts.compatibles.items word.name.now) words index d [] within

-- The configuration with these texts of its own.
pub lent_configuration : (texts : OwnTexts) (word : ConfigurationWord) (spec lent : ConfigurationSpec)
    (description : Option (Bor (List ℕ))) (compatible : Bor (List (Bor (List ℕ)))) →
    configuration_spec_model spec ≡ configuration_model word →
    option_map (λ text. text.now) description ≡ text_named texts.configurations.items word.name.now →
    bytes_of compatible.now ≡ texts_named texts.compatibles.items word.name.now →
    lent ≡ record spec { description = description; compatible = compatible } →
    configuration_spec_model lent ≡ planned_configuration texts word
lent_configuration texts word spec lent description compatible same described are is =
    ap configuration_spec_model is
    ∙ (λ i. record (same i) { description = described i; compatible = are i })

-- ---- a word

-- The word of a name and lists.
pub configuration_of : (word : List ℕ) (configuration : ConfigurationWord) (name : List ℕ) (texts : List (List ℕ)) → texts ≢ [] →
    parts_of word ≡ name ∷ texts → configuration.name.now ≡ name → AreLists texts configuration.lists.items →
    IsConfigurationWord word configuration
configuration_of word configuration name [] some parts same are = absurd (some refl)
configuration_of word configuration name (first ∷ later) some parts same are = record {
  first = first;
  later = later;
  parts = parts ∙ ap (λ n. n ∷ first ∷ later) (sym same);
  lists = are;
}

-- ---- the default

-- A name among those of words.
word_names : (words : List (Bor (List ℕ))) (name : List ℕ) →
    list_any (λ (word : Bor (List ℕ)). bytes_eq (name_of_word word.now) name) words ≡ is_among name (map name_of_word (texts_of words))
word_names [] name = refl
word_names (word ∷ words) name = ap (λ later. bytes_eq (name_of_word word.now) name || later) (word_names words name)

-- A name that no word has is not a default.
pub no_default_word : (words : List (Bor (List ℕ))) (name : List ℕ) (option : Option (List ℕ)) (found : Bool) → Some name ≡ option →
    found ≡ list_any (λ (word : Bor (List ℕ)). bytes_eq (name_of_word word.now) name) words → found ≡ false →
    (value : Option (List ℕ)) → IsDefault (texts_of words) option value → ⊥
no_default_word words name option found same is not value default =
    let given = subst (λ o. IsDefault (texts_of words) o value) (sym same) default in
    true≢false (sym given.1 ∙ sym (word_names words name) ∙ sym is ∙ not)

-- One that a word has is.
pub is_default : (words : List (Bor (List ℕ))) (name bytes : List ℕ) (option : Option (List ℕ)) (found : Bool) → Some name ≡ option →
    found ≡ list_any (λ (word : Bor (List ℕ)). bytes_eq (name_of_word word.now) name) words → found ≡ true → bytes ≡ name →
    IsDefault (texts_of words) option (Some bytes)
is_default words name bytes option found same is holds equal =
    subst (λ o. IsDefault (texts_of words) o (Some bytes)) same
    (ap (λ b. Some b) equal, sym (word_names words name) ∙ sym is ∙ holds)
