use Rattle.std.specs.Prelude.{◌≡◌, ◌⊎◌, ◌==◌, ◌+◌, ℕ, IsTrue, List, [], ◌∷◌, ◌++◌, codes, map, take}
use Rattle.std.specs.Prelude.{bytes_eq, Option, None, Some, if◌then◌else◌}
use Rattle.std.specs.List.{AllByRecursion, AllZip, before_first}
use Rattle.bi_base.specs.Slices.{bytes_of}
use Rattle.bi_blob.specs.Layout.{is_among}
use Rattle.bi_blob.specs.Tree.{AreDistinct}
use Rattle.bi_fit.specs.Building.{ConfigurationSpecModel, IsConfigurationSpec, configuration_names}
use Rattle.bi_fit.specs.Names.{key_name}
use Rattle.bi_fit.specs.declared.key.Key.{Key}
use Rattle.bi_hash.specs.Algos.{algorithm_name}
use Rattle.bi_hash.specs.declared.algo.Algo.{Algo}
use Rattle.bi_hash.specs.declared.algo.Algo.TheVariants.{Sha256}
use Rattle.bootimg.specs.Words.{listed_words, parts_of}
use Rattle.bootimg.specs.declared.command_line.configurations.ConfigurationWord.{ConfigurationWord}
use Rattle.bootimg.specs.declared.command_line.configurations.KeyList.{KeyList}

-- The words that plan configurations and hash nodes on the command line (profile of this project).

-- ---- configurations

-- The text is this list: the name of its key, `=`, and names with a comma between each two.
pub record IsListText (text : List ℕ) (list : KeyList) : Type 0 where
  pub names_text : List ℕ
  pub is : text ≡ key_name list.key ++ (codes "=" ++ names_text)
  pub names : bytes_of list.names.items ≡ listed_words names_text

-- The texts are these lists, in their order. No two have the same key.
pub record AreLists (texts : List (List ℕ)) (lists : List KeyList) : Type 0 where
  pub each : AllZip IsListText texts lists
  pub distinct : AreDistinct (map (λ (list : KeyList). key_name list.key) lists)

-- The word is this configuration: its name, and after it at least one list, with a colon before
-- each.
pub record IsConfigurationWord (word : List ℕ) (configuration : ConfigurationWord) : Type 0 where
  pub first : List ℕ
  pub later : List (List ℕ)
  pub parts : parts_of word ≡ configuration.name.now ∷ first ∷ later
  pub lists : AreLists (first ∷ later) configuration.lists.items

-- The names that lists have under a key: none if there is no list with this key.
abbrev pub names_under : List KeyList → Key → List (List ℕ)
names_under [] key = []
names_under (list ∷ later) key =
    if bytes_eq (key_name list.key) (key_name key) then bytes_of list.names.items
    else names_under later key

-- The configuration of the word, without texts of its own.
abbrev pub configuration_model : ConfigurationWord → ConfigurationSpecModel
configuration_model configuration = record {
  name = configuration.name.now;
  description = None;
  compatible = [];
  lists = names_under configuration.lists.items;
}

-- The configurations of the words.
abbrev pub configuration_models : List ConfigurationWord → List ConfigurationSpecModel
configuration_models configurations = map configuration_model configurations

-- The words are these configurations, in their order. Each can be built of images with these names,
-- and no two have the same name.
pub record AreConfigurations (image_names words : List (List ℕ))
    (configurations : List ConfigurationWord) : Type 0 where
  pub each : AllZip IsConfigurationWord words configurations
  pub can : AllByRecursion (IsConfigurationSpec image_names) (configuration_models configurations)
  pub distinct : AreDistinct (configuration_names (configuration_models configurations))

-- The first word that is not a configuration has this index: the words before it are
-- configurations, and with it they are none.
pub record IsFirstBadConfiguration (image_names words : List (List ℕ)) (index : ℕ) : Type 0 where
  pub configurations : List ConfigurationWord
  pub before : AreConfigurations image_names (take index words) configurations
  pub bad : (others : List ConfigurationWord)
      → AreConfigurations image_names (take (index + 1) words) others → ⊥

-- ---- the default configuration

-- What a word has before its first colon, or the word without a colon: the name of its
-- configuration, if it is one.
abbrev pub name_of_word : List ℕ → List ℕ
name_of_word word = before_first (λ byte. byte == 58) word

-- The value of `--default`, if it is given, is the name of this configuration, and one of the words
-- has it.
abbrev pub IsDefault : (words : List (List ℕ)) → Option (List ℕ) → Option (List ℕ) → Type 0
IsDefault words None default = default ≡ None
IsDefault words (Some argument) default =
    (default ≡ Some argument) × IsTrue (is_among argument (map name_of_word words))

-- ---- algorithms

-- The words are the names of these algorithms, in their order, none of them twice.
pub record AreAlgorithms (words : List (List ℕ)) (algorithms : List Algo) : Type 0 where
  pub named : map algorithm_name algorithms ≡ words
  pub distinct : AreDistinct words

-- The text gives these algorithms: none if it is `none`, and else those whose names it lists.
abbrev pub AreHashesOf : (text : List ℕ) → List Algo → Type 0
AreHashesOf text algorithms =
    ((text ≡ codes "none") × (algorithms ≡ [])) ⊎ AreAlgorithms (listed_words text) algorithms

-- The value of `--hash` gives these algorithms. Without the option it is SHA-256.
abbrev pub AreHashes : Option (List ℕ) → List Algo → Type 0
AreHashes None algorithms = algorithms ≡ Sha256 ∷ []
AreHashes (Some text) algorithms = AreHashesOf text algorithms
