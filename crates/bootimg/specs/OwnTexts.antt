use Rattle.std.specs.Prelude.{◌≡◌, ◌≢◌, ℕ, IsTrue, List, [], ◌++◌, codes, filter, map, slice_get}
use Rattle.std.specs.Prelude.{bytes_eq, Option}
use Rattle.std.specs.List.{AllByRecursion, AllZip}
use Rattle.bi_blob.specs.Layout.{is_among}
use Rattle.bi_blob.specs.Tree.{AreDistinct}
use Rattle.bi_fit.specs.Building.{ConfigurationSpecModel}
use Rattle.bi_norm.specs.declared.fit_building.ImageSpec.{ImageSpec}
use Rattle.bootimg.specs.ConfigurationWords.{configuration_model, name_of_word}
use Rattle.bootimg.specs.declared.command_line.configurations.ConfigurationWord.{ConfigurationWord}
use Rattle.bootimg.specs.declared.command_line.texts.NamedText.{NamedText}
use Rattle.bootimg.specs.declared.command_line.texts.OwnTexts.{OwnTexts}

-- The words that give a text to one image or one configuration (profile of this project).

-- The word is this text: a name, which is what it has before its first colon, then a colon, and a
-- text that is not empty.
pub record IsNamedText (word : List ℕ) (named : NamedText) : Type 0 where
  pub name : named.name.now ≡ name_of_word word
  pub is : word ≡ named.name.now ++ (codes ":" ++ named.text.now)
  pub some : named.text.now ≢ []

-- The words are these texts, in their order, each for one of these names.
pub record AreNamedTexts (names words : List (List ℕ)) (texts : List NamedText) : Type 0 where
  pub each : AllZip IsNamedText words texts
  pub known : AllByRecursion (λ word. IsTrue (is_among (name_of_word word) names)) words

-- The words are these descriptions, each for one of these names, and no two for the same name.
pub record AreDescriptions (names words : List (List ℕ)) (given : List NamedText) : Type 0 where
  pub texts : AreNamedTexts names words given
  pub distinct : AreDistinct (map name_of_word words)

-- The texts for a name, in their order.
abbrev pub texts_named : List NamedText → (name : List ℕ) → List (List ℕ)
texts_named texts name =
    map (λ named. named.text.now) (filter (λ named. bytes_eq named.name.now name) texts)

-- The first text for a name, if there is one.
abbrev pub text_named : List NamedText → (name : List ℕ) → Option (List ℕ)
text_named texts name = slice_get (texts_named texts name) 0

-- The configuration to be built, with its own texts.
abbrev pub planned_configuration : OwnTexts → ConfigurationWord → ConfigurationSpecModel
planned_configuration texts configuration = record (configuration_model configuration) {
  description = text_named texts.configurations.items configuration.name.now;
  compatible = texts_named texts.compatibles.items configuration.name.now;
}

-- The configurations to be built.
abbrev pub planned_configurations : OwnTexts → List ConfigurationWord
    → List ConfigurationSpecModel
planned_configurations texts configurations = map (planned_configuration texts) configurations

-- The descriptions of the images to be built.
abbrev pub planned_descriptions : OwnTexts → List ImageSpec → List (Option (List ℕ))
planned_descriptions texts images =
    map (λ image. text_named texts.images.items image.name.now) images
