use Rattle.std.specs.Prelude.{◌≡◌, ◌++◌, ℕ, List, [], ◌∷◌, Option, None, Some, codes, map}
use Rattle.std.specs.Prelude.{option_map}
use Rattle.bi_fit.specs.Building.{ConfigurationSpecModel}
use Rattle.bi_fit.specs.declared.key.Key.TheVariants.{Kernel, Fdt, Ramdisk, Firmware, Loadables}
use Rattle.bi_fit.specs.declared.key.Key.TheVariants.{Script}
use Rattle.bi_hash.specs.declared.algo.Algo.{Algo}
use Rattle.bi_hash.specs.declared.algo.Algo.TheVariants.{Crc32, Sha1, Sha256}
use Rattle.bi_norm.specs.FitBuilding.{ImageTextsModel, image_texts_model}
use Rattle.bootimg.specs.CommandLine.{IsFitPlanFailure, IsImageText, IsTaskFailure, NoneIs}
use Rattle.bootimg.specs.CommandLine.{AreOwnTexts, option_of, values_of}
use Rattle.bi_commands.specs.KnownChoices.{lent}
use Rattle.bootimg.specs.ConfigurationWords.{AreConfigurations, AreHashes, IsDefault}
use Rattle.bootimg.specs.ConfigurationWords.{IsFirstBadConfiguration, configuration_models}
use Rattle.bootimg.specs.KnownRequests.{HoldsFor, IsOnlyOne}
use Rattle.bootimg.specs.OwnTexts.{AreDescriptions, AreNamedTexts, text_named, texts_named}
use Rattle.bootimg.specs.declared.command_line.texts.NamedText.{NamedText}
use Rattle.bootimg.specs.declared.command_line.configurations.ConfigurationWord.{ConfigurationWord}
use Rattle.bootimg.specs.declared.command_line.image.ImageWord.{ImageWord}
use Rattle.bootimg.specs.declared.failure.Failure.{Failure}
use Rattle.bootimg.specs.declared.failure.Failure.TheVariants.{BadConfiguration, BadImage, BadValue}
use Rattle.bootimg.specs.declared.failure.Failure.TheVariants.{NoChange}

-- What small command lines of `build-fit` request, and which of two failures they have, by which a
-- reader can judge the definitions.

-- This one is one of these, and no other is.
abbrev pub IsTheOne : {T : Type 0} → (Is : T → Type 0) → (wanted : T) → Type 0
IsTheOne Is wanted = Is wanted × IsOnlyOne Is wanted

-- ---- hash nodes

-- `--hash` of this command line gives these algorithms, and no others; or it gives none.
abbrev pub GivesHashes : (line : List ℕ) → List Algo → Type 0
GivesHashes line algorithms = HoldsFor line (codes "build-fit")
    (λ options. IsTheOne (AreHashes (option_of options (codes "hash"))) algorithms)

abbrev pub HasBadHashes : (line : List ℕ) → Type 0
HasBadHashes line = HoldsFor line (codes "build-fit")
    (λ options. NoneIs (AreHashes (option_of options (codes "hash"))))

-- The algorithms of hash nodes: SHA-256 without the option, none for `none`, and those that are
-- listed, in their order. A name that is unknown, empty or there twice is bad, and so is `none`
-- among others.
pub record HashOptionsAreKnown : Type 0 where
  pub no_option : GivesHashes (codes "build-fit") (Sha256 ∷ [])
  pub none : GivesHashes (codes "build-fit --hash none") []
  pub one : GivesHashes (codes "build-fit --hash sha256") (Sha256 ∷ [])
  pub two : GivesHashes (codes "build-fit --hash sha1,crc32") (Sha1 ∷ Crc32 ∷ [])
  pub twice : HasBadHashes (codes "build-fit --hash md5,md5")
  pub unknown : HasBadHashes (codes "build-fit --hash md4")
  pub empty : HasBadHashes (codes "build-fit --hash sha1,")
  pub none_and_one : HasBadHashes (codes "build-fit --hash none,sha1")

-- ---- configurations

-- A configuration with what it lists under kernel, fdt, ramdisk, firmware, loadables and script, in
-- this order.
abbrev pub listed_by : ConfigurationSpecModel → List ℕ × List (List (List ℕ))
listed_by configuration = (
  configuration.name,
  configuration.lists Kernel ∷ configuration.lists Fdt ∷ configuration.lists Ramdisk
      ∷ configuration.lists Firmware ∷ configuration.lists Loadables
      ∷ configuration.lists Script ∷ [],
)

-- The images `k`, `f` and `g`.
abbrev pub three_names : List (List ℕ)
three_names = codes "k" ∷ codes "f" ∷ codes "g" ∷ []

-- A command line with two configurations of these images, of which the second is the default.
abbrev pub line_of_two : List ℕ
line_of_two =
    codes "build-fit --config a:kernel=k:fdt=f,g --config b=1:firmware=k:loadables=g,g:ramdisk=f "
    ++ codes "--default b=1"

-- The words of `--config` of this command line are configurations of these images, and list these
-- names.
abbrev pub GivesConfigurations : (line : List ℕ) → (image_names : List (List ℕ))
    → List (List ℕ × List (List (List ℕ))) → Type 0
GivesConfigurations line image_names listed = HoldsFor line (codes "build-fit")
    (λ options. (configurations : List ConfigurationWord)
    → AreConfigurations image_names (values_of options (codes "config")) configurations
    → map listed_by (configuration_models configurations) ≡ listed)

-- The first bad word of `--config` of this command line, with images of these names, has this
-- index.
abbrev pub HasBadConfiguration : (line : List ℕ) → (image_names : List (List ℕ)) → (index : ℕ)
    → Type 0
HasBadConfiguration line image_names index = HoldsFor line (codes "build-fit")
    (λ options.
    IsTheOne (IsFirstBadConfiguration image_names (values_of options (codes "config"))) index)

-- `--default` of this command line gives this configuration, or none.
abbrev pub GivesDefault : (line : List ℕ) → Option (List ℕ) → Type 0
GivesDefault line default = HoldsFor line (codes "build-fit")
    (λ options.
    IsTheOne (IsDefault (values_of options (codes "config")) (option_of options (codes "default")))
    default)

-- Configurations keep their order, and each list is under its key, in its order. A word without a
-- list is bad, and so are one with an unknown key, one with a key twice, one that lists an image
-- that is not there, and the second one of a name. The first of two is reported.
pub record ConfigurationsAreKnown : Type 0 where
  pub two : GivesConfigurations line_of_two three_names
      ((
        codes "a",
        (codes "k" ∷ []) ∷ (codes "f" ∷ codes "g" ∷ []) ∷ [] ∷ [] ∷ [] ∷ [] ∷ [],
      )
      ∷ (
        codes "b=1",
        [] ∷ [] ∷ (codes "f" ∷ []) ∷ (codes "k" ∷ []) ∷ (codes "g" ∷ codes "g" ∷ []) ∷ [] ∷ [],
      )
      ∷ [])
  pub script : GivesConfigurations (codes "build-fit --config a:script=k") three_names
      ((codes "a", [] ∷ [] ∷ [] ∷ [] ∷ [] ∷ (codes "k" ∷ []) ∷ []) ∷ [])
  pub no_list : HasBadConfiguration (codes "build-fit --config a") three_names 0
  pub unknown_key : HasBadConfiguration (codes "build-fit --config a:dtb=f") three_names 0
  pub key_twice : HasBadConfiguration (codes "build-fit --config a:fdt=f:fdt=g") three_names 0
  pub first_of_two : HasBadConfiguration (codes "build-fit --config a --config b") three_names 0
  pub no_image : HasBadConfiguration
      (codes "build-fit --config a:kernel=k --config b:kernel=z") three_names 1
  pub name_twice : HasBadConfiguration
      (codes "build-fit --config a:kernel=k --config a:fdt=f") three_names 1
  pub default : GivesDefault line_of_two (Some (codes "b=1"))
  pub no_default : GivesDefault (codes "build-fit --config a:kernel=k") None
  pub bad_default : HoldsFor (codes "build-fit --config a:kernel=k --default b")
      (codes "build-fit")
      (λ options. NoneIs
      (IsDefault (values_of options (codes "config")) (option_of options (codes "default"))))

-- ---- texts of one image or one configuration

-- A name with each of its texts.
abbrev pub pairs_of : List NamedText → List (List ℕ × List ℕ)
pairs_of texts = map (λ named. (named.name.now, named.text.now)) texts

-- There are such texts, and they are these.
abbrev pub AreKnownTexts : (Are : List NamedText → Type 0) → List (List ℕ × List ℕ) → Type 0
AreKnownTexts Are pairs =
    ((texts : List NamedText) × Are texts)
    × ((texts : List NamedText) → Are texts → pairs_of texts ≡ pairs)

-- The names of these two configurations, or of these two images, and words without them.
abbrev pub two_names : List (List ℕ)
two_names = codes "a" ∷ codes "b" ∷ []

-- `--compatible` of this command line has a bad value, or one of the options for descriptions has.
abbrev pub HasBadTexts : (line : List ℕ) → Type 0
HasBadTexts line = HoldsFor line (codes "build-fit") (λ options. NoneIs (AreOwnTexts options))

-- The texts of small words. A name has no colon, and a text may have one. A word without a colon
-- is bad, and so are one without a text, one for a name that is not there, and a second description
-- for one name.
pub record NamedTextsAreKnown : Type 0 where
  pub none : AreKnownTexts (AreNamedTexts two_names []) []
  pub in_order : AreKnownTexts
      (AreNamedTexts two_names (codes "b:x" ∷ codes "a:acme,one" ∷ codes "b:y:z" ∷ []))
      ((codes "b", codes "x") ∷ (codes "a", codes "acme,one") ∷ (codes "b", codes "y:z") ∷ [])
  pub descriptions : AreKnownTexts
      (AreDescriptions two_names (codes "b:x" ∷ codes "a:: " ∷ []))
      ((codes "b", codes "x") ∷ (codes "a", codes ": ") ∷ [])
  pub no_colon : NoneIs (AreNamedTexts two_names (codes "a" ∷ []))
  pub no_text : NoneIs (AreNamedTexts two_names (codes "b:x" ∷ codes "a:" ∷ []))
  pub other_name : NoneIs (AreNamedTexts two_names (codes "z:x" ∷ []))
  pub twice : NoneIs (AreDescriptions two_names (codes "a:x" ∷ codes "b:x" ∷ codes "a:y" ∷ []))

-- Command lines with bad words, each for a configuration of `--config` or for an image.
pub record OwnTextOptionsAreKnown : Type 0 where
  pub no_colon : HasBadTexts (codes "build-fit --config a --compatible a")
  pub no_text : HasBadTexts (codes "build-fit --config a --compatible a:")
  pub no_configuration : HasBadTexts (codes "build-fit --config a --compatible k:x k:kernel")
  pub not_described : HasBadTexts (codes "build-fit --config a --describe-config k:x k:kernel")
  pub described_twice :
      HasBadTexts (codes "build-fit --config a --describe-config a:x --describe-config a:x")
  pub no_image : HasBadTexts (codes "build-fit --config a --describe-image a:x k:kernel")
  pub image_twice : HasBadTexts (codes "build-fit --describe-image k:x --describe-image k:y k:z")

-- A text for a name.
abbrev pub text_for_name : (name text : List ℕ) → NamedText
text_for_name name text = record { name = lent name; text = lent text }

-- Texts for `a` and for `b`.
abbrev pub some_texts : List NamedText
some_texts =
    text_for_name (codes "b") (codes "x") ∷ text_for_name (codes "a") (codes "y")
    ∷ text_for_name (codes "b") (codes "z") ∷ []

-- Each name has its own texts, in their order, and as a description the first of them.
pub record TextsOfNamesAreKnown : Type 0 where
  pub first : texts_named some_texts (codes "a") ≡ codes "y" ∷ []
  pub second : texts_named some_texts (codes "b") ≡ codes "x" ∷ codes "z" ∷ []
  pub none : texts_named some_texts (codes "c") ≡ []
  pub described : text_named some_texts (codes "b") ≡ Some (codes "x")
  pub not_described : text_named some_texts (codes "c") ≡ None

-- ---- texts of image nodes

-- The texts in the node of the image of this word.
abbrev pub HasNodeTexts : (word : List ℕ) → Option ImageTextsModel → Type 0
HasNodeTexts word texts = (image : ImageWord) → IsImageText word image
    → option_map image_texts_model image.texts ≡ texts

-- A name stays in the image node, and a number is the name that a listing has. There is no text for
-- a number without a name, and none for a multi-file image.
pub record NodeTextsAreKnown : Type 0 where
  pub names : HasNodeTexts (codes "k:kernel:powerpc:linux:gzip:-:-:5")
      (Some (record {
        image_type = codes "kernel";
        arch = codes "powerpc";
        os = codes "linux";
        compression = codes "gzip";
      }))
  pub numbers : HasNodeTexts (codes "k:2:7:5:1:-:-:5")
      (Some (record {
        image_type = codes "kernel";
        arch = codes "ppc";
        os = codes "linux";
        compression = codes "gzip";
      }))
  pub no_name : HasNodeTexts (codes "k:2:255:5:1:-:-:5") None
  pub multi_file : HasNodeTexts (codes "k:multi:7:5:1:-:-:5") None

-- ---- the first of two failures

-- This command line of `build-fit` gives no plan, for this reason alone.
abbrev pub HasPlanFailure : (line : List ℕ) → Failure → Type 0
HasPlanFailure line failure =
    HoldsFor line (codes "build-fit") (λ options. IsTheOne (IsFitPlanFailure options) failure)

-- The options of this command line of this command are not a task, for this reason alone.
abbrev pub HasTaskFailure : (line name : List ℕ) → Failure → Type 0
HasTaskFailure line name failure =
    HoldsFor line name (λ options. IsTheOne (IsTaskFailure name options) failure)

-- A bad value is reported before a bad image, and a bad image before a bad configuration. The first
-- of two bad images is reported. An update without a change is reported before a bad alignment.
pub record FirstFailuresAreKnown : Type 0 where
  pub time_before_image : HasPlanFailure (codes "build-fit --time x a") BadValue
  pub hash_before_image : HasPlanFailure (codes "build-fit --hash md4 a") BadValue
  pub default_before_image : HasPlanFailure (codes "build-fit --default c a") BadValue
  pub form_before_image : HasPlanFailure (codes "build-fit --align 4 a") BadValue
  pub compatible_before_image :
      HasPlanFailure (codes "build-fit --config c --compatible d:x a") BadValue
  pub description_before_image : HasPlanFailure (codes "build-fit --describe-image b:x a") BadValue
  pub image_after_description :
      HasPlanFailure (codes "build-fit --describe-image a:x a") (BadImage 0)
  pub image_before_configuration : HasPlanFailure (codes "build-fit --config c a") (BadImage 0)
  pub first_image : HasPlanFailure (codes "build-fit a b") (BadImage 0)
  pub second_image : HasPlanFailure (codes "build-fit k:kernel:arm:linux:none:-:-:5 b a")
      (BadImage 1)
  pub configuration : HasPlanFailure
      (codes "build-fit --config c k:kernel:arm:linux:none:-:-:5") (BadConfiguration 0)
  pub limit_before_image : HasTaskFailure (codes "build-fit --limit 1 a") (codes "build-fit")
      BadValue
  pub image_of_task : HasTaskFailure (codes "build-fit a") (codes "build-fit") (BadImage 0)
  pub change_before_form : HasTaskFailure (codes "update --align 3") (codes "update") NoChange
  pub form_of_update : HasTaskFailure (codes "update --time 1 --align 3") (codes "update") BadValue
