use Rattle.std.specs.Prelude.{◌≡◌, ℕ, List, [], ◌∷◌, ◌++◌, Option, None, Some, codes}
use Rattle.std.specs.Prelude.{flat_map, length, map, nat_eq, nat_le, option_map, slice_get}
use Rattle.std.specs.List.{AllByRecursion, find}
use Rattle.std.specs.Str.{chars}
use Rattle.clap.specs.declared.parser.matches.ArgMatches.{ArgMatches}
use Rattle.strsim.specs.Edits.{levenshtein_row}
use Rattle.bootimg.specs.CommandLine.{Gives, NoneIs, list_of, values_of}
use Rattle.bootimg.specs.Words.{parts_of}
use Rattle.bootimg.specs.Table.{place_of_option}
use Rattle.bootimg.specs.TakenWords.{IsTaken, names_taken}
use Rattle.bootimg.specs.declared.codes.CodeField.TheVariants.{Os, Arch, ImageType, Compression}
use Rattle.bootimg.specs.declared.command_line.image.ImageFields.{ImageFields}
use Rattle.bootimg.specs.declared.command_line.refused.GivenWord.{GivenWord}
use Rattle.bootimg.specs.declared.command_line.refused.RefusedWord.{RefusedWord}
use Rattle.bootimg.specs.declared.command_line.table.OptionText.{OptionText}
use Rattle.bootimg.specs.declared.command_line.takes.Place.{Place}
use Rattle.bootimg.specs.declared.command_line.takes.Place.TheVariants as place
use Rattle.bootimg.specs.declared.command_line.takes.Takes.{Takes}
use Rattle.bootimg.specs.declared.command_line.takes.Takes.TheVariants as takes
use Rattle.bootimg.specs.declared.failure.Failure.{Failure}
use Rattle.bootimg.specs.declared.failure.Failure.TheVariants.{BadValue, BadImage}
use Rattle.bootimg.specs.declared.failure.Failure.TheVariants.{BadConfiguration}

-- The word that is the reason for a failure of the arguments: the first one that is not taken where
-- it stands (profile of this project).

-- ---- words

-- Where a word stands: after an option, at an argument, or in a field of the image word at an
-- index.
pub data PlaceModel : Type 0 where
  AtOption : (name : List ℕ) → PlaceModel
  AtArgument : (name : List ℕ) → PlaceModel
  AtField : (index : ℕ) (name : List ℕ) → PlaceModel

abbrev pub place_model : Place → PlaceModel
place_model (place.Option name) = AtOption name.now
place_model (place.Argument name) = AtArgument name.now
place_model (place.Field index name) = AtField index name.now

-- A word with its place, and what is taken there.
pub record GivenWordModel : Type 0 where
  pub place : PlaceModel
  pub takes : Takes
  pub word : List ℕ

abbrev pub given_word : GivenWord → GivenWordModel
given_word given = record {
  place = place_model given.place;
  takes = given.takes;
  word = given.word.now;
}

-- The word is not taken where it stands.
abbrev pub IsRefused : GivenWordModel → Type 0
IsRefused given = ¬ IsTaken given.takes given.word

-- This is the first of these words that is not taken where it stands.
pub record IsFirstRefusedWord (all : List GivenWordModel) (found : GivenWordModel) : Type 0 where
  pub before : List GivenWordModel
  pub later : List GivenWordModel
  pub are : all ≡ before ++ found ∷ later
  pub taken : AllByRecursion (λ given. IsTaken given.takes given.word) before
  pub refused : IsRefused found

-- This is the first, or all are taken.
abbrev pub FindsFirst : List GivenWordModel → Option GivenWordModel → Type 0
FindsFirst all None = AllByRecursion (λ given. IsTaken given.takes given.word) all
FindsFirst all (Some found) = IsFirstRefusedWord all found

-- ---- options and arguments

-- An option or an argument: its name for clap, where its words stand, and which it takes.
pub record OptionTextModel : Type 0 where
  pub id : List ℕ
  pub place : PlaceModel
  pub takes : Takes

-- `--NAME`.
abbrev taking : (name : List ℕ) → Takes → OptionTextModel
taking name takes = record { id = name; place = AtOption name; takes = takes }

-- The options and arguments whose words can be judged one by one, whichever command has them.
abbrev pub taking_options : List OptionTextModel
taking_options =
    taking (codes "os") (takes.Code Os) ∷ taking (codes "arch") (takes.Code Arch)
    ∷ taking (codes "type") (takes.Code ImageType)
    ∷ taking (codes "compression") (takes.Code Compression) ∷ taking (codes "time") takes.Number
    ∷ taking (codes "load") takes.Number ∷ taking (codes "entry") takes.Number
    ∷ record { id = codes "lengths"; place = AtArgument (codes "LEN"); takes = takes.Part }
    ∷ taking (codes "hash") takes.Algorithms ∷ taking (codes "allow") takes.Kinds
    ∷ taking (codes "as") takes.ValueForm ∷ taking (codes "part") takes.Number
    ∷ taking (codes "key") takes.Key ∷ taking (codes "index") takes.Number
    ∷ taking (codes "remove") takes.Removal ∷ taking (codes "set") takes.NewValue
    ∷ taking (codes "payload") takes.NewPayload ∷ taking (codes "ignore") takes.LeftOut
    ∷ taking (codes "compatible") takes.OwnText ∷ taking (codes "describe-config") takes.OwnText
    ∷ taking (codes "describe-image") takes.OwnText
    ∷ record { id = codes "cause"; place = AtArgument (codes "NAME"); takes = takes.Topic }
    ∷ taking (codes "align") takes.Alignment ∷ taking (codes "offset") takes.Number
    ∷ taking (codes "limit") takes.Limit ∷ []

-- An option of the program.
abbrev pub option_text_model : OptionText → OptionTextModel
option_text_model option = record {
  id = option.name.now;
  place = place_model (place_of_option option);
  takes = option.takes;
}

-- These words of an option or an argument.
abbrev pub words_given : OptionTextModel → List (List ℕ) → List GivenWordModel
words_given option words =
    map (λ word. record { place = option.place; takes = option.takes; word = word }) words

-- The words that an option has, and those that all options have, by the values of each name.
abbrev pub option_words : (values : List ℕ → List (List ℕ)) → OptionTextModel → List GivenWordModel
option_words values option = words_given option (values option.id)

abbrev pub all_option_words : (values : List ℕ → List (List ℕ)) → List GivenWordModel
all_option_words values = flat_map (option_words values) taking_options

-- ---- fields of image words

-- The field of this name, of the image word at this index.
abbrev pub field_given : (index : ℕ) → (name : List ℕ) → Takes → (word : List ℕ) → GivenWordModel
field_given index name takes word =
    record { place = AtField index name; takes = takes; word = word }

-- The fields of an image word but its name, which may be any word.
abbrev pub fields_given : ImageFields → (index : ℕ) → List GivenWordModel
fields_given fields index =
    field_given index (codes "TYPE") (takes.Code ImageType) fields.image_type.now
    ∷ field_given index (codes "ARCH") (takes.Code Arch) fields.arch.now
    ∷ field_given index (codes "OS") (takes.Code Os) fields.os.now
    ∷ field_given index (codes "COMPRESSION") (takes.Code Compression) fields.compression.now
    ∷ field_given index (codes "LOAD") takes.Address fields.load.now
    ∷ field_given index (codes "ENTRY") takes.Address fields.entry.now
    ∷ field_given index (codes "LEN") takes.Part fields.length.now ∷ []

-- The image word at this index has these fields.
pub record HasFields (options : ArgMatches) (index : ℕ) (fields : ImageFields) : Type 0 where
  pub argument : List ℕ
  pub is : slice_get (values_of options (codes "images")) index ≡ Some argument
  pub fields_are : parts_of argument ≡ list_of fields

-- What is found for the image word at this index: its first field that is not taken, or none if all
-- are taken, or if it does not have the fields of an image.
pub data FindsField (options : ArgMatches) (index : ℕ)
    (found : Option GivenWordModel) : Type 0 where
  OfFields : (fields : ImageFields) → HasFields options index fields
      → FindsFirst (fields_given fields index) found → FindsField options index found
  NoFields : NoneIs (HasFields options index) → found ≡ None
      → FindsField options index found

-- ---- the reason for a failure

-- A configuration as an option gives it.
abbrev pub configuration_given : (word : List ℕ) → GivenWordModel
configuration_given word = record {
  place = AtOption (codes "config");
  takes = takes.Configuration;
  word = word;
}

-- What is found for a failure of these options.
abbrev pub FindsReason : ArgMatches → Failure → Option GivenWordModel → Type 0
FindsReason options BadValue found = FindsFirst (all_option_words (values_of options)) found
FindsReason options (BadImage index) found = FindsField options index found
FindsReason options (BadConfiguration index) found =
    found ≡ option_map configuration_given (slice_get (values_of options (codes "config")) index)
FindsReason options failure found = found ≡ None

-- ---- names near a word

-- How many characters are inserted, removed or replaced at least to make a name of a word.
abbrev pub edits_between : (word name : List ℕ) → ℕ
edits_between word name =
    levenshtein_row nat_eq (chars word) (chars name) (length (chars name))

-- The first name that at most so many edits make of a word.
abbrev pub first_near : (most : ℕ) → List (List ℕ) → (word : List ℕ) → Option (List ℕ)
first_near most names word = find (λ name. nat_le (edits_between word name) most) names

-- The one, or else the other.
abbrev else_this : Option (List ℕ) → Option (List ℕ) → Option (List ℕ)
else_this None other = other
else_this (Some name) other = Some name

-- The first name that one edit makes of a word, or else the first that two make of it.
abbrev pub near_name : List (List ℕ) → (word : List ℕ) → Option (List ℕ)
near_name names word = else_this (first_near 1 names word) (first_near 2 names word)

-- ---- the refused word

-- A refused word, and the name that is near it.
pub record RefusedWordModel : Type 0 where
  pub given : GivenWordModel
  pub near : Option (List ℕ)

abbrev pub refused_model : RefusedWord → RefusedWordModel
refused_model refused = record {
  given = record {
    place = place_model refused.place;
    takes = refused.takes;
    word = refused.word.now;
  };
  near = option_map (λ name. name.now) refused.near;
}

-- The word, with the name that is near it.
abbrev pub with_near : GivenWordModel → RefusedWordModel
with_near given = record { given = given; near = near_name (names_taken given.takes) given.word }

-- The refused word that is the reason for a failure of these options, if there is one.
abbrev pub FindsRefused : ArgMatches → Failure → Option RefusedWordModel → Type 0
FindsRefused options failure refused =
    (found : Option GivenWordModel) × FindsReason options failure found
    × (refused ≡ option_map with_near found)

-- The same, of arguments that clap accepts.
abbrev pub FindsRefusedWord : List (List ℕ) → Failure → Option RefusedWordModel → Type 0
FindsRefusedWord arguments failure refused =
    (name : List ℕ) × (options : ArgMatches) × Gives arguments name options
    × FindsRefused options failure refused
