use Rattle.std.specs.Prelude.{◌≡◌, ℕ, true, false, List, [], ◌∷◌, Some, codes, map}
use Rattle.std.specs.Prelude.{option_map, ◌++◌}
use Rattle.bi_base.specs.Limits.{Limits}
use Rattle.bootimg.specs.KnownWords.{words_of_line}
use Rattle.bi_commands.specs.KnownChoices.{lent}
use Rattle.bi_legacy.specs.KnownFaults.{limited_to}
use Rattle.clap.specs.Faults.{fault_of}
use Rattle.clap.specs.Simple.{subcommand_of}
use Rattle.clap.specs.declared.error.kind.ErrorKind.TheVariants.{ArgumentConflict, InvalidValue}
use Rattle.clap.specs.declared.error.kind.ErrorKind.TheVariants.{MissingRequiredArgument}
use Rattle.clap.specs.declared.error.kind.ErrorKind.TheVariants.{MissingSubcommand}
use Rattle.clap.specs.declared.error.kind.ErrorKind.TheVariants.{UnknownArgument}
use Rattle.clap.specs.declared.parser.matches.ArgMatches.{ArgMatches}
use Rattle.bootimg.specs.CodeWords.{IsCode}
use Rattle.bootimg.specs.CommandLine.{Gives, IsLimits, NoneIs, reads_input, texts_of, values_of}
use Rattle.bootimg.specs.Numbers.{IsNumber}
use Rattle.bootimg.specs.Program.{program_app}
use Rattle.bootimg.specs.declared.codes.CodeField.{CodeField}
use Rattle.bootimg.specs.declared.codes.CodeField.TheVariants.{Os, Arch, ImageType, Compression}
use Rattle.bootimg.specs.declared.command_line.part.PartSource.TheVariants.{Input, File}

-- Small command lines with what they give, by which a reader can judge the definitions.

-- ---- options

-- An option or a positional argument, and its values.
abbrev pub ValuesOf : Type 0
ValuesOf = List ℕ × List (List ℕ)

abbrev pub without_value : (id : List ℕ) → ValuesOf
without_value id = (id, [])

abbrev pub with_value : (id value : List ℕ) → ValuesOf
with_value id value = (id, value ∷ [])

-- clap accepts a command line, whose words have a space between each two. It gives this command
-- these values.
pub record GivesValues (line name : List ℕ) (values : List ValuesOf) : Type 0 where
  pub is_accepted : fault_of program_app (words_of_line line) ≡ []
  pub is_name : option_map (λ command. command.0) (subcommand_of program_app (words_of_line line))
      ≡ Some name
  pub are_values : (options : ArgMatches) → Gives (words_of_line line) name options
      → map (λ entry. (entry.0, values_of options entry.0)) values ≡ values

-- The default of `--limit`.
abbrev pub default_limit : ValuesOf
default_limit = with_value (codes "limit") (codes "2147483647")

-- What a command on one image has without options.
abbrev pub only_defaults : List ValuesOf
only_defaults =
    with_value (codes "offset") (codes "0") ∷ default_limit ∷ without_value (codes "output")
    ∷ without_value (codes "file") ∷ []

-- The same of a command that can write JSON.
abbrev pub defaults_with_json : List ValuesOf
defaults_with_json = with_value (codes "json") (codes "false") ∷ only_defaults

-- The values of options that are not given.
pub record DefaultsAreKnown : Type 0 where
  pub normalise : GivesValues (codes "normalise") (codes "normalise")
      (with_value (codes "external") (codes "false")
      ∷ without_value (codes "align")
      ∷ only_defaults)
  pub show : GivesValues (codes "show") (codes "show")
      (with_value (codes "layout") (codes "false") ∷ defaults_with_json)
  pub list : GivesValues (codes "list") (codes "list") defaults_with_json
  pub describe : GivesValues (codes "describe") (codes "describe")
      (with_value (codes "deep") (codes "false") ∷ defaults_with_json)
  pub compare : GivesValues (codes "compare a b") (codes "compare")
      (without_value (codes "ignore")
      ∷ with_value (codes "deep") (codes "false")
      ∷ with_value (codes "quiet") (codes "false")
      ∷ with_value (codes "json") (codes "false")
      ∷ default_limit
      ∷ without_value (codes "output")
      ∷ [])
  pub verify : GivesValues (codes "verify") (codes "verify") defaults_with_json
  pub check : GivesValues (codes "check") (codes "check")
      (without_value (codes "allow")
      ∷ with_value (codes "signed") (codes "false")
      ∷ defaults_with_json)
  pub scan : GivesValues (codes "scan") (codes "scan") defaults_with_json
  pub update : GivesValues (codes "update") (codes "update")
      (without_value (codes "remove")
      ∷ without_value (codes "set")
      ∷ without_value (codes "payload")
      ∷ without_value (codes "time")
      ∷ with_value (codes "hashes") (codes "false")
      ∷ with_value (codes "keep-form") (codes "false")
      ∷ with_value (codes "external") (codes "false")
      ∷ without_value (codes "align")
      ∷ only_defaults)
  pub get : GivesValues (codes "get a load") (codes "get")
      (without_value (codes "as")
      ∷ with_value (codes "offset") (codes "0")
      ∷ default_limit
      ∷ without_value (codes "output")
      ∷ [])
  pub extract : GivesValues (codes "extract") (codes "extract")
      (without_value (codes "part")
      ∷ without_value (codes "image")
      ∷ without_value (codes "config")
      ∷ with_value (codes "default") (codes "false")
      ∷ with_value (codes "all") (codes "false")
      ∷ with_value (codes "key") (codes "kernel")
      ∷ with_value (codes "index") (codes "0")
      ∷ with_value (codes "escaped") (codes "false")
      ∷ only_defaults)
  pub convert : GivesValues (codes "convert") (codes "convert") only_defaults
  pub build_legacy : GivesValues
      (codes "build-legacy --os linux --arch arm --type kernel")
      (codes "build-legacy")
      (with_value (codes "compression") (codes "none")
      ∷ without_value (codes "name")
      ∷ with_value (codes "time") (codes "0")
      ∷ with_value (codes "load") (codes "0")
      ∷ with_value (codes "entry") (codes "0")
      ∷ default_limit
      ∷ without_value (codes "output")
      ∷ without_value (codes "lengths")
      ∷ [])
  pub build_fit : GivesValues (codes "build-fit") (codes "build-fit")
      (without_value (codes "config")
      ∷ without_value (codes "default")
      ∷ without_value (codes "compatible")
      ∷ without_value (codes "describe-config")
      ∷ without_value (codes "describe-image")
      ∷ without_value (codes "hash")
      ∷ with_value (codes "external") (codes "false")
      ∷ without_value (codes "align")
      ∷ without_value (codes "description")
      ∷ with_value (codes "time") (codes "0")
      ∷ default_limit
      ∷ without_value (codes "output")
      ∷ without_value (codes "images")
      ∷ [])
  pub explain : GivesValues (codes "explain") (codes "explain")
      (without_value (codes "output") ∷ without_value (codes "cause") ∷ [])

-- What a command on one image has with `--offset 7 --limit 64 -o out in`, and with `--json` too.
abbrev pub offset_and_others : List ValuesOf
offset_and_others =
    with_value (codes "offset") (codes "7")
    ∷ with_value (codes "limit") (codes "64")
    ∷ with_value (codes "output") (codes "out")
    ∷ with_value (codes "file") (codes "in")
    ∷ []

abbrev pub json_and_others : List ValuesOf
json_and_others = with_value (codes "json") (codes "true") ∷ offset_and_others

-- A command line with edits.
abbrev pub edits_line : List ℕ
edits_line =
    codes
    "update --set a --remove b --payload c --keep-form --remove d --offset 7 --limit 64 -o out in"

-- Each option of each command, and the other names of two commands.
pub record OptionsAreKnown : Type 0 where
  pub normalise : GivesValues
      (codes "normalise --external --align 8 --offset 7 --limit 64 -o out in")
      (codes "normalise")
      (with_value (codes "external") (codes "true")
      ∷ with_value (codes "align") (codes "8")
      ∷ offset_and_others)
  pub normalize : GivesValues (codes "normalize in") (codes "normalise")
      (with_value (codes "file") (codes "in") ∷ [])
  pub show : GivesValues (codes "show --layout --json --offset 7 --limit 64 -o out in")
      (codes "show")
      (with_value (codes "layout") (codes "true") ∷ json_and_others)
  pub list : GivesValues (codes "list --json --offset 7 --limit 64 --output out in") (codes "list")
      json_and_others
  pub describe : GivesValues (codes "describe --deep --json --offset=7 --limit=64 -o out in")
      (codes "describe")
      (with_value (codes "deep") (codes "true") ∷ json_and_others)
  pub compare : GivesValues
      (codes "compare --ignore time --ignore /a --deep --quiet --json --limit 64 -o out - in")
      (codes "compare")
      ((codes "ignore", codes "time" ∷ codes "/a" ∷ [])
      ∷ with_value (codes "deep") (codes "true")
      ∷ with_value (codes "quiet") (codes "true")
      ∷ with_value (codes "json") (codes "true")
      ∷ with_value (codes "limit") (codes "64")
      ∷ with_value (codes "output") (codes "out")
      ∷ with_value (codes "one") (codes "-")
      ∷ with_value (codes "other") (codes "in")
      ∷ [])
  pub diff : GivesValues (codes "diff a b") (codes "compare")
      (with_value (codes "one") (codes "a") ∷ with_value (codes "other") (codes "b") ∷ [])
  pub verify : GivesValues (codes "verify in --json --offset 7 --limit 64 -o out")
      (codes "verify")
      json_and_others
  pub check : GivesValues
      (codes
      "check --allow weak-hash,missing --signed --json --offset 7 --limit 64 -o out in")
      (codes "check")
      (with_value (codes "allow") (codes "weak-hash,missing")
      ∷ with_value (codes "signed") (codes "true")
      ∷ json_and_others)
  pub scan : GivesValues (codes "scan --json --offset 7 --limit 64 -o out in") (codes "scan")
      json_and_others
  pub update : GivesValues
      (codes "update --time 5 --hashes --external --align 8 --offset 7 --limit 64 -o out in")
      (codes "update")
      (with_value (codes "time") (codes "5")
      ∷ with_value (codes "hashes") (codes "true")
      ∷ with_value (codes "external") (codes "true")
      ∷ with_value (codes "align") (codes "8")
      ∷ offset_and_others)
  pub update_edits : GivesValues edits_line (codes "update")
      ((codes "remove", codes "b" ∷ codes "d" ∷ [])
      ∷ with_value (codes "set") (codes "a")
      ∷ with_value (codes "payload") (codes "c")
      ∷ with_value (codes "keep-form") (codes "true")
      ∷ offset_and_others)
  pub get : GivesValues (codes "get --as raw --offset 7 --limit 64 -o out in / x load")
      (codes "get")
      (with_value (codes "as") (codes "raw")
      ∷ (codes "where", codes "/" ∷ codes "x" ∷ codes "load" ∷ [])
      ∷ offset_and_others)
  pub extract : GivesValues
      (codes
      "extract --part 1 --image a --config c --key fdt --index 2 --offset 7 --limit 64 -o out in")
      (codes "extract")
      (with_value (codes "part") (codes "1")
      ∷ with_value (codes "image") (codes "a")
      ∷ with_value (codes "config") (codes "c")
      ∷ with_value (codes "key") (codes "fdt")
      ∷ with_value (codes "index") (codes "2")
      ∷ offset_and_others)
  pub extract_flags : GivesValues (codes "extract --default --all --escaped") (codes "extract")
      (with_value (codes "default") (codes "true")
      ∷ with_value (codes "all") (codes "true")
      ∷ with_value (codes "escaped") (codes "true")
      ∷ [])
  pub convert : GivesValues (codes "convert --offset 7 --limit 64 -o out in") (codes "convert")
      offset_and_others
  pub build_legacy : GivesValues
      (codes "build-legacy --os linux --arch arm --type kernel --compression gzip --name k 5 @h")
      (codes "build-legacy")
      (with_value (codes "os") (codes "linux")
      ∷ with_value (codes "arch") (codes "arm")
      ∷ with_value (codes "type") (codes "kernel")
      ∷ with_value (codes "compression") (codes "gzip")
      ∷ with_value (codes "name") (codes "k")
      ∷ (codes "lengths", codes "5" ∷ codes "@h" ∷ [])
      ∷ [])
  pub build_legacy_numbers : GivesValues
      (codes "build-legacy --os 5 --arch 2 --type 2 --time 1 --load 2 --entry 3 --limit 64 -o out")
      (codes "build-legacy")
      (with_value (codes "time") (codes "1")
      ∷ with_value (codes "load") (codes "2")
      ∷ with_value (codes "entry") (codes "3")
      ∷ with_value (codes "limit") (codes "64")
      ∷ with_value (codes "output") (codes "out")
      ∷ [])
  pub build_fit : GivesValues
      (codes "build-fit --config a:b --config c --default d --hash e --external --align 8 "
      ++ codes "--compatible c:x --compatible a:y:z --describe-config a:p --describe-config c:q "
      ++ codes "--describe-image a:r --describe-image c:s "
      ++ codes "--description d --time 1 --limit 64 -o out a:b c")
      (codes "build-fit")
      ((codes "config", codes "a:b" ∷ codes "c" ∷ [])
      ∷ with_value (codes "default") (codes "d")
      ∷ (codes "compatible", codes "c:x" ∷ codes "a:y:z" ∷ [])
      ∷ (codes "describe-config", codes "a:p" ∷ codes "c:q" ∷ [])
      ∷ (codes "describe-image", codes "a:r" ∷ codes "c:s" ∷ [])
      ∷ with_value (codes "hash") (codes "e")
      ∷ with_value (codes "external") (codes "true")
      ∷ with_value (codes "align") (codes "8")
      ∷ with_value (codes "description") (codes "d")
      ∷ with_value (codes "time") (codes "1")
      ∷ with_value (codes "limit") (codes "64")
      ∷ with_value (codes "output") (codes "out")
      ∷ (codes "images", codes "a:b" ∷ codes "c" ∷ [])
      ∷ [])
  pub explain : GivesValues (codes "explain -o out BadMagic") (codes "explain")
      (with_value (codes "output") (codes "out")
      ∷ with_value (codes "cause") (codes "BadMagic")
      ∷ [])

-- Command lines that clap rejects, each for the first thing that is wrong.
pub record MistakesAreKnown : Type 0 where
  pub no_command : fault_of program_app [] ≡ MissingSubcommand ∷ []
  pub no_os : fault_of program_app (words_of_line (codes "build-legacy --arch arm --type kernel"))
      ≡ MissingRequiredArgument ∷ []
  pub no_arch :
      fault_of program_app (words_of_line (codes "build-legacy --os linux --type kernel"))
      ≡ MissingRequiredArgument ∷ []
  pub no_type : fault_of program_app (words_of_line (codes "build-legacy --os linux --arch arm"))
      ≡ MissingRequiredArgument ∷ []
  pub one_image : fault_of program_app (words_of_line (codes "compare a"))
      ≡ MissingRequiredArgument ∷ []
  pub no_image_of_values : fault_of program_app (words_of_line (codes "get"))
      ≡ MissingRequiredArgument ∷ []
  pub no_values : fault_of program_app (words_of_line (codes "get a"))
      ≡ MissingRequiredArgument ∷ []
  pub two_files : fault_of program_app (words_of_line (codes "describe a b")) ≡ UnknownArgument ∷ []
  pub other_option : fault_of program_app (words_of_line (codes "list --external"))
      ≡ UnknownArgument ∷ []
  pub no_json : fault_of program_app (words_of_line (codes "convert --json"))
      ≡ UnknownArgument ∷ []
  pub no_offset : fault_of program_app (words_of_line (codes "compare --offset 0 a b"))
      ≡ UnknownArgument ∷ []
  pub no_layout : fault_of program_app (words_of_line (codes "list --layout"))
      ≡ UnknownArgument ∷ []
  pub no_deep : fault_of program_app (words_of_line (codes "list --deep"))
      ≡ UnknownArgument ∷ []
  pub option_twice : fault_of program_app (words_of_line (codes "list --limit 64 --limit 65"))
      ≡ ArgumentConflict ∷ []
  pub missing_value : fault_of program_app (words_of_line (codes "list --limit"))
      ≡ InvalidValue ∷ []

-- ---- numbers

-- The argument is this number and no other.
abbrev pub IsOnlyNumber : (argument : List ℕ) → (number : ℕ) → Type 0
IsOnlyNumber argument number =
    IsNumber argument number × ((other : ℕ) → IsNumber argument other → other ≡ number)

-- A number has decimal digits, or `0x` and hexadecimal ones, and at most 32 bits.
pub record NumbersAreKnown : Type 0 where
  pub zero : IsOnlyNumber (codes "0") 0
  pub leading_zeros : IsOnlyNumber (codes "007") 7
  pub greatest : IsOnlyNumber (codes "4294967295") 4294967295
  pub hexadecimal : IsOnlyNumber (codes "0x10") 16
  pub both_cases : IsOnlyNumber (codes "0xaBcDeF") 0xabcdef
  pub greatest_hexadecimal : IsOnlyNumber (codes "0x0ffffffff") 0xffffffff
  pub no_bytes : NoneIs (IsNumber [])
  pub no_digits : NoneIs (IsNumber (codes "0x"))
  pub other_prefix : NoneIs (IsNumber (codes "0X10"))
  pub plus : NoneIs (IsNumber (codes "+1"))
  pub plus_inside : NoneIs (IsNumber (codes "0x+1"))
  pub minus : NoneIs (IsNumber (codes "-1"))
  pub space : NoneIs (IsNumber (codes " 1"))
  pub underscore : NoneIs (IsNumber (codes "1_000"))
  pub letter : NoneIs (IsNumber (codes "1f"))
  pub other_letter : NoneIs (IsNumber (codes "0x1g"))
  pub past_greatest : NoneIs (IsNumber (codes "4294967296"))
  pub past_greatest_hexadecimal : NoneIs (IsNumber (codes "0x100000000"))

-- The argument is this code of a field and no other.
abbrev pub IsOnlyCode : CodeField → (argument : List ℕ) → (code : ℕ) → Type 0
IsOnlyCode field argument code =
    IsCode field argument code × ((other : ℕ) → IsCode field argument other → other ≡ code)

-- A code has a name of its own field, or is a number of at most 255, even one without a name.
pub record CodesAreKnown : Type 0 where
  pub name : IsOnlyCode Os (codes "linux") 5
  pub zero : IsOnlyCode Compression (codes "none") 0
  pub named_number : IsOnlyCode Os (codes "5") 5
  pub other_number : IsOnlyCode Arch (codes "0xff") 255
  pub past_greatest : NoneIs (IsCode Os (codes "256"))
  pub name_of_other_field : NoneIs (IsCode Os (codes "arm"))
  pub other_name : IsOnlyCode Arch (codes "powerpc") 7
  pub name_that_says_nothing : NoneIs (IsCode Arch (codes "invalid"))
  pub format_of_a_vendor : NoneIs (IsCode ImageType (codes "imximage"))
  pub no_name : NoneIs (IsCode Compression (codes "Gzip"))

-- The argument is this limit, and no other, with 64 levels.
abbrev pub IsOnlyLimit : (argument : List ℕ) → (limit : ℕ) → Type 0
IsOnlyLimit argument limit =
    IsLimits argument (limited_to limit)
    × ((limits : Limits) → IsLimits argument limits → limits ≡ limited_to limit)

-- A limit is a number of 64 to 0x7fffffff.
pub record LimitsAreKnown : Type 0 where
  pub least : IsOnlyLimit (codes "64") 64
  pub greatest : IsOnlyLimit (codes "0x7fffffff") 2147483647
  pub below_least : NoneIs (IsLimits (codes "63"))
  pub past_greatest : NoneIs (IsLimits (codes "2147483648"))
  pub no_number : NoneIs (IsLimits (codes "1k"))

-- ---- texts

-- The texts of arguments are in their order.
pub record TextsAreKnown : Type 0 where
  pub none : texts_of [] ≡ []
  pub two : texts_of (lent (codes "list") ∷ lent (codes "x y") ∷ [])
      ≡ codes "list" ∷ codes "x y" ∷ []

-- ---- parts

-- Standard input is read if a part is in it, or if no part is named.
pub record InputsAreKnown : Type 0 where
  pub no_part : reads_input [] ≡ true
  pub a_length : reads_input (Input 5 ∷ []) ≡ true
  pub a_file : reads_input (File (lent (codes "h")) ∷ []) ≡ false
  pub two_files : reads_input (File (lent (codes "h")) ∷ File (lent (codes "x")) ∷ []) ≡ false
  pub both : reads_input (File (lent (codes "h")) ∷ Input 3 ∷ []) ≡ true
