use Rattle.std.proofs.Common.{◌≡◌, ◌∙◌, ℕ, List, [], Option, None, Some, map, unwrap_or, ap, refl, sym}
use Rattle.std.specs.Prelude.{option_map}
use Rattle.std.specs.Option.{option_map_or}
use Rattle.bootimg.specs.KnownWords.{words_of_line}
use Rattle.clap.specs.Faults.{fault_of}
use Rattle.clap.specs.Matches.{found_of, matched_of, raw_values}
use Rattle.clap.specs.Simple.{subcommand_of}
use Rattle.clap.specs.Walk.{Row, Text, all_of}
use Rattle.clap.specs.declared.parser.matches.ArgMatches.{ArgMatches}
use Rattle.clap.proofs.OnLiterals.{clap_on_literals}
use Rattle.clap.proofs.WalkLemmas.{raw_values-rows}
use Rattle.bootimg.specs.CommandLine.{Gives, values_of}
use Rattle.bootimg.specs.KnownArguments.{DefaultsAreKnown, GivesValues, MistakesAreKnown, OptionsAreKnown, ValuesOf}
use Rattle.bootimg.specs.Program.{program_app}

-- Small command lines give the options of each command their values, or are rejected.

-- The values that an option has in the rows of a command, by which clap defines what it gives.
abbrev pub values_in : (id : Text) → Option (Text × List Row) → List Text
values_in id command = option_map_or (λ entered. unwrap_or (all_of id entered.1) []) command []

unwrap_or-option_map : {X Y : Type 0} (f : X → Y) (option : Option X) (default : Y)
    → option_map_or f option default ≡ unwrap_or (option_map f option) default
unwrap_or-option_map f None default = refl
unwrap_or-option_map f (Some value) default = refl

-- They are the values of the options that the command line gives.
pub found_values : (line name : List ℕ) (options : ArgMatches) → Gives (words_of_line line) name options → (id : List ℕ)
    → values_of options id ≡ values_in id (subcommand_of program_app (words_of_line line))
found_values line name options is id =
    unwrap_or-option_map raw_values (matched_of (found_of options) id) []
    ∙ ap (λ values. unwrap_or values []) (raw_values-rows (found_of options) id)
    ∙ ap (values_in id) (sym is.given)

gives_values : (line name : List ℕ) (values : List ValuesOf) → fault_of program_app (words_of_line line) ≡ []
    → option_map (λ command. command.0) (subcommand_of program_app (words_of_line line)) ≡ Some name
    → map (λ entry. (entry.0, values_in entry.0 (subcommand_of program_app (words_of_line line)))) values ≡ values
    → GivesValues line name values
gives_values line name values accepted named are = record {
  is_accepted = accepted;
  is_name = named;
  are_values = λ options is. (λ i. map (λ entry. (entry.0, found_values line name options is entry.0 i)) values) ∙ are;
}

pub defaults_are_known : DefaultsAreKnown
unfolding program_app clap_on_literals
defaults_are_known = record {
  normalise = gives_values _ _ _ refl refl refl;
  show = gives_values _ _ _ refl refl refl;
  list = gives_values _ _ _ refl refl refl;
  describe = gives_values _ _ _ refl refl refl;
  compare = gives_values _ _ _ refl refl refl;
  verify = gives_values _ _ _ refl refl refl;
  check = gives_values _ _ _ refl refl refl;
  scan = gives_values _ _ _ refl refl refl;
  update = gives_values _ _ _ refl refl refl;
  get = gives_values _ _ _ refl refl refl;
  extract = gives_values _ _ _ refl refl refl;
  convert = gives_values _ _ _ refl refl refl;
  build_legacy = gives_values _ _ _ refl refl refl;
  build_fit = gives_values _ _ _ refl refl refl;
  explain = gives_values _ _ _ refl refl refl;
}

pub options_are_known : OptionsAreKnown
unfolding program_app clap_on_literals
options_are_known = record {
  normalise = gives_values _ _ _ refl refl refl;
  normalize = gives_values _ _ _ refl refl refl;
  show = gives_values _ _ _ refl refl refl;
  list = gives_values _ _ _ refl refl refl;
  describe = gives_values _ _ _ refl refl refl;
  compare = gives_values _ _ _ refl refl refl;
  diff = gives_values _ _ _ refl refl refl;
  verify = gives_values _ _ _ refl refl refl;
  check = gives_values _ _ _ refl refl refl;
  scan = gives_values _ _ _ refl refl refl;
  update = gives_values _ _ _ refl refl refl;
  update_edits = gives_values _ _ _ refl refl refl;
  get = gives_values _ _ _ refl refl refl;
  extract = gives_values _ _ _ refl refl refl;
  extract_flags = gives_values _ _ _ refl refl refl;
  convert = gives_values _ _ _ refl refl refl;
  build_legacy = gives_values _ _ _ refl refl refl;
  build_legacy_numbers = gives_values _ _ _ refl refl refl;
  build_fit = gives_values _ _ _ refl refl refl;
  explain = gives_values _ _ _ refl refl refl;
}

pub mistakes_are_known : MistakesAreKnown
unfolding program_app clap_on_literals
mistakes_are_known = record {
  no_command = refl;
  no_os = refl;
  no_arch = refl;
  no_type = refl;
  one_image = refl;
  no_image_of_values = refl;
  no_values = refl;
  two_files = refl;
  other_option = refl;
  no_json = refl;
  no_offset = refl;
  no_layout = refl;
  no_deep = refl;
  option_twice = refl;
  missing_value = refl;
}
