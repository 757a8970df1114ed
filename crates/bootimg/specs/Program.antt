use Rattle.std.specs.Prelude.{◌≡◌, ◌⊎◌, ℕ, List, [], ◌∷◌, ◌++◌, Some, true, false, codes}
use Rattle.std.specs.Prelude.{Bool, bytes_eq, map}
use Rattle.std.specs.List.{list_any}
use Rattle.clap.specs.Lexer.{usize_max}
use Rattle.clap.specs.Walk.{Rule}
use Rattle.clap.specs.Simple.{App, Shape, new_rule, new_shape}
use Rattle.clap.specs.declared.builder.action.ArgAction.TheVariants.{Append, Set, SetTrue}

-- The command line of the program, as clap defines what a command is (profile of this project): its
-- commands with their options. Fields that are not named here are those of a new argument or a new
-- command of clap. clap adds `--help` to each command, `--version` to the program, and the command
-- `help`.

-- ---- options

-- `--NAME`.
abbrev pub flag_option : (name : List ℕ) → Rule
flag_option name = record (new_rule name) { long = Some name; action = Some SetTrue }

-- `--NAME VALUE`.
abbrev pub value_option : (name : List ℕ) → Rule
value_option name = record (new_rule name) {
  long = Some name;
  value_names = 1;
  action = Some Set;
}

-- `--NAME VALUE`, which has to be given.
abbrev pub required_option : (name : List ℕ) → Rule
required_option name = record (value_option name) { required = true }

-- `--NAME VALUE`. Without it the value is this one.
abbrev pub option_with_default : (name value : List ℕ) → Rule
option_with_default name value = record (value_option name) { defaults = value ∷ [] }

-- `--NAME VALUE`, any number of times.
abbrev pub repeated_option : (name : List ℕ) → Rule
repeated_option name = record (value_option name) { action = Some Append }

-- `--NAME VALUE`, or `-LETTER VALUE`.
abbrev pub short_option : (name : List ℕ) (letter : ℕ) → Rule
short_option name letter = record (value_option name) { short = Some letter }

-- A positional argument, which may be left out.
abbrev pub positional : (name : List ℕ) → Rule
positional name = record (new_rule name) { value_names = 1 }

-- A positional argument, which has to be given.
abbrev pub required_positional : (name : List ℕ) → Rule
required_positional name = record (positional name) { required = true }

-- Any number of positional arguments.
abbrev pub positionals : (name : List ℕ) → Rule
positionals name = record (positional name) {
  range = Some (record { start_inclusive = 0; end_inclusive = usize_max });
  action = Some Append;
}

-- One or more positional arguments.
abbrev pub required_positionals : (name : List ℕ) → Rule
required_positionals name = record (positionals name) {
  range = Some (record { start_inclusive = 1; end_inclusive = usize_max });
  required = true;
}

-- ---- options of several commands

-- `--limit`.
abbrev pub limit : Rule
limit = option_with_default (codes "limit") (codes "2147483647")

-- `--output`, or `-o`.
abbrev pub output : Rule
output = short_option (codes "output") 111

-- `--external`.
abbrev pub external : Rule
external = flag_option (codes "external")

-- `--align`.
abbrev pub align : Rule
align = value_option (codes "align")

-- `--deep`.
abbrev pub deep : Rule
deep = flag_option (codes "deep")

-- `--json`.
abbrev pub json : Rule
json = flag_option (codes "json")

-- `--offset`.
abbrev pub offset : Rule
offset = option_with_default (codes "offset") (codes "0")

-- The file of an image.
abbrev pub file : Rule
file = positional (codes "file")

-- The files of any number of images.
abbrev pub files : Rule
files = positionals (codes "file")

-- ---- commands

-- A command of this name with these options.
abbrev pub command : (name : List ℕ) → List Rule → Shape
command name rules = record (new_shape name) { rules = rules }

-- The command, which has this other name, too.
abbrev pub with_alias : Shape → (alias : List ℕ) → Shape
with_alias shape alias = record shape { aliases = alias ∷ [] }

-- `normalise`, or `normalize`.
abbrev pub normalise : Shape
normalise =
    with_alias
    (command (codes "normalise") (external ∷ align ∷ offset ∷ limit ∷ output ∷ file ∷ []))
    (codes "normalize")

-- `show`.
abbrev pub show : Shape
show = command (codes "show")
    (flag_option (codes "layout") ∷ json ∷ offset ∷ limit ∷ output ∷ file ∷ [])

-- `list`.
abbrev pub list : Shape
list = command (codes "list") (json ∷ offset ∷ limit ∷ output ∷ files ∷ [])

-- `describe`.
abbrev pub describe : Shape
describe = command (codes "describe") (deep ∷ json ∷ offset ∷ limit ∷ output ∷ file ∷ [])

-- `compare`, or `diff`.
abbrev pub compare : Shape
compare =
    with_alias
    (command (codes "compare")
    (repeated_option (codes "ignore") ∷ deep ∷ flag_option (codes "quiet") ∷ json ∷ limit ∷ output
    ∷ required_positional (codes "one") ∷ required_positional (codes "other") ∷ []))
    (codes "diff")

-- `verify`.
abbrev pub verify : Shape
verify = command (codes "verify") (json ∷ offset ∷ limit ∷ output ∷ files ∷ [])

-- `check`.
abbrev pub check : Shape
check = command (codes "check")
    (value_option (codes "allow") ∷ flag_option (codes "signed") ∷ json ∷ offset ∷ limit ∷ output
    ∷ files ∷ [])

-- `scan`.
abbrev pub scan : Shape
scan = command (codes "scan") (json ∷ offset ∷ limit ∷ output ∷ files ∷ [])

-- `update`.
abbrev pub update : Shape
update = command (codes "update")
    (repeated_option (codes "remove") ∷ repeated_option (codes "set")
    ∷ repeated_option (codes "payload") ∷ value_option (codes "time")
    ∷ flag_option (codes "hashes") ∷ flag_option (codes "keep-form") ∷ external ∷ align ∷ offset
    ∷ limit ∷ output ∷ file ∷ [])

-- `get`.
abbrev pub get : Shape
get = command (codes "get")
    (value_option (codes "as") ∷ offset ∷ limit ∷ output ∷ required_positional (codes "file")
    ∷ required_positionals (codes "where") ∷ [])

-- `extract`.
abbrev pub extract : Shape
extract = command (codes "extract")
    (value_option (codes "part") ∷ value_option (codes "image") ∷ value_option (codes "config")
    ∷ flag_option (codes "default") ∷ flag_option (codes "all")
    ∷ option_with_default (codes "key") (codes "kernel")
    ∷ option_with_default (codes "index") (codes "0") ∷ flag_option (codes "escaped") ∷ offset
    ∷ limit ∷ output ∷ file ∷ [])

-- `convert`.
abbrev pub convert : Shape
convert = command (codes "convert") (offset ∷ limit ∷ output ∷ file ∷ [])

-- `build-legacy`.
abbrev pub build_legacy : Shape
build_legacy = command (codes "build-legacy")
    (required_option (codes "os") ∷ required_option (codes "arch")
    ∷ required_option (codes "type") ∷ option_with_default (codes "compression") (codes "none")
    ∷ value_option (codes "name") ∷ option_with_default (codes "time") (codes "0")
    ∷ option_with_default (codes "load") (codes "0")
    ∷ option_with_default (codes "entry") (codes "0") ∷ limit ∷ output
    ∷ positionals (codes "lengths") ∷ [])

-- `build-fit`.
abbrev pub build_fit : Shape
build_fit = command (codes "build-fit")
    (repeated_option (codes "config") ∷ value_option (codes "default")
    ∷ repeated_option (codes "compatible") ∷ repeated_option (codes "describe-config")
    ∷ repeated_option (codes "describe-image") ∷ value_option (codes "hash") ∷ external ∷ align
    ∷ value_option (codes "description")
    ∷ option_with_default (codes "time") (codes "0") ∷ limit ∷ output
    ∷ positionals (codes "images") ∷ [])

-- `explain`.
abbrev pub explain : Shape
explain = command (codes "explain") (output ∷ positional (codes "cause") ∷ [])

-- ---- the program

-- The commands that write what an image is.
abbrev pub reading_commands : List Shape
reading_commands = normalise ∷ show ∷ list ∷ describe ∷ []

-- The commands that compare images, check one, and find the images in a file.
abbrev pub checking_commands : List Shape
checking_commands = compare ∷ verify ∷ check ∷ scan ∷ []

-- The commands that make something else of an image, or take something out of it.
abbrev pub changing_commands : List Shape
changing_commands = update ∷ get ∷ extract ∷ convert ∷ []

-- The commands that build an image.
abbrev pub building_commands : List Shape
building_commands = build_legacy ∷ build_fit ∷ []

-- All commands.
abbrev pub commands : List Shape
commands =
    reading_commands
    ++ (checking_commands ++ (changing_commands ++ (building_commands ++ explain ∷ [])))

-- The names of the commands that write an image or a payload, and not text: of those that read an
-- image, that change it or take something out of it, and that build one.
abbrev pub reading_writers : List (List ℕ)
reading_writers = codes "normalise" ∷ []

abbrev pub changing_writers : List (List ℕ)
changing_writers = codes "update" ∷ codes "extract" ∷ codes "convert" ∷ []

abbrev pub building_writers : List (List ℕ)
building_writers = codes "build-legacy" ∷ codes "build-fit" ∷ []

-- Whether one of these commands has a name.
abbrev pub is_writer_of : List (List ℕ) → List ℕ → Bool
is_writer_of writers name = list_any (λ writer. bytes_eq writer name) writers

-- Whether the command of this name writes an image or a payload.
abbrev pub writes_image : List ℕ → Bool
writes_image name = is_writer_of (reading_writers ++ (changing_writers ++ building_writers)) name

-- The name is one of these.
abbrev pub IsAmongNames : List (List ℕ) → List ℕ → Type 0
IsAmongNames [] name = ⊥
IsAmongNames (other ∷ names) name = (name ≡ other) ⊎ IsAmongNames names name

-- The name is that of a command.
abbrev pub IsCommandName : List ℕ → Type 0
IsCommandName name = IsAmongNames (map (λ (shape : Shape). shape.name) commands) name

-- The program. It has a version, and one of the commands has to be given. The arguments are without
-- the program's own name.
unfoldable pub program_app : App
program_app = record {
  top = record (new_shape (codes "bootimg")) {
    no_binary_name = true;
    has_version = true;
    subcommand_required = true;
    is_leaf = false;
  };
  subs = commands;
}
