use Rattle.std.proofs.Common.{◌≡◌, ◌∙◌, ◌∷◌, [], ℕ, Bool, true, false, List, Option, None, Some, Contains, codes, length, map, filter}
use Rattle.std.proofs.Common.{ap, refl, sym, subst, subst₂, unwrap_or, slice_get, get_or, is_some, arith, true≢false}
use Rattle.std.specs.List.{list_any}
use Rattle.std.specs.Option.{option_map_or}
use Rattle.std.specs.Prelude.{bytes_eq, count_by}
use Rattle.std.proofs.lemmas.Slice.Eq.{bytes_eq-Decides}
use Rattle.bi_base.proofs.EqualBytes.{other_bytes, same_bytes}
use Rattle.bi_report.specs.Checking.{allows, kind_word}
use Rattle.bi_report.specs.KnownConcerns.{each_kind}
use Rattle.bi_report.specs.declared.check.Allowed.{Allowed}
use Rattle.bi_report.specs.declared.check.ConcernKind.{ConcernKind}
use Rattle.bi_report.specs.declared.check.ConcernKind.TheVariants as kind
use Rattle.bi_report.proofs.CleanLaws.NoLines.{any_is_found, passes_any}
use Rattle.bootimg.specs.KnownWords.{words_of_line}
use Rattle.bi_fit.specs.Names.{key_name}
use Rattle.bi_base.specs.Aligns.{align_bytes}
use Rattle.bi_base.proofs.AlignmentLaws.{alignment-positive}
use Rattle.bi_fit.specs.declared.form.Form.{Form}
use Rattle.bi_fit.specs.declared.form.Form.TheVariants.{Embedded, External, Aligned}
use Rattle.bi_fit.specs.declared.key.Key.{Key}
use Rattle.bi_fit.specs.declared.key.Key.TheVariants.{Kernel, Fdt, Ramdisk, Firmware, Loadables, Script}
use Rattle.bi_legacy.specs.declared.fields.Fields.{Fields}
use Rattle.clap.specs.Matches.{found_of, one_text}
use Rattle.clap.specs.Simple.{subcommand_of}
use Rattle.clap.specs.Walk.{Row, Text, first_of, one_of, rows_of}
use Rattle.clap.specs.declared.parser.matches.ArgMatches.{ArgMatches}
use Rattle.clap.proofs.OnLiterals.{clap_on_literals}
use Rattle.clap.proofs.WalkLemmas.{first_value-rows, one_text-rows}
use Rattle.bootimg.specs.CodeWords.{IsCode}
use Rattle.bootimg.specs.CommandLine.{IsFormWith, IsShown, json_flag, layout_flag}
use Rattle.bootimg.specs.CommandLine.{Gives, IsAddress, IsAllowed, IsFields, IsImageSource, IsImageText, IsNewTime}
use Rattle.bootimg.specs.CommandLine.{IsPartSource, IsSelection, IsSelectionFailure, IsBuildPlan, NamesAFile, NoneIs}
use Rattle.bootimg.specs.CommandLine.{IsAllFailure, IsEntry, IsNameOf, IsNoneGiven, SelectsDefault, default_flag}
use Rattle.bootimg.specs.CommandLine.{given_count, list_of, option_of, value_of}
use Rattle.bootimg.specs.Words.{listed_words, parts_of}
use Rattle.bootimg.specs.KnownArguments.{IsOnlyCode, IsOnlyNumber}
use Rattle.bootimg.specs.KnownRequests.{AllRequestsAreKnown, AllowedWordsAreKnown, AreFieldsOfLine, ChangesAreKnown}
use Rattle.bootimg.specs.KnownRequests.{CommandNamesAreKnown, FlagsAreKnown, HasAlignment, HoldsFor, ImageOffsetsAreKnown}
use Rattle.bootimg.specs.KnownRequests.{IsFileNamed, IsImageOfWord, IsOnlyOne, IsPartNamed, PartWordsAreKnown, PlansAreKnown}
use Rattle.bootimg.specs.KnownRequests.{SelectionsAreKnown, SelectsEntry, SelectsImage, SourcesAreKnown, line_of_fields}
use Rattle.bootimg.specs.KnownRequests.{name_of_plan}
use Rattle.bootimg.specs.Numbers.{IsNumber}
use Rattle.bootimg.specs.Program.{program_app}
use Rattle.bootimg.specs.declared.codes.CodeField.{CodeField}
use Rattle.bootimg.specs.declared.codes.CodeField.TheVariants.{Os, Arch, ImageType, Compression}
use Rattle.bootimg.specs.declared.command_line.build.BuildPlan.{BuildPlan}
use Rattle.bootimg.specs.declared.command_line.build.BuildPlan.TheVariants as build
use Rattle.bootimg.specs.declared.command_line.extract.Selected.{Selected}
use Rattle.bootimg.specs.declared.command_line.extract.Selected.TheVariants as select
use Rattle.bootimg.specs.declared.command_line.image.ImageWord.{ImageWord}
use Rattle.bootimg.specs.declared.command_line.part.PartSource.{PartSource}
use Rattle.bootimg.specs.declared.command_line.part.PartSource.TheVariants as part
use Rattle.bootimg.specs.declared.command_line.show.ShowForm.{ShowForm}
use Rattle.bootimg.specs.declared.command_line.show.ShowForm.TheVariants as show_form
use Rattle.bootimg.specs.declared.command_line.source.ImageSource.{ImageSource}
use Rattle.bootimg.specs.declared.command_line.source.ImageSource.TheVariants.{Standard, File}
use Rattle.bootimg.specs.declared.failure.Failure.TheVariants.{NoSelection, BadValue}
use Rattle.bootimg.proofs.ArgumentFacts.{decimal_digits, hexadecimal_digits_after, code_with_name, is_no_number}

-- Small command lines request what is known.

-- ---- what a command line gives

-- The rows of the command that it names.
abbrev pub rows_given : (line : List ℕ) → List Row
rows_given line = option_map_or (λ entered. entered.1) (subcommand_of program_app (words_of_line line)) []

module _ (line name : List ℕ) (options : ArgMatches) (is : Gives (words_of_line line) name options) where
  rows_are : rows_of (found_of options) ≡ rows_given line
  rows_are = ap (λ (command : Option (Text × List Row)). option_map_or (λ entered. entered.1) command []) (sym is.given)

  pub flag_is : (id : List ℕ) → one_text (found_of options) id ≡ one_of id (rows_given line)
  flag_is id = one_text-rows (found_of options) id ∙ ap (one_of id) rows_are

  pub option_is : (id : List ℕ) → option_of options id ≡ first_of id (rows_given line)
  option_is id = first_value-rows (found_of options) id ∙ ap (first_of id) rows_are

  pub value_is : (id default : List ℕ) → value_of options id default ≡ unwrap_or (first_of id (rows_given line)) default
  value_is id default = ap (λ (o : Option (List ℕ)). unwrap_or o default) (option_is id)

-- An option that is there and is not.
pub not_given_and_missing : {T : Type 0} (option : Option T) (value : T) → option ≡ Some value → ¬ (option ≡ None)
not_given_and_missing option value there missing = let bad : None ≡ Some value = sym missing ∙ there in cc

same_value : (option : Option (List ℕ)) (one other : List ℕ) → option ≡ Some one → option ≡ Some other → one ≡ other
same_value option one other is also = let same : Some one ≡ Some other = sym is ∙ also in cc

-- ---- flags

-- An external form with the alignment of a word.
aligned_4096 : (form : Form) → IsFormWith true (Some (codes "4096")) form → HasAlignment 4096 form
aligned_4096 Embedded is = is
aligned_4096 External is = is
aligned_4096 (Aligned align) is = (decimal_digits (codes "4096") refl refl).1 (align_bytes align) is

pub not_aligned_3 : (form : Form) → ¬ (IsFormWith true (Some (codes "3")) form)
not_aligned_3 Embedded is = is
not_aligned_3 External is = is
not_aligned_3 (Aligned align) is =
    let three : align_bytes align ≡ 3 = (decimal_digits (codes "3") refl refl).1 (align_bytes align) is in
    omega (arith, alignment-positive (align_bytes align) align.is_alignment, three)

-- With `--json` an image is shown as JSON, and then not with its layout.
shown_in_json : (options : ArgMatches) (how : ShowForm) → json_flag options ≡ Some (codes "true") →
    IsShown options how → how ≡ show_form.Json
shown_in_json options (show_form.Page presenter) flag is = absurd (let other = is.0.given flag in cc)
shown_in_json options show_form.Json flag is = refl

no_layout_in_json : (options : ArgMatches) (how : ShowForm) → json_flag options ≡ Some (codes "true") →
    layout_flag options ≡ Some (codes "true") → ¬ (IsShown options how)
no_layout_in_json options (show_form.Page presenter) flag layout is = let other = is.0.given flag in cc
no_layout_in_json options show_form.Json flag layout is = true≢false (sym (is.1.given layout))

pub flags_are_known : FlagsAreKnown
unfolding program_app clap_on_literals
flags_are_known = record {
  external = λ options is form holds.
      subst₂ (λ external align. IsFormWith external align form)
      (holds.is_external.given (flag_is (codes "normalise --external") (codes "normalise") options is (codes "external") ∙ refl))
      (option_is (codes "normalise --external") (codes "normalise") options is (codes "align") ∙ refl) holds.is_form;
  embedded = λ options is form holds.
      subst₂ (λ external align. IsFormWith external align form)
      (holds.is_external.not_given (flag_is (codes "normalise") (codes "normalise") options is (codes "external") ∙ refl))
      (option_is (codes "normalise") (codes "normalise") options is (codes "align") ∙ refl) holds.is_form;
  aligned = λ options is form holds.
      aligned_4096 form (subst₂ (λ external align. IsFormWith external align form)
      (holds.is_external.given
      (flag_is (codes "normalise --external --align 4096") (codes "normalise") options is (codes "external") ∙ refl))
      (option_is (codes "normalise --external --align 4096") (codes "normalise") options is (codes "align") ∙ refl) holds.is_form);
  not_external = λ options is form holds.
      subst₂ (λ external align. IsFormWith external align form)
      (holds.is_external.not_given (flag_is (codes "normalise --align 4096") (codes "normalise") options is (codes "external") ∙ refl))
      (option_is (codes "normalise --align 4096") (codes "normalise") options is (codes "align") ∙ refl) holds.is_form;
  bad_alignment = λ options is form holds.
      not_aligned_3 form (subst₂ (λ external align. IsFormWith external align form)
      (holds.is_external.given
      (flag_is (codes "normalise --external --align 3") (codes "normalise") options is (codes "external") ∙ refl))
      (option_is (codes "normalise --external --align 3") (codes "normalise") options is (codes "align") ∙ refl) holds.is_form);
  json = λ options is format holds. holds.given (flag_is (codes "list --json") (codes "list") options is (codes "json") ∙ refl);
  lines = λ options is format holds. holds.not_given (flag_is (codes "list") (codes "list") options is (codes "json") ∙ refl);
  layout = λ options is layout holds. holds.given (flag_is (codes "show --layout") (codes "show") options is (codes "layout") ∙ refl);
  no_layout = λ options is layout holds. holds.not_given (flag_is (codes "show") (codes "show") options is (codes "layout") ∙ refl);
  json_of_page = λ options is how holds.
      shown_in_json options how (flag_is (codes "show --json") (codes "show") options is (codes "json") ∙ refl) holds;
  layout_in_json = λ options is how holds.
      no_layout_in_json options how (flag_is (codes "show --layout --json") (codes "show") options is (codes "json") ∙ refl)
      (flag_is (codes "show --layout --json") (codes "show") options is (codes "layout") ∙ refl) holds;
  deep = λ options is deep holds. holds.given (flag_is (codes "describe --deep") (codes "describe") options is (codes "deep") ∙ refl);
  not_deep = λ options is deep holds. holds.not_given (flag_is (codes "describe") (codes "describe") options is (codes "deep") ∙ refl);
  deep_comparison = λ options is deep holds.
      holds.given (flag_is (codes "compare --deep a b") (codes "compare") options is (codes "deep") ∙ refl);
  no_deep_comparison = λ options is deep holds.
      holds.not_given (flag_is (codes "compare a b") (codes "compare") options is (codes "deep") ∙ refl);
  quiet = λ options is quiet holds. holds.given (flag_is (codes "compare --quiet a b") (codes "compare") options is (codes "quiet") ∙ refl);
  not_quiet = λ options is quiet holds. holds.not_given (flag_is (codes "compare a b") (codes "compare") options is (codes "quiet") ∙ refl);
  signed = λ options is signed holds. holds.given (flag_is (codes "check --signed") (codes "check") options is (codes "signed") ∙ refl);
  not_signed = λ options is signed holds. holds.not_given (flag_is (codes "check") (codes "check") options is (codes "signed") ∙ refl);
  hashes = λ options is hashes holds. holds.given (flag_is (codes "update --hashes") (codes "update") options is (codes "hashes") ∙ refl);
  no_hashes = λ options is hashes holds. holds.not_given (flag_is (codes "update") (codes "update") options is (codes "hashes") ∙ refl);
  default_configuration = λ options is default holds.
      holds.given (flag_is (codes "extract --default") (codes "extract") options is (codes "default") ∙ refl);
  no_default = λ options is default holds.
      holds.not_given (flag_is (codes "extract") (codes "extract") options is (codes "default") ∙ refl);
  all = λ options is all holds.
      holds.given (flag_is (codes "extract --all -o d") (codes "extract") options is (codes "all") ∙ refl);
  not_all = λ options is all holds. holds.not_given (flag_is (codes "extract") (codes "extract") options is (codes "all") ∙ refl);
  escaped = λ options is escaped holds.
      holds.given (flag_is (codes "extract --escaped") (codes "extract") options is (codes "escaped") ∙ refl);
  not_escaped = λ options is escaped holds.
      holds.not_given (flag_is (codes "extract") (codes "extract") options is (codes "escaped") ∙ refl);
}

-- ---- commands

plan_has_name : (name : List ℕ) (options : ArgMatches) (plan : BuildPlan) → IsBuildPlan name options plan → name ≡ name_of_plan plan
plan_has_name name options (build.Legacy plan) is = is.0
plan_has_name name options (build.Fit plan) is = is.0

pub command_names_are_known : CommandNamesAreKnown
command_names_are_known = record {
  compares = λ name options plan is. is.0;
  explains = λ name options is. is.0;
  builds = plan_has_name;
}

-- ---- images and parts

-- An argument other than `-` is the name of a file, and `-` is not.
source_is_file : (argument : List ℕ) → bytes_eq argument (codes "-") ≡ false → (source : ImageSource)
    → IsImageSource (Some argument) source → IsFileNamed argument source
source_is_file argument other Standard is = absurd (other_bytes argument (codes "-") other is)
source_is_file argument other (File name) is = is.0

source_is_input : (source : ImageSource) → IsImageSource (Some (codes "-")) source → source ≡ Standard
source_is_input Standard is = refl
source_is_input (File name) is = absurd (is.1 refl)

-- The same of an option with this value.
pub file_is_named : (option : Option (List ℕ)) (argument : List ℕ) (source : ImageSource) → option ≡ Some argument
    → bytes_eq argument (codes "-") ≡ false → IsImageSource option source → IsFileNamed argument source
file_is_named option argument source given other is =
    source_is_file argument other source (subst (λ o. IsImageSource o source) given is)

is_standard : (option : Option (List ℕ)) (source : ImageSource) → option ≡ Some (codes "-") → IsImageSource option source
    → source ≡ Standard
is_standard option source given is = source_is_input source (subst (λ o. IsImageSource o source) given is)

pub sources_are_known : SourcesAreKnown
unfolding program_app clap_on_literals
sources_are_known = record {
  no_argument = tt;
  minus = refl;
  a_file = (refl, other_bytes (codes "in") (codes "-") refl);
  no_argument_is_no_file = λ name is. is;
  minus_is_no_file = λ name is. is.1 refl;
  file_is_not_input = other_bytes (codes "in") (codes "-") refl;
  compared = λ options is plan holds. (
    file_is_named _ (codes "a") plan.one (option_is (codes "compare a b") (codes "compare") options is (codes "one") ∙ refl) refl holds.one,
    file_is_named _ (codes "b") plan.other (option_is (codes "compare a b") (codes "compare") options is (codes "other") ∙ refl)
        refl holds.other,
  );
  two_inputs = λ options is plan holds.
      subst₂ NamesAFile
      (is_standard _ plan.one (option_is (codes "compare - -") (codes "compare") options is (codes "one") ∙ refl) holds.one)
      (is_standard _ plan.other (option_is (codes "compare - -") (codes "compare") options is (codes "other") ∙ refl) holds.other)
      holds.names_a_file;
}

-- A number that is given.
pub number_of_argument : (argument text : List ℕ) (wanted : ℕ) → argument ≡ text → IsOnlyNumber text wanted → (number : ℕ)
    → IsNumber argument number → number ≡ wanted
number_of_argument argument text wanted same only number is = only.1 number (subst (λ a. IsNumber a number) same is)

pub image_offsets_are_known : ImageOffsetsAreKnown
unfolding program_app clap_on_literals
image_offsets_are_known = record {
  given = λ options is.
      number_of_argument _ (codes "74") 74
      (value_is (codes "list --offset 74 in") (codes "list") options is (codes "offset") (codes "0") ∙ refl)
      (decimal_digits (codes "74") refl refl);
  not_given = λ options is.
      number_of_argument _ (codes "0") 0 (value_is (codes "list in") (codes "list") options is (codes "offset") (codes "0") ∙ refl)
      (decimal_digits (codes "0") refl refl);
  of_show = λ options is.
      number_of_argument _ (codes "0x10") 16
      (value_is (codes "show --offset 0x10 in") (codes "show") options is (codes "offset") (codes "0") ∙ refl)
      (hexadecimal_digits_after (codes "10") refl);
  of_scan = λ options is.
      number_of_argument _ (codes "74") 74
      (value_is (codes "scan --offset 74 in") (codes "scan") options is (codes "offset") (codes "0") ∙ refl)
      (decimal_digits (codes "74") refl refl);
  bad = λ options is number holds.
      is_no_number (codes "x") refl refl number
      (subst (λ a. IsNumber a number)
      (value_is (codes "list --offset x in") (codes "list") options is (codes "offset") (codes "0") ∙ refl)
      holds);
}

length_of_word : (source : PartSource) → IsPartSource (codes "0x10") source → source ≡ part.Input 16
length_of_word (part.Input size) is = ap part.Input ((hexadecimal_digits_after (codes "10") refl).1 size is)
length_of_word (part.File name) is = absurd (omega (arith, ap (λ l. get_or l 0 0) is))

file_of_word : (source : PartSource) → IsPartSource (codes "@h") source → IsPartNamed (codes "h") source
file_of_word (part.Input size) is = absurd (is_no_number (codes "@h") refl refl size is)
file_of_word (part.File name) is = sym (ap (λ l. after_first l) is) where
  after_first : List ℕ → List ℕ
  after_first [] = []
  after_first (byte ∷ later) = later

no_part_of_word : NoneIs (IsPartSource (codes "h"))
no_part_of_word (part.Input size) is = is_no_number (codes "h") refl refl size is
no_part_of_word (part.File name) is = omega (arith, ap (λ l. get_or l 0 0) is)

pub part_words_are_known : PartWordsAreKnown
part_words_are_known = record { a_length = length_of_word; a_file = file_of_word; no_part = no_part_of_word }

-- ---- check and update

same_test : (one other : Bool) → (one ≡ true → other ≡ true) → (other ≡ true → one ≡ true) → one ≡ other
same_test true other to from = sym (to refl)
same_test false true to from = from refl
same_test false false to from = refl

-- A kind is allowed if its word is there.
allowed_is : (words : List (List ℕ)) (allowed : Allowed) → IsAllowed words allowed → (given : ConcernKind)
    → allows allowed given ≡ list_any (bytes_eq (kind_word given)) words
allowed_is words allowed is given =
    let word = kind_word given in
    same_test (allows allowed given) (list_any (bytes_eq word) words)
    (λ holds. passes_any (bytes_eq word) words word ((is.allows given).0 holds) ((bytes_eq-Decides word word).1 refl))
    (λ found.
    let one = any_is_found (bytes_eq word) words found in
    (is.allows given).1 (subst (Contains words) (sym (same_bytes word one.0 one.2)) one.1))

good_is_no_kind : (given : ConcernKind) → ¬ (codes "good" ≡ kind_word given)
good_is_no_kind kind.BadHash = other_bytes _ _ refl
good_is_no_kind kind.SkippedHash = other_bytes _ _ refl
good_is_no_kind kind.Unhashed = other_bytes _ _ refl
good_is_no_kind kind.WeakHash = other_bytes _ _ refl
good_is_no_kind kind.BadList = other_bytes _ _ refl
good_is_no_kind kind.Missing = other_bytes _ _ refl
good_is_no_kind kind.Unsigned = other_bytes _ _ refl
good_is_no_kind kind.NoNodes = other_bytes _ _ refl
good_is_no_kind kind.NoImages = other_bytes _ _ refl
good_is_no_kind kind.Uncovered = other_bytes _ _ refl
good_is_no_kind kind.Foreign = other_bytes _ _ refl
good_is_no_kind kind.Strings = other_bytes _ _ refl
good_is_no_kind kind.UnitAddress = other_bytes _ _ refl
good_is_no_kind kind.BadDefault = other_bytes _ _ refl
good_is_no_kind kind.Trailing = other_bytes _ _ refl

nothing_is_no_kind : (given : ConcernKind) → ¬ ([] ≡ kind_word given)
nothing_is_no_kind kind.BadHash = other_bytes _ _ refl
nothing_is_no_kind kind.SkippedHash = other_bytes _ _ refl
nothing_is_no_kind kind.Unhashed = other_bytes _ _ refl
nothing_is_no_kind kind.WeakHash = other_bytes _ _ refl
nothing_is_no_kind kind.BadList = other_bytes _ _ refl
nothing_is_no_kind kind.Missing = other_bytes _ _ refl
nothing_is_no_kind kind.Unsigned = other_bytes _ _ refl
nothing_is_no_kind kind.NoNodes = other_bytes _ _ refl
nothing_is_no_kind kind.NoImages = other_bytes _ _ refl
nothing_is_no_kind kind.Uncovered = other_bytes _ _ refl
nothing_is_no_kind kind.Foreign = other_bytes _ _ refl
nothing_is_no_kind kind.Strings = other_bytes _ _ refl
nothing_is_no_kind kind.UnitAddress = other_bytes _ _ refl
nothing_is_no_kind kind.BadDefault = other_bytes _ _ refl
nothing_is_no_kind kind.Trailing = other_bytes _ _ refl

pub allowed_words_are_known : AllowedWordsAreKnown
allowed_words_are_known = record {
  no_value = λ allowed is. (λ i. map kind_word (filter (λ given. is given i) each_kind)) ∙ refl;
  two = λ allowed is.
      (λ i. map kind_word (filter (λ given. allowed_is (listed_words (codes "trailing,weak-hash")) allowed is given i) each_kind)) ∙ refl;
  about_signatures = λ allowed is.
      (λ i. map kind_word
      (filter (λ given. allowed_is (listed_words (codes "unit-address,skipped-hash,uncovered")) allowed is given i) each_kind)) ∙ refl;
  other_word = λ allowed is. good_is_no_kind is.known.1.0.0 is.known.1.0.1;
  empty_word = λ allowed is. nothing_is_no_kind is.known.0.0 is.known.0.1;
}

-- The new time of an option.
time_given : (option : Option (List ℕ)) (argument : List ℕ) (number : ℕ) → option ≡ Some argument → IsOnlyNumber argument number
    → (time : Option ℕ) → IsNewTime option time → time ≡ Some number
time_given option argument number given only time is = by time (subst (λ o. IsNewTime o time) given is) where
  by : (time : Option ℕ) → IsNewTime (Some argument) time → time ≡ Some number
  by None is = absurd is
  by (Some other) is = ap Some (only.1 other is)

pub no_time_given : (option : Option (List ℕ)) → option ≡ None → (time : Option ℕ) → IsNewTime option time → time ≡ None
no_time_given option missing time is = by time (subst (λ o. IsNewTime o time) missing is) where
  by : (time : Option ℕ) → IsNewTime None time → time ≡ None
  by None is = refl
  by (Some other) is = absurd is

bad_time_given : (option : Option (List ℕ)) (argument : List ℕ) → option ≡ Some argument → NoneIs (IsNumber argument)
    → (time : Option ℕ) → IsNewTime option time → ⊥
bad_time_given option argument given not_number time is = by time (subst (λ o. IsNewTime o time) given is) where
  by : (time : Option ℕ) → IsNewTime (Some argument) time → ⊥
  by None is = is
  by (Some other) is = not_number other is

pub changes_are_known : ChangesAreKnown
unfolding program_app clap_on_literals
changes_are_known = record {
  time = λ options is changes holds.
      let time = time_given _ (codes "5") 5
      (option_is (codes "update --time 5") (codes "update") options is (codes "time") ∙ refl)
      (decimal_digits (codes "5") refl refl)
      changes.time holds.time in
      let hashes = holds.hashes.not_given (flag_is (codes "update --time 5") (codes "update") options is (codes "hashes") ∙ refl) in
      (λ i. record { time = time i; hashes = hashes i });
  hashes = λ options is changes holds.
      let time = no_time_given _
      (option_is (codes "update --hashes") (codes "update") options is (codes "time") ∙ refl) changes.time holds.time in
      let hashes = holds.hashes.given (flag_is (codes "update --hashes") (codes "update") options is (codes "hashes") ∙ refl) in
      (λ i. record { time = time i; hashes = hashes i });
  both = λ options is changes holds.
      let time = time_given _ (codes "0") 0
      (option_is (codes "update --hashes --time 0") (codes "update") options is (codes "time") ∙ refl)
      (decimal_digits (codes "0") refl refl)
      changes.time holds.time in
      let hashes = holds.hashes.given (flag_is (codes "update --hashes --time 0") (codes "update") options is (codes "hashes") ∙ refl) in
      (λ i. record { time = time i; hashes = hashes i });
  no_change = λ options is changes holds.
      let time = no_time_given _ (option_is (codes "update") (codes "update") options is (codes "time") ∙ refl) changes.time holds.time in
      let hashes = holds.hashes.not_given (flag_is (codes "update") (codes "update") options is (codes "hashes") ∙ refl) in
      (λ i. record { time = time i; hashes = hashes i });
  bad_time = λ options is changes holds.
      bad_time_given _ (codes "x")
      (option_is (codes "update --time x") (codes "update") options is (codes "time") ∙ refl)
      (is_no_number (codes "x") refl refl) changes.time
      holds.time;
}

-- ---- extract

key_is_fdt : (key : Key) → codes "fdt" ≡ key_name key → key ≡ Fdt
key_is_fdt Kernel same = absurd (other_bytes (codes "fdt") (codes "kernel") refl same)
key_is_fdt Fdt same = refl
key_is_fdt Ramdisk same = absurd (other_bytes (codes "fdt") (codes "ramdisk") refl same)
key_is_fdt Firmware same = absurd (other_bytes (codes "fdt") (codes "firmware") refl same)
key_is_fdt Loadables same = absurd (other_bytes (codes "fdt") (codes "loadables") refl same)
key_is_fdt Script same = absurd (other_bytes (codes "fdt") (codes "script") refl same)

-- The argument of a name that is escaped or not.
plain_name : (escaped : Bool) → escaped ≡ false → (argument name : List ℕ) → IsNameOf escaped argument name → name ≡ argument
plain_name true escapes argument name is = absurd (true≢false escapes)
plain_name false escapes argument name is = is

escaped_name : (escaped : Bool) → escaped ≡ true → (name : List ℕ) → IsNameOf escaped (codes "%2D") name → name ≡ codes "-"
escaped_name true escapes name is = sym (is.only (codes "-") refl)
escaped_name false escapes name is = absurd (true≢false (sym escapes))

module _ (options : ArgMatches) (escaped : Bool) where
  -- A flag that is given and is not.
  not_given_twice : default_flag options ≡ Some (codes "true") → ¬ (SelectsDefault options false)
  not_given_twice flag is = true≢false (sym (is.given flag))

  given_once : default_flag options ≡ Some (codes "false") → ¬ (SelectsDefault options true)
  given_once flag is = true≢false (is.not_given flag)

  entry_is : value_of options (codes "key") (codes "kernel") ≡ codes "fdt" → value_of options (codes "index") (codes "0") ≡ codes "2"
      → (entry : Key × ℕ) → IsEntry options entry → (entry.0 ≡ Fdt) × (entry.1 ≡ 2)
  entry_is key index entry is = (
    key_is_fdt entry.0 (sym key ∙ is.key),
    (decimal_digits (codes "2") refl refl).1 entry.1 (subst (λ a. IsNumber a entry.1) index is.index),
  )

  part_selected : option_of options (codes "part") ≡ Some (codes "1") → (selection : Selected)
      → IsSelection options escaped selection → selection ≡ select.Part 1
  part_selected given (select.Part index) is =
      let argument = same_value _ is.0 (codes "1") is.1.part_is given in
      ap select.Part ((decimal_digits (codes "1") refl refl).1 index (subst (λ a. IsNumber a index) argument is.3))
  part_selected given (select.Image name) is = absurd (not_given_and_missing _ (codes "1") given is.1.part_is)
  part_selected given (select.Config name key index) is = absurd (not_given_and_missing _ (codes "1") given is.1.part_is)
  part_selected given (select.Default key index) is = absurd (not_given_and_missing _ (codes "1") given is.0.part_is)

  image_selected : (argument wanted : List ℕ) → option_of options (codes "image") ≡ Some argument
      → ((name : List ℕ) → IsNameOf escaped argument name → name ≡ wanted) → (selection : Selected)
      → IsSelection options escaped selection → SelectsImage wanted selection
  image_selected argument wanted given names (select.Part index) is = absurd (not_given_and_missing _ argument given is.1.image_is)
  image_selected argument wanted given names (select.Image name) is =
      names name.items (subst (λ a. IsNameOf escaped a name.items) (same_value _ is.0 argument is.1.image_is given) is.3)
  image_selected argument wanted given names (select.Config name key index) is =
      absurd (not_given_and_missing _ argument given is.1.image_is)
  image_selected argument wanted given names (select.Default key index) is = absurd (not_given_and_missing _ argument given is.0.image_is)

  entry_selected : option_of options (codes "config") ≡ Some (codes "c") → escaped ≡ false
      → value_of options (codes "key") (codes "kernel") ≡ codes "fdt" → value_of options (codes "index") (codes "0") ≡ codes "2"
      → (selection : Selected) → IsSelection options escaped selection → SelectsEntry (codes "c") Fdt 2 selection
  entry_selected given plain key index (select.Part number) is = absurd (not_given_and_missing _ (codes "c") given is.1.config_is)
  entry_selected given plain key index (select.Image name) is = absurd (not_given_and_missing _ (codes "c") given is.1.config_is)
  entry_selected given plain key index (select.Config name other other_index) is =
      let argument = same_value _ is.0 (codes "c") is.1.config_is given in
      let entry = entry_is key index (other, other_index) is.2 in
      (plain_name escaped plain is.0 name.items is.3 ∙ argument, entry.0, entry.1)
  entry_selected given plain key index (select.Default other number) is = absurd (not_given_and_missing _ (codes "c") given is.0.config_is)

  default_selected : default_flag options ≡ Some (codes "true")
      → value_of options (codes "key") (codes "kernel") ≡ codes "fdt" → value_of options (codes "index") (codes "0") ≡ codes "2"
      → (selection : Selected) → IsSelection options escaped selection → selection ≡ select.Default Fdt 2
  default_selected flag key index (select.Part number) is = absurd (not_given_twice flag is.1.default_is)
  default_selected flag key index (select.Image name) is = absurd (not_given_twice flag is.1.default_is)
  default_selected flag key index (select.Config name other number) is = absurd (not_given_twice flag is.1.default_is)
  default_selected flag key index (select.Default other number) is =
      let entry = entry_is key index (other, number) is.1 in
      (λ i. select.Default (entry.0 i) (entry.1 i))

  none_selected : option_of options (codes "part") ≡ None → option_of options (codes "image") ≡ None
      → option_of options (codes "config") ≡ None → default_flag options ≡ Some (codes "false") → (selection : Selected)
      → IsSelection options escaped selection → ⊥
  none_selected part image config flag (select.Part index) is = not_given_and_missing _ is.0 is.1.part_is part
  none_selected part image config flag (select.Image name) is = not_given_and_missing _ is.0 is.1.image_is image
  none_selected part image config flag (select.Config name key index) is = not_given_and_missing _ is.0 is.1.config_is config
  none_selected part image config flag (select.Default key index) is = given_once flag is.0.default_is

  two_selected : option_of options (codes "part") ≡ Some (codes "0") → default_flag options ≡ Some (codes "true") → (selection : Selected)
      → IsSelection options escaped selection → ⊥
  two_selected part flag (select.Part index) is = not_given_twice flag is.1.default_is
  two_selected part flag (select.Image name) is = not_given_and_missing _ (codes "0") part is.1.part_is
  two_selected part flag (select.Config name key index) is = not_given_and_missing _ (codes "0") part is.1.part_is
  two_selected part flag (select.Default key index) is = not_given_and_missing _ (codes "0") part is.0.part_is

-- How many selections are given.
count_is : (options : ArgMatches) (part image config : Option (List ℕ)) (default wanted : Bool) → option_of options (codes "part") ≡ part
    → option_of options (codes "image") ≡ image → option_of options (codes "config") ≡ config → default ≡ wanted
    → given_count options default
    ≡ count_by (λ given. given) (is_some part ∷ is_some image ∷ is_some config ∷ wanted ∷ [])
count_is options part image config default wanted part_is image_is config_is is =
    (λ i. count_by (λ given. given) (is_some (part_is i) ∷ is_some (image_is i) ∷ is_some (config_is i) ∷ is i ∷ []))

-- The failure if none is given, and if two are.
none_fails : (options : ArgMatches) → option_of options (codes "part") ≡ None → option_of options (codes "image") ≡ None
    → option_of options (codes "config") ≡ None → default_flag options ≡ Some (codes "false")
    → IsOnlyOne (IsSelectionFailure options) NoSelection
none_fails options part image config flag NoSelection is = refl
none_fails options part image config flag BadValue is =
    absurd (omega (arith, is.one, count_is options None None None is.default false part image config (is.default_is.not_given flag)))
none_fails options part image config flag other is = absurd is

two_fail : (options : ArgMatches) → option_of options (codes "part") ≡ Some (codes "0") → option_of options (codes "image") ≡ None
    → option_of options (codes "config") ≡ None → default_flag options ≡ Some (codes "true")
    → IsOnlyOne (IsSelectionFailure options) NoSelection
two_fail options part image config flag NoSelection is = refl
two_fail options part image config flag BadValue is =
    absurd (omega (
      arith,
      is.one,
      count_is options (Some (codes "0")) None None is.default true part image config
          (is.default_is.given flag),
    ))
two_fail options part image config flag other is = absurd is

pub selections_are_known : SelectionsAreKnown
unfolding program_app clap_on_literals
selections_are_known = record {
  a_part = λ options is selection selected.
      let line = codes "extract --part 1" in
      part_selected options selected.0 (option_is line (codes "extract") options is (codes "part") ∙ refl) selection selected.2;
  an_image = λ options is selection selected.
      let line = codes "extract --image %2D" in
      let plain = selected.1.not_given (flag_is line (codes "extract") options is (codes "escaped") ∙ refl) in
      image_selected options selected.0 (codes "%2D") (codes "%2D")
      (option_is line (codes "extract") options is (codes "image") ∙ refl)
      (plain_name selected.0 plain (codes "%2D")) selection selected.2;
  escaped_image = λ options is selection selected.
      let line = codes "extract --escaped --image %2D" in
      let escapes = selected.1.given (flag_is line (codes "extract") options is (codes "escaped") ∙ refl) in
      image_selected options selected.0 (codes "%2D") (codes "-")
      (option_is line (codes "extract") options is (codes "image") ∙ refl) (escaped_name selected.0 escapes) selection selected.2;
  an_entry = λ options is selection selected.
      let line = codes "extract --config c --key fdt --index 2" in
      let plain = selected.1.not_given (flag_is line (codes "extract") options is (codes "escaped") ∙ refl) in
      entry_selected options selected.0 (option_is line (codes "extract") options is (codes "config") ∙ refl) plain
      (value_is line (codes "extract") options is (codes "key") (codes "kernel") ∙ refl)
      (value_is line (codes "extract") options is (codes "index") (codes "0") ∙ refl)
      selection selected.2;
  default_entry = λ options is selection selected.
      let line = codes "extract --default --key fdt --index 2" in
      default_selected options selected.0 (flag_is line (codes "extract") options is (codes "default") ∙ refl)
      (value_is line (codes "extract") options is (codes "key") (codes "kernel") ∙ refl)
      (value_is line (codes "extract") options is (codes "index") (codes "0") ∙ refl)
      selection selected.2;
  no_selection = λ options is.
      let line = codes "extract" in
      let part : option_of options (codes "part") ≡ None = option_is line (codes "extract") options is (codes "part") ∙ refl in
      let image : option_of options (codes "image") ≡ None = option_is line (codes "extract") options is (codes "image") ∙ refl in
      let config : option_of options (codes "config") ≡ None = option_is line (codes "extract") options is (codes "config") ∙ refl in
      let flag : default_flag options ≡ Some (codes "false") = flag_is line (codes "extract") options is (codes "default") ∙ refl in (
        λ selection selected. none_selected options selected.0 part image config flag selection selected.2,
        none_fails options part image config flag,
      );
  two_selections = λ options is.
      let line = codes "extract --part 0 --default" in
      let part : option_of options (codes "part") ≡ Some (codes "0") =
      option_is line (codes "extract") options is (codes "part") ∙ refl in
      let image : option_of options (codes "image") ≡ None = option_is line (codes "extract") options is (codes "image") ∙ refl in
      let config : option_of options (codes "config") ≡ None = option_is line (codes "extract") options is (codes "config") ∙ refl in
      let flag : default_flag options ≡ Some (codes "true") = flag_is line (codes "extract") options is (codes "default") ∙ refl in (
        λ selection selected. two_selected options selected.0 part flag selection selected.2,
        two_fail options part image config flag,
      );
}

-- ---- extract --all

-- The default configuration is not selected.
no_default_given : (options : ArgMatches) → default_flag options ≡ Some (codes "false") → SelectsDefault options false
no_default_given options flag = record {
  given = λ yes.
      absurd (other_bytes (codes "true") (codes "false") refl (same_value (default_flag options) (codes "true") (codes "false") yes flag));
  not_given = λ no. refl;
  unknown = λ none. refl;
}

-- No key has this name.
pub no_key_is : (key : Key) → ¬ (codes "dtb" ≡ key_name key)
no_key_is Kernel same = other_bytes (codes "dtb") (codes "kernel") refl same
no_key_is Fdt same = other_bytes (codes "dtb") (codes "fdt") refl same
no_key_is Ramdisk same = other_bytes (codes "dtb") (codes "ramdisk") refl same
no_key_is Firmware same = other_bytes (codes "dtb") (codes "firmware") refl same
no_key_is Loadables same = other_bytes (codes "dtb") (codes "loadables") refl same
no_key_is Script same = other_bytes (codes "dtb") (codes "script") refl same

-- The failure where nothing else is selected, and where a part is.
bad_all_value : (options : ArgMatches) → option_of options (codes "part") ≡ None → option_of options (codes "image") ≡ None
    → option_of options (codes "config") ≡ None → default_flag options ≡ Some (codes "false")
    → IsOnlyOne (IsAllFailure options) BadValue
bad_all_value options part image config flag NoSelection is =
    absurd (is.some (count_is options None None None is.default false part image config (is.default_is.not_given flag) ∙ refl))
bad_all_value options part image config flag BadValue is = refl
bad_all_value options part image config flag other is = absurd is

part_is_given : (options : ArgMatches) → option_of options (codes "part") ≡ Some (codes "0") → option_of options (codes "image") ≡ None
    → option_of options (codes "config") ≡ None → default_flag options ≡ Some (codes "false") → ¬ (IsNoneGiven options)
part_is_given options part image config flag is =
    omega (
      arith,
      is.none,
      count_is options (Some (codes "0")) None None is.default false part image config (is.default_is.not_given flag),
    )

all_and_part : (options : ArgMatches) → ¬ (IsNoneGiven options) → IsOnlyOne (IsAllFailure options) NoSelection
all_and_part options given NoSelection is = refl
all_and_part options given BadValue is = absurd (given is.0)
all_and_part options given other is = absurd is

pub all_requests_are_known : AllRequestsAreKnown
unfolding program_app clap_on_literals
all_requests_are_known = record {
  given = λ options is.
      let line = codes "extract --all -o d --offset 7 in" in
      let name = codes "extract" in
      let part : option_of options (codes "part") ≡ None = option_is line name options is (codes "part") ∙ refl in
      let image : option_of options (codes "image") ≡ None = option_is line name options is (codes "image") ∙ refl in
      let config : option_of options (codes "config") ≡ None = option_is line name options is (codes "config") ∙ refl in
      let flag : default_flag options ≡ Some (codes "false") = flag_is line name options is (codes "default") ∙ refl in
      let directory : option_of options (codes "output") ≡ Some (codes "d") = option_is line name options is (codes "output") ∙ refl in (
        record {
          default = false;
          default_is = no_default_given options flag;
          none = count_is options None None None false false part image config refl ∙ refl;
        },
        λ request holds. record {
          directory_is = same_value (option_of options (codes "output")) request.directory.now (codes "d") holds.directory directory;
          offset_is = number_of_argument _ (codes "7") 7 (value_is line name options is (codes "offset") (codes "0") ∙ refl)
              (decimal_digits (codes "7") refl refl) request.offset holds.offset;
          source_is = file_is_named _ (codes "in") request.source (option_is line name options is (codes "file") ∙ refl) refl
              holds.source;
        },
      );
  no_directory = λ options is.
      let line = codes "extract --all in" in
      let name = codes "extract" in
      let none : option_of options (codes "output") ≡ None = option_is line name options is (codes "output") ∙ refl in (
        λ request holds. not_given_and_missing (option_of options (codes "output")) request.directory.now holds.directory none,
        bad_all_value options (option_is line name options is (codes "part") ∙ refl) (option_is line name options is (codes "image") ∙ refl)
            (option_is line name options is (codes "config") ∙ refl) (flag_is line name options is (codes "default") ∙ refl),
      );
  bad_key = λ options is.
      let line = codes "extract --all --key dtb -o d in" in
      let name = codes "extract" in
      let key : value_of options (codes "key") (codes "kernel") ≡ codes "dtb" =
      value_is line name options is (codes "key") (codes "kernel") ∙ refl in (
        λ request holds. no_key_is holds.has_entry.0.0 (sym key ∙ holds.has_entry.1.key),
        bad_all_value options (option_is line name options is (codes "part") ∙ refl) (option_is line name options is (codes "image") ∙ refl)
            (option_is line name options is (codes "config") ∙ refl) (flag_is line name options is (codes "default") ∙ refl),
      );
  two_selections = λ options is.
      let line = codes "extract --all --part 0 -o d in" in
      let name = codes "extract" in
      let given : ¬ (IsNoneGiven options) =
      part_is_given options (option_is line name options is (codes "part") ∙ refl) (option_is line name options is (codes "image") ∙ refl)
      (option_is line name options is (codes "config") ∙ refl) (flag_is line name options is (codes "default") ∙ refl) in
      (given, all_and_part options given);
}

-- ---- building

-- A name that is given.
pub code_given : (field : CodeField) (argument text : List ℕ) (wanted : ℕ) → argument ≡ text → IsOnlyCode field text wanted → (code : ℕ)
    → IsCode field argument code → code ≡ wanted
code_given field argument text wanted same only code is = only.1 code (subst (λ a. IsCode field a code) same is)

fields_of_line : HoldsFor line_of_fields (codes "build-legacy")
    (λ options. (fields : Fields) → IsFields options fields → AreFieldsOfLine fields)
unfolding program_app clap_on_literals
fields_of_line options is fields holds =
    let value = value_is line_of_fields (codes "build-legacy") options is in
    record {
      time = number_of_argument _ (codes "1") 1 (value (codes "time") (codes "0") ∙ refl) (decimal_digits (codes "1") refl refl) fields.time
          holds.time;
      load = number_of_argument _ (codes "2") 2 (value (codes "load") (codes "0") ∙ refl) (decimal_digits (codes "2") refl refl) fields.load
          holds.load;
      entry = number_of_argument _ (codes "3") 3 (value (codes "entry") (codes "0") ∙ refl) (decimal_digits (codes "3") refl refl)
          fields.entry holds.entry;
      os = code_given Os _ (codes "linux") 5 (value (codes "os") [] ∙ refl) (code_with_name Os (codes "linux") 5 refl) fields.os
          holds.os;
      arch = code_given Arch _ (codes "arm64") 22 (value (codes "arch") [] ∙ refl) (code_with_name Arch (codes "arm64") 22 refl)
          fields.arch holds.arch;
      image_type = code_given ImageType _ (codes "kernel") 2 (value (codes "type") [] ∙ refl)
          (code_with_name ImageType (codes "kernel") 2 refl) fields.image_type holds.image_type;
      compression = code_given Compression _ (codes "gzip") 1 (value (codes "compression") (codes "none") ∙ refl)
          (code_with_name Compression (codes "gzip") 1 refl) fields.compression holds.compression;
      name = holds.name ∙ value (codes "name") [] ∙ refl;
    }

-- An address of an image, or none.
address_given : (address : Option ℕ) → IsAddress (codes "0x8000") address → address ≡ Some 32768
address_given None is = absurd (other_bytes (codes "0x8000") (codes "-") refl is)
address_given (Some number) is = ap Some ((hexadecimal_digits_after (codes "8000") refl).1 number is)

no_address : (address : Option ℕ) → IsAddress (codes "-") address → address ≡ None
no_address None is = refl
no_address (Some number) is = absurd (is_no_number (codes "-") refl refl number is)

length_of_payload : (source : PartSource) → IsPartSource (codes "5") source → source ≡ part.Input 5
length_of_payload (part.Input size) is = ap part.Input ((decimal_digits (codes "5") refl refl).1 size is)
length_of_payload (part.File name) is = absurd (omega (arith, ap (λ l. get_or l 0 0) is))

-- The field at an index of a list of fields.
abbrev pub field_at : List (List ℕ) → ℕ → List ℕ
field_at fields index = unwrap_or (slice_get fields index) []

image_of_word : (word : ImageWord) → IsImageText (codes "k:kernel:arm64:linux:gzip:0x8000:-:5") word
    → IsImageOfWord word.image word.payload
image_of_word word is =
    let field : (index : ℕ) → field_at (parts_of (codes "k:kernel:arm64:linux:gzip:0x8000:-:5")) index ≡ field_at (list_of is.0) index
    = λ index. ap (λ fields. field_at fields index) is.1 in
    record {
      name = is.2.name ∙ sym (field 0);
      image_type = code_given ImageType _ (codes "kernel") 2 (sym (field 1)) (code_with_name ImageType (codes "kernel") 2 refl)
          word.image.image_type is.2.image_type;
      arch = code_given Arch _ (codes "arm64") 22 (sym (field 2)) (code_with_name Arch (codes "arm64") 22 refl) word.image.arch is.2.arch;
      os = code_given Os _ (codes "linux") 5 (sym (field 3)) (code_with_name Os (codes "linux") 5 refl) word.image.os is.2.os;
      compression = code_given Compression _ (codes "gzip") 1 (sym (field 4)) (code_with_name Compression (codes "gzip") 1 refl)
          word.image.compression is.2.compression;
      load = address_given word.image.load (subst (λ a. IsAddress a word.image.load) (sym (field 5)) is.2.load);
      entry = no_address word.image.entry (subst (λ a. IsAddress a word.image.entry) (sym (field 6)) is.2.entry);
      source = length_of_payload word.payload (subst (λ a. IsPartSource a word.payload) (sym (field 7)) is.2.source);
    }

pub plans_are_known : PlansAreKnown
plans_are_known = record {
  fields = fields_of_line;
  image = image_of_word;
  few_fields = λ image is. omega (arith, ap (λ fields. length fields) is.1);
}
