use Rattle.std.specs.Prelude.{◌≡◌, ◌≢◌, ◌<◌, ◌≤◌, ◌==◌, ◌⊎◌, ◌↔◌, ⊤, ℕ, List, [], ◌∷◌, length}
use Rattle.std.specs.Prelude.{Option, Some, None, option_map, is_some, slice_get, unwrap_or}
use Rattle.std.specs.Prelude.{count_by, codes}
use Rattle.std.specs.Prelude.{map, ◌++◌, Bool, true, false, IsTrue, IsFalse, if◌then◌else◌}
use Rattle.std.specs.Borrow.{Bor}
use Rattle.std.specs.List.{AllByRecursion, AllZip, Contains, list_any}
use Rattle.std.specs.Option.{option_map_or}
use Rattle.bi_base.specs.declared.align.Align.{Align}
use Rattle.bi_base.specs.Aligns.{align_bytes}
use Rattle.bi_base.specs.Limits.{Limits}
use Rattle.bi_base.specs.declared.fault.Error.TheVariants.{OutOfMemory}
use Rattle.bi_fit.specs.Names.{key_name}
use Rattle.bi_fit.specs.declared.changes.Changes.{Changes}
use Rattle.bi_fit.specs.declared.form.Form.{Form}
use Rattle.bi_fit.specs.declared.form.Form.TheVariants.{Embedded, External, Aligned}
use Rattle.bi_fit.specs.declared.key.Key.{Key}
use Rattle.bi_legacy.specs.declared.fields.Fields.{Fields}
use Rattle.bi_hash.specs.declared.algo.Algo.{Algo}
use Rattle.bi_norm.specs.FitBuilding.{image_texts_model, multi, names_of_specs}
use Rattle.bi_norm.specs.declared.fit_building.ImageSpec.{ImageSpec}
use Rattle.bi_norm.specs.declared.fit_building.ImageTexts.{ImageTexts}
use Rattle.bootimg.specs.CodeWords.{IsCode, text_of_code, four_texts}
use Rattle.bootimg.specs.ConfigurationWords.{AreConfigurations, AreHashes, IsDefault}
use Rattle.bootimg.specs.ConfigurationWords.{name_of_word}
use Rattle.bootimg.specs.EditOptions.{AreGivenEdits, ArePayloadWords}
use Rattle.bootimg.specs.OwnTexts.{AreDescriptions, AreNamedTexts}
use Rattle.bootimg.specs.Explanations.{IsAbout}
use Rattle.bootimg.specs.declared.explanations.Topic.{Topic}
use Rattle.bootimg.specs.ConfigurationWords.{IsFirstBadConfiguration}
use Rattle.bootimg.specs.Words.{listed_words, parts_of}
use Rattle.bootimg.specs.Numbers.{IsNumber}
use Rattle.bootimg.specs.declared.codes.CodeField.TheVariants.{Os, Arch, ImageType, Compression}
use Rattle.bootimg.specs.declared.command_line.NoRequest.{NoRequest}
use Rattle.bootimg.specs.declared.command_line.NoRequest.TheVariants as outcome
use Rattle.bootimg.specs.declared.command_line.ImagePlan.{ImagePlan}
use Rattle.bootimg.specs.declared.command_line.Job.{Job}
use Rattle.bootimg.specs.declared.command_line.Job.TheVariants.{Run, Compare, Build, Explain}
use Rattle.bootimg.specs.declared.command_line.Job.TheVariants.{Edit}
use Rattle.bootimg.specs.declared.command_line.Order.{Order}
use Rattle.bootimg.specs.declared.command_line.Order.TheVariants as order
use Rattle.bootimg.specs.declared.command_line.Request.{Request}
use Rattle.bootimg.specs.declared.command_line.Task.{Task}
use Rattle.bootimg.specs.declared.command_line.Task.TheVariants as task
use Rattle.bootimg.specs.declared.command_line.build.BuildPlan.{BuildPlan}
use Rattle.bootimg.specs.declared.command_line.build.BuildPlan.TheVariants.{Legacy, Fit}
use Rattle.bootimg.specs.declared.command_line.build.FitPlan.{FitPlan}
use Rattle.bootimg.specs.declared.command_line.build.LegacyPlan.{LegacyPlan}
use Rattle.bootimg.specs.declared.command_line.edits.EditPlan.{EditPlan}
use Rattle.bootimg.specs.declared.command_line.image.ImageFields.{ImageFields}
use Rattle.bootimg.specs.declared.command_line.image.ImageWord.{ImageWord}
use Rattle.bootimg.specs.declared.command_line.images.ImagesRequest.{ImagesRequest}
use Rattle.bootimg.specs.declared.command_line.part.PartSource.{PartSource}
use Rattle.bootimg.specs.declared.command_line.part.PartSource.TheVariants as part
use Rattle.bootimg.specs.declared.command_line.show.ShowForm.{ShowForm}
use Rattle.bootimg.specs.declared.command_line.show.ShowForm.TheVariants as show_form
use Rattle.bootimg.specs.declared.command_line.texts.OwnTexts.{OwnTexts}
use Rattle.bootimg.specs.declared.command_line.source.ComparePlan.{ComparePlan}
use Rattle.bootimg.specs.declared.command_line.source.ImageSource.{ImageSource}
use Rattle.bootimg.specs.declared.command_line.source.ImageSource.TheVariants.{Standard, File}
use Rattle.bi_common.specs.declared.format.Format.{Format}
use Rattle.bi_common.specs.declared.format.Format.TheVariants.{Lines, Json}
use Rattle.bi_common.specs.Unshown.{IsNameShownAs}
use Rattle.bi_edit.specs.declared.form_choice.FormChoice.{FormChoice}
use Rattle.bi_edit.specs.declared.form_choice.FormChoice.TheVariants as choice
use Rattle.bi_describe.specs.IgnoredWords.{AreWordsOfValues}
use Rattle.bi_describe.specs.Ignoring.{Ignored}
use Rattle.bi_describe.specs.MadeWords.{ignored_words}
use Rattle.bi_report.specs.Checking.{kind_word, allows as allows_kind}
use Rattle.bi_report.specs.declared.check.Allowed.{Allowed}
use Rattle.bi_report.specs.declared.check.Policy.{Policy}
use Rattle.bi_report.specs.declared.check.ConcernKind.{ConcernKind}
use Rattle.bi_values.specs.NameWords.{AreWordsOf}
use Rattle.bi_values.specs.ValueNames.{value_name_models, words_of_value}
use Rattle.bi_values.specs.declared.value_form.ValueForm.TheVariants.{Raw}
use Rattle.bootimg.specs.ValueWords.{form_argument, texts_of_value}
use Rattle.bootimg.specs.declared.command_line.values.GetPlan.{GetPlan}
use Rattle.bootimg.specs.declared.command_line.extract.AllRequest.{AllRequest}
use Rattle.bootimg.specs.declared.command_line.extract.Selected.{Selected}
use Rattle.bootimg.specs.declared.command_line.extract.Selected.TheVariants.{Part, Image, Config}
use Rattle.bootimg.specs.declared.command_line.extract.Selected.TheVariants.{Default}
use Rattle.bootimg.specs.declared.failure.Failure.{Failure}
use Rattle.bootimg.specs.declared.failure.Failure.TheVariants.{Call, NoSelection, NoChange}
use Rattle.bootimg.specs.declared.failure.Failure.TheVariants.{BadValue, BadImage, BadConfiguration}
use Rattle.clap.specs.Matches.{found_of, matched_of, first_value, one_text, raw_values}
use Rattle.clap.specs.Faults.{fault_of}
use Rattle.clap.specs.Kinds.{IsAmong}
use Rattle.clap.specs.Simple.{subcommand_of}
use Rattle.clap.specs.Values.{kind_of}
use Rattle.clap.specs.Walk.{rows_of}
use Rattle.clap.specs.declared.error.Error.{Error as ClapError}
use Rattle.clap.specs.declared.error.kind.ErrorKind.{ErrorKind}
use Rattle.clap.specs.declared.error.kind.ErrorKind.TheVariants as error_kind
use Rattle.clap.specs.declared.parser.matches.ArgMatches.{ArgMatches}
use Rattle.bootimg.specs.Program.{IsAmongNames, program_app, writes_image}

-- What the arguments of the program request (profile of this project).

-- If `build-fit` is to build this, there are as many lengths or files as images.
abbrev pub HasLengths : BuildPlan → Type 0
HasLengths (Legacy plan) = ⊤
HasLengths (Fit plan) = length plan.payloads.items ≡ length plan.images.items

-- If a job is to build a flattened image tree, there are as many lengths or files as images.
abbrev pub HasJobLengths : Job → Type 0
HasJobLengths (Run plan) = ⊤
HasJobLengths (Compare plan) = ⊤
HasJobLengths (Edit plan) = ⊤
HasJobLengths (Explain topic) = ⊤
HasJobLengths (Build plan) = HasLengths plan

-- The parts of the image to be built.
abbrev pub sources_of : BuildPlan → List PartSource
sources_of (Legacy plan) = plan.parts.items
sources_of (Fit plan) = plan.payloads.items

-- ---- options

-- The value of an option, if it has one.
abbrev pub option_of : ArgMatches → List ℕ → Option (List ℕ)
option_of options id = first_value (found_of options) id

-- The value of an option, or this default.
abbrev pub value_of : ArgMatches → List ℕ → List ℕ → List ℕ
value_of options id default = unwrap_or (option_of options id) default

-- The texts of arguments.
abbrev pub texts_of : List (Bor (List ℕ)) → List (List ℕ)
texts_of arguments = map (λ argument. argument.now) arguments

-- The positional arguments of this name.
abbrev pub values_of : ArgMatches → List ℕ → List (List ℕ)
values_of options id = option_map_or raw_values (matched_of (found_of options) id) []

-- The flag with this text is given or not: it is given if the text is `true`.
pub record IsFlag (text : Option (List ℕ)) (is_given : Bool) : Type 0 where
  pub given : text ≡ Some (codes "true") → is_given ≡ true
  pub not_given : text ≡ Some (codes "false") → is_given ≡ false
  pub unknown : text ≡ None → is_given ≡ false

-- No value is one of these.
abbrev pub NoneIs : {T : Type 0} → (T → Type 0) → Type 0
NoneIs {T} Is = (value : T) → Is value → ⊥

-- The failure is this one, and no value is one of these.
abbrev pub IsBad : {T : Type 0} → Failure → (T → Type 0) → Failure → Type 0
IsBad bad Is failure = (failure ≡ bad) × NoneIs Is

-- The failure is that of a bad value, and no value is one of these.
abbrev pub IsBadValue : {T : Type 0} → (T → Type 0) → Failure → Type 0
IsBadValue Is failure = (failure ≡ BadValue) × NoneIs Is

-- The outcome is such a failure, or memory ran out.
abbrev pub IsFailureOutcome : (Failure → Type 0) → NoRequest → Type 0
IsFailureOutcome IsFailure (outcome.Failure failure) =
    IsFailure failure ⊎ (failure ≡ Call OutOfMemory)
IsFailureOutcome IsFailure (outcome.Text text) = ⊥

-- ---- options of several commands

-- The value of `--limit`.
abbrev pub limit_of : ArgMatches → List ℕ
limit_of options = value_of options (codes "limit") (codes "2147483647")

-- The argument is a number, which is the most bytes of an image. A tree may have 64 levels.
pub record IsLimits (argument : List ℕ) (limits : Limits) : Type 0 where
  pub file : IsNumber argument limits.file
  pub least : 64 ≤ limits.file
  pub most : limits.file ≤ 0x7fffffff
  pub depth : limits.depth ≡ 64

-- The value of `--offset`. It is the default for a command without that option.
abbrev pub given_offset : ArgMatches → List ℕ
given_offset options = value_of options (codes "offset") (codes "0")

-- The text of the flag `--external`: `true` or `false`.
abbrev pub external_flag : ArgMatches → Option (List ℕ)
external_flag options = one_text (found_of options) (codes "external")

-- The value of `--align`, if it is given.
abbrev pub align_option : ArgMatches → Option (List ℕ)
align_option options = option_of options (codes "align")

-- The argument is the number of bytes of this alignment.
abbrev pub IsAlignOf : List ℕ → Align → Type 0
IsAlignOf argument align = IsNumber argument (align_bytes align)

-- The form with `--external` or without it, and with this value of `--align` or without one:
-- without `--external` no value is good.
abbrev pub IsFormWith : (external : Bool) → Option (List ℕ) → Form → Type 0
IsFormWith false None form = form ≡ Embedded
IsFormWith true None form = form ≡ External
IsFormWith true (Some argument) (Aligned align) = IsAlignOf argument align
IsFormWith external argument form = ⊥

-- The payloads are after the tree with `--external`, and else inside it.
abbrev pub IsExternal : ArgMatches → Bool → Type 0
IsExternal options external = IsFlag (external_flag options) external

-- The options give this form.
pub record IsForm (options : ArgMatches) (form : Form) : Type 0 where
  pub external : Bool
  pub is_external : IsExternal options external
  pub is_form : IsFormWith external (align_option options) form

-- The value of `--align` is not good.
pub record HasNoForm (options : ArgMatches) : Type 0 where
  pub external : Bool
  pub is_external : IsExternal options external
  pub no_form : NoneIs (IsFormWith external (align_option options))

-- The failure of options that give no form.
abbrev pub IsFormFailure : ArgMatches → Failure → Type 0
IsFormFailure options failure = (failure ≡ BadValue) × HasNoForm options

-- The text of the flag `--json`: `true` or `false`.
abbrev pub json_flag : ArgMatches → Option (List ℕ)
json_flag options = one_text (found_of options) (codes "json")

-- The output is JSON with `--json`, and else lines.
pub record IsFormat (options : ArgMatches) (format : Format) : Type 0 where
  pub given : json_flag options ≡ Some (codes "true") → format ≡ Json
  pub not_given : json_flag options ≡ Some (codes "false") → format ≡ Lines
  pub unknown : json_flag options ≡ None → format ≡ Lines

-- ---- show

-- The text of the flag `--layout`: `true` or `false`.
abbrev pub layout_flag : ArgMatches → Option (List ℕ)
layout_flag options = one_text (found_of options) (codes "layout")

-- The layout of the file is shown with `--layout`, and else not.
abbrev pub ShowsLayout : ArgMatches → Bool → Type 0
ShowsLayout options layout = IsFlag (layout_flag options) layout

-- An image is shown in this way: as JSON with `--json`, and else as a page. The layout of the file
-- is only on a page.
abbrev pub IsShown : ArgMatches → ShowForm → Type 0
IsShown options (show_form.Page presenter) =
    IsFormat options Lines × ShowsLayout options presenter.layout
IsShown options show_form.Json = IsFormat options Json × ShowsLayout options false

-- The failure of options that ask for both.
abbrev pub IsShowFailure : ArgMatches → Failure → Type 0
IsShowFailure options failure =
    (failure ≡ BadValue) × IsFormat options Json × ShowsLayout options true

-- ---- images

-- The argument names this image. Without an argument it is standard input, as with `-`.
abbrev pub IsImageSource : Option (List ℕ) → ImageSource → Type 0
IsImageSource None Standard = ⊤
IsImageSource None (File name) = ⊥
IsImageSource (Some argument) Standard = argument ≡ codes "-"
IsImageSource (Some argument) (File name) = (name.now ≡ argument) × (argument ≢ codes "-")

-- ---- several images

-- The command of this name takes any number of images.
abbrev pub TakesImages : List ℕ → Type 0
TakesImages name =
    IsAmongNames (codes "list" ∷ codes "verify" ∷ codes "check" ∷ codes "scan" ∷ []) name

-- The arguments that name images.
abbrev pub image_arguments : ArgMatches → List (List ℕ)
image_arguments options = values_of options (codes "file")

-- Several images are named, and the command takes them.
pub record NamesImages (name : List ℕ) (options : ArgMatches) : Type 0 where
  pub takes : TakesImages name
  pub several : 2 ≤ length (image_arguments options)

-- At most one image is named, if the command takes any number of them.
abbrev pub NamesNoMore : List ℕ → ArgMatches → Type 0
NamesNoMore name options = TakesImages name → length (image_arguments options) ≤ 1

-- Each argument names an image.
abbrev pub AreImageSources : List (List ℕ) → List ImageSource → Type 0
AreImageSources arguments sources =
    AllZip (λ argument. IsImageSource (Some argument)) arguments sources

-- Whether an image is standard input.
abbrev pub is_standard : ImageSource → Bool
is_standard Standard = true
is_standard (File name) = false

-- The arguments name these images. At most one of them is standard input.
pub record AreSources (arguments : List (List ℕ)) (sources : List ImageSource) : Type 0 where
  pub each : AreImageSources arguments sources
  pub one_input : count_by is_standard sources ≤ 1

-- ---- describe and compare

-- The text of the flag `--deep`: `true` or `false`.
abbrev pub deep_flag : ArgMatches → Option (List ℕ)
deep_flag options = one_text (found_of options) (codes "deep")

-- What is inside payloads is described or compared with `--deep`, and else not.
abbrev pub IsDeep : ArgMatches → Bool → Type 0
IsDeep options deep = IsFlag (deep_flag options) deep

-- ---- compare

-- The text of the flag `--quiet`: `true` or `false`.
abbrev pub quiet_flag : ArgMatches → Option (List ℕ)
quiet_flag options = one_text (found_of options) (codes "quiet")

-- The differences are left out with `--quiet`, and else written.
abbrev pub IsQuiet : ArgMatches → Bool → Type 0
IsQuiet options quiet = IsFlag (quiet_flag options) quiet

-- One of two images is a file.
abbrev pub NamesAFile : (one other : ImageSource) → Type 0
NamesAFile Standard Standard = ⊥
NamesAFile one other = ⊤

-- The values of `--ignore` leave this out of both images.
abbrev pub IsIgnored : ArgMatches → List Ignored → Type 0
IsIgnored options words = AreWordsOfValues (values_of options (codes "ignore")) words

-- The options of `compare` are this plan.
pub record IsComparePlan (options : ArgMatches) (plan : ComparePlan) : Type 0 where
  pub one : IsImageSource (option_of options (codes "one")) plan.one
  pub other : IsImageSource (option_of options (codes "other")) plan.other
  pub quiet : IsQuiet options plan.quiet
  pub deep : IsDeep options plan.deep
  pub format : IsFormat options plan.format
  pub ignored : IsIgnored options (ignored_words plan.ignored.items)
  pub names_a_file : NamesAFile plan.one plan.other

-- ---- check

-- The word is that for a kind of concerns.
abbrev pub IsKindWord : List ℕ → Type 0
IsKindWord word = (kind : ConcernKind) × (word ≡ kind_word kind)

-- The words allow these kinds of concerns: each word is that for a kind, and the kinds whose words
-- are there are allowed.
pub record IsAllowed (words : List (List ℕ)) (allowed : Allowed) : Type 0 where
  pub known : AllByRecursion IsKindWord words
  pub allows : (kind : ConcernKind)
      → IsTrue (allows_kind allowed kind) ↔ Contains words (kind_word kind)

-- The value of `--allow` allows these kinds of concerns. Without the option no kind is allowed.
abbrev pub IsAllowedBy : Option (List ℕ) → Allowed → Type 0
IsAllowedBy None allowed = (kind : ConcernKind) → IsFalse (allows_kind allowed kind)
IsAllowedBy (Some text) allowed = IsAllowed (listed_words text) allowed

-- The value of `--allow`, if it is given.
abbrev pub allow_option : ArgMatches → Option (List ℕ)
allow_option options = option_of options (codes "allow")

-- The text of the flag `--signed`: `true` or `false`.
abbrev pub signed_flag : ArgMatches → Option (List ℕ)
signed_flag options = one_text (found_of options) (codes "signed")

-- Signatures are asked for with `--signed`, and else not.
abbrev pub AsksForSignatures : ArgMatches → Bool → Type 0
AsksForSignatures options signed = IsFlag (signed_flag options) signed

-- The options give this policy.
pub record IsPolicy (options : ArgMatches) (policy : Policy) : Type 0 where
  pub allowed : IsAllowedBy (allow_option options) policy.allowed
  pub signed : AsksForSignatures options policy.signed

-- ---- update

-- The text of the flag `--hashes`: `true` or `false`.
abbrev pub hashes_flag : ArgMatches → Option (List ℕ)
hashes_flag options = one_text (found_of options) (codes "hashes")

-- The digests change with `--hashes`, and else stay.
abbrev pub ChangesHashes : ArgMatches → Bool → Type 0
ChangesHashes options hashes = IsFlag (hashes_flag options) hashes

-- The new time is the value of `--time`, if that is given.
abbrev pub IsNewTime : Option (List ℕ) → Option ℕ → Type 0
IsNewTime None None = ⊤
IsNewTime (Some argument) (Some time) = IsNumber argument time
IsNewTime argument time = ⊥

-- The options request this time and these digests, or neither.
pub record AreChanges (options : ArgMatches) (changes : Changes) : Type 0 where
  pub time : IsNewTime (option_of options (codes "time")) changes.time
  pub hashes : ChangesHashes options changes.hashes

-- The values of `--remove`, of `--set` and of `--payload`.
abbrev pub removal_arguments : ArgMatches → List (List ℕ)
removal_arguments options = values_of options (codes "remove")

abbrev pub set_arguments : ArgMatches → List (List ℕ)
set_arguments options = values_of options (codes "set")

abbrev pub payload_arguments : ArgMatches → List (List ℕ)
payload_arguments options = values_of options (codes "payload")

-- The text of the flag `--keep-form`: `true` or `false`.
abbrev pub keep_form_flag : ArgMatches → Option (List ℕ)
keep_form_flag options = one_text (found_of options) (codes "keep-form")

-- The form of the image is kept with `--keep-form`, and else not.
abbrev pub KeepsForm : ArgMatches → Bool → Type 0
KeepsForm options keeps = IsFlag (keep_form_flag options) keeps

-- None of `--remove`, `--set`, `--payload`, `--time`, `--hashes` and `--keep-form` is given.
pub record AsksForNoEdit (options : ArgMatches) : Type 0 where
  pub no_removal : removal_arguments options ≡ []
  pub no_setting : set_arguments options ≡ []
  pub no_payload : payload_arguments options ≡ []
  pub no_time : option_of options (codes "time") ≡ None
  pub no_hashes : ChangesHashes options false
  pub no_form : KeepsForm options false

-- One of them is.
pub data AsksForEdits (options : ArgMatches) : Type 0 where
  AsksToRemove : removal_arguments options ≢ [] → AsksForEdits options
  AsksToSet : set_arguments options ≢ [] → AsksForEdits options
  AsksForPayloads : payload_arguments options ≢ [] → AsksForEdits options
  AsksForTime : option_of options (codes "time") ≢ None → AsksForEdits options
  AsksForHashes : ChangesHashes options true → AsksForEdits options
  AsksToKeepForm : KeepsForm options true → AsksForEdits options

-- The form is that of the image with `--keep-form`, and then the options give no other form. Else
-- they give it.
abbrev pub IsFormChoiceWith : (keeps : Bool) → ArgMatches → FormChoice → Type 0
IsFormChoiceWith false options (choice.Given form) = IsForm options form
IsFormChoiceWith true options choice.Keep = IsForm options Embedded
IsFormChoiceWith keeps options chosen = ⊥

pub record IsFormChoice (options : ArgMatches) (chosen : FormChoice) : Type 0 where
  pub keeps : Bool
  pub keeps_form : KeepsForm options keeps
  pub is_choice : IsFormChoiceWith keeps options chosen

-- The options give no such form: the value of `--align` is not good, or `--keep-form` is given with
-- another form.
pub data HasNoFormChoice (options : ArgMatches) : Type 0 where
  NoForm : HasNoForm options → HasNoFormChoice options
  TwoForms : KeepsForm options true → (form : Form) → IsForm options form → form ≢ Embedded
      → HasNoFormChoice options

-- The options of `update` edit an image by this plan.
pub record IsEditPlan (options : ArgMatches) (plan : EditPlan) : Type 0 where
  pub changes : Changes
  pub are_changes : AreChanges options changes
  pub edits : AreGivenEdits (removal_arguments options) (set_arguments options) changes
      plan.edits.items
  pub removal_words : texts_of plan.removal_words.items ≡ removal_arguments options
  pub payloads : ArePayloadWords (payload_arguments options) plan.payloads.items
  pub is_choice : IsFormChoice options plan.choice
  pub offset : IsNumber (given_offset options) plan.offset
  pub source : IsImageSource (option_of options (codes "file")) plan.source

-- One of the options of `update` has a bad value.
abbrev pub HasBadEdits : ArgMatches → Type 0
HasBadEdits options = NoneIs (IsEditPlan options) ⊎ HasNoFormChoice options

-- The failure of options of `update` that do not give such a plan: that nothing is requested, or
-- else that of a bad value.
abbrev pub IsEditPlanFailure : ArgMatches → Failure → Type 0
IsEditPlanFailure options NoChange = AsksForNoEdit options
IsEditPlanFailure options BadValue = AsksForEdits options × HasBadEdits options
IsEditPlanFailure options failure = ⊥

-- ---- get

-- The options of `get` are this plan: the names of the values that the words name, and the words
-- for each. If the values are written raw there is one.
pub record IsGetPlan (options : ArgMatches) (plan : GetPlan) : Type 0 where
  pub form : option_of options (codes "as") ≡ form_argument plan.form
  pub names : AreWordsOf (values_of options (codes "where")) (value_name_models plan.names.items)
  pub words : map texts_of_value plan.words.items
      ≡ map words_of_value (value_name_models plan.names.items)
  pub one : plan.form ≡ Raw → length plan.names.items ≡ 1

-- ---- explain

-- The argument is about this: a cause, a kind of concerns, or another message. Without an argument
-- there is nothing.
abbrev pub IsExplained : Option (List ℕ) → Option Topic → Type 0
IsExplained None None = ⊤
IsExplained (Some argument) (Some topic) = IsAbout argument topic
IsExplained argument topic = ⊥

-- ---- extract

-- The text of the flag `--default`: `true` or `false`.
abbrev pub default_flag : ArgMatches → Option (List ℕ)
default_flag options = one_text (found_of options) (codes "default")

-- The default configuration is selected with `--default`, and else not.
abbrev pub SelectsDefault : ArgMatches → Bool → Type 0
SelectsDefault options default = IsFlag (default_flag options) default

-- `--part`, `--image` and `--config` have these values, and `--default` is given or not.
pub record AreGiven (options : ArgMatches) (part image config : Option (List ℕ)) (default : Bool)
    : Type 0 where
  pub part_is : option_of options (codes "part") ≡ part
  pub image_is : option_of options (codes "image") ≡ image
  pub config_is : option_of options (codes "config") ≡ config
  pub default_is : SelectsDefault options default

-- How many of `--part`, `--image`, `--config` and `--default` are given.
abbrev pub given_count : ArgMatches → (default : Bool) → ℕ
given_count options default =
    count_by (λ given. given)
    (is_some (option_of options (codes "part")) ∷ is_some (option_of options (codes "image"))
    ∷ is_some (option_of options (codes "config")) ∷ default ∷ [])

-- The values of `--key` and `--index`.
pub record IsEntry (options : ArgMatches) (entry : Key × ℕ) : Type 0 where
  pub key : value_of options (codes "key") (codes "kernel") ≡ key_name entry.0
  pub index : IsNumber (value_of options (codes "index") (codes "0")) entry.1

-- `--key` and `--index` have such values.
abbrev pub HasEntry : ArgMatches → Type 0
HasEntry options = (entry : Key × ℕ) × IsEntry options entry

-- The text of the flag `--escaped`: `true` or `false`.
abbrev pub escaped_flag : ArgMatches → Option (List ℕ)
escaped_flag options = one_text (found_of options) (codes "escaped")

-- Names are escaped with `--escaped`, and else not.
abbrev pub AreEscaped : ArgMatches → Bool → Type 0
AreEscaped options escaped = IsFlag (escaped_flag options) escaped

-- The argument is this name, or how the name is printed if it is escaped.
abbrev pub IsNameOf : (escaped : Bool) → List ℕ → List ℕ → Type 0
IsNameOf true argument name = IsNameShownAs argument name
IsNameOf false argument name = name ≡ argument

-- The options select this, and nothing else. The key and the index have to be good even if they
-- have no effect.
abbrev pub IsSelection : ArgMatches → (escaped : Bool) → Selected → Type 0
IsSelection options escaped (Part index) = (argument : List ℕ)
    × AreGiven options (Some argument) None None false × HasEntry options × IsNumber argument index
IsSelection options escaped (Image name) = (argument : List ℕ)
    × AreGiven options None (Some argument) None false × HasEntry options
    × IsNameOf escaped argument name.items
IsSelection options escaped (Config name key index) = (argument : List ℕ)
    × AreGiven options None None (Some argument) false × IsEntry options (key, index)
    × IsNameOf escaped argument name.items
IsSelection options escaped (Default key index) =
    AreGiven options None None None true × IsEntry options (key, index)

-- The options select this, by names that are escaped or not.
abbrev pub IsSelected : ArgMatches → Selected → Type 0
IsSelected options selection =
    (escaped : Bool) × AreEscaped options escaped × IsSelection options escaped selection

-- One selection is given, and it has a bad value.
pub record IsBadSelection (options : ArgMatches) : Type 0 where
  pub default : Bool
  pub default_is : SelectsDefault options default
  pub escaped : Bool
  pub escaped_is : AreEscaped options escaped
  pub one : given_count options default ≡ 1
  pub none : NoneIs (IsSelection options escaped)

-- The failure of options that select nothing.
abbrev pub IsSelectionFailure : ArgMatches → Failure → Type 0
IsSelectionFailure options NoSelection =
    (default : Bool) × SelectsDefault options default × (given_count options default ≢ 1)
IsSelectionFailure options BadValue = IsBadSelection options
IsSelectionFailure options failure = ⊥

-- ---- extract --all

-- The text of the flag `--all`: `true` or `false`.
abbrev pub all_flag : ArgMatches → Option (List ℕ)
all_flag options = one_text (found_of options) (codes "all")

-- All payloads are selected with `--all`, and else not.
abbrev pub SelectsAll : ArgMatches → Bool → Type 0
SelectsAll options all = IsFlag (all_flag options) all

-- Nothing is selected beside `--all`.
pub record IsNoneGiven (options : ArgMatches) : Type 0 where
  pub default : Bool
  pub default_is : SelectsDefault options default
  pub none : given_count options default ≡ 0

-- Something else is.
pub record IsOneGiven (options : ArgMatches) : Type 0 where
  pub default : Bool
  pub default_is : SelectsDefault options default
  pub some : given_count options default ≢ 0

-- The options of `extract --all` request this. The key and the index have to be good, and have no
-- effect. The output is the directory.
pub record IsAllRequest (options : ArgMatches) (request : AllRequest) : Type 0 where
  pub has_entry : HasEntry options
  pub directory : option_of options (codes "output") ≡ Some request.directory.now
  pub offset : IsNumber (given_offset options) request.offset
  pub source : IsImageSource (option_of options (codes "file")) request.source
  pub limits : IsLimits (limit_of options) request.limits

-- The failure of options of `extract --all` that request nothing: that something else is selected,
-- too, or else that a value is bad or there is no output.
abbrev pub IsAllFailure : ArgMatches → Failure → Type 0
IsAllFailure options NoSelection = IsOneGiven options
IsAllFailure options BadValue = IsNoneGiven options × NoneIs (IsAllRequest options)
IsAllFailure options failure = ⊥

-- ---- parts of images to be built

-- The argument is a part in standard input, of this length, or `@` and the name of this file.
abbrev pub IsPartSource : List ℕ → PartSource → Type 0
IsPartSource argument (part.Input size) = IsNumber argument size
IsPartSource argument (part.File name) = argument ≡ codes "@" ++ name.now

-- The arguments are these parts, in this order.
abbrev pub ArePartSources : List (List ℕ) → List PartSource → Type 0
ArePartSources arguments sources = AllZip IsPartSource arguments sources

-- Whether a part is in standard input.
abbrev pub is_input : PartSource → Bool
is_input (part.Input size) = true
is_input (part.File name) = false

-- Whether standard input is read: if a part is in it, or if no part is named.
abbrev pub reads_input : List PartSource → Bool
reads_input [] = true
reads_input (source ∷ later) = list_any is_input (source ∷ later)

-- ---- build-legacy

-- The options are these fields of a header.
pub record IsFields (options : ArgMatches) (fields : Fields) : Type 0 where
  pub time : IsNumber (value_of options (codes "time") (codes "0")) fields.time
  pub load : IsNumber (value_of options (codes "load") (codes "0")) fields.load
  pub entry : IsNumber (value_of options (codes "entry") (codes "0")) fields.entry
  pub os : IsCode Os (value_of options (codes "os") []) fields.os
  pub arch : IsCode Arch (value_of options (codes "arch") []) fields.arch
  pub image_type : IsCode ImageType (value_of options (codes "type") []) fields.image_type
  pub compression : IsCode Compression
      (value_of options (codes "compression") (codes "none")) fields.compression
  pub name : fields.name.now ≡ value_of options (codes "name") []

-- The options of `build-legacy` are this plan.
pub record IsLegacyPlan (options : ArgMatches) (plan : LegacyPlan) : Type 0 where
  pub fields : IsFields options plan.fields
  pub parts : ArePartSources (values_of options (codes "lengths")) plan.parts.items

-- ---- build-fit

-- The argument is an address, or `-` for none.
abbrev pub IsAddress : List ℕ → Option ℕ → Type 0
IsAddress argument None = argument ≡ codes "-"
IsAddress argument (Some address) = IsNumber argument address

-- The fields in the order in which the text has them.
abbrev pub list_of : ImageFields → List (List ℕ)
list_of fields = fields.name.now ∷ fields.image_type.now ∷ fields.arch.now ∷ fields.os.now
    ∷ fields.compression.now ∷ fields.load.now ∷ fields.entry.now ∷ fields.length.now ∷ []

-- The texts in the node of an image, instead of its codes. There are none if one of the codes has
-- no text, or for a multi-file image: neither can be built.
abbrev pub HasTexts : ImageFields → ImageSpec → Option ImageTexts → Type 0
HasTexts fields spec texts =
    option_map image_texts_model texts
    ≡ (if spec.image_type == multi then None
    else four_texts (text_of_code ImageType fields.image_type.now spec.image_type)
    (text_of_code Arch fields.arch.now spec.arch) (text_of_code Os fields.os.now spec.os)
    (text_of_code Compression fields.compression.now spec.compression))

-- The fields are this image, without its payload, and the payload.
pub record IsImage (fields : ImageFields) (word : ImageWord) : Type 0 where
  pub name : word.image.name.now ≡ fields.name.now
  pub image_type : IsCode ImageType fields.image_type.now word.image.image_type
  pub arch : IsCode Arch fields.arch.now word.image.arch
  pub os : IsCode Os fields.os.now word.image.os
  pub compression : IsCode Compression fields.compression.now word.image.compression
  pub texts : HasTexts fields word.image word.texts
  pub load : IsAddress fields.load.now word.image.load
  pub entry : IsAddress fields.entry.now word.image.entry
  pub payload : word.image.payload.now ≡ []
  pub source : IsPartSource fields.length.now word.payload

-- The argument is this image, and its payload: eight fields between colons.
abbrev pub IsImageText : List ℕ → ImageWord → Type 0
IsImageText argument word =
    (fields : ImageFields) × (parts_of argument ≡ list_of fields) × IsImage fields word

-- The arguments are these images, with these texts, and their payloads.
pub record AreImages (arguments : List (List ℕ)) (images : List ImageSpec)
    (texts : List (Option ImageTexts)) (payloads : List PartSource) : Type 0 where
  pub words : List ImageWord
  pub each : AllZip IsImageText arguments words
  pub images_are : images ≡ map (λ (word : ImageWord). word.image) words
  pub texts_are : texts ≡ map (λ (word : ImageWord). word.texts) words
  pub payloads_are : payloads ≡ map (λ (word : ImageWord). word.payload) words

-- The options of `build-fit` that give a text to one image or one configuration give these: to a
-- configuration of a word of `--config`, and to the image of an argument, each by what the word or
-- the argument has before its first colon.
pub record AreOwnTexts (options : ArgMatches) (texts : OwnTexts) : Type 0 where
  pub compatibles : AreNamedTexts (map name_of_word (values_of options (codes "config")))
      (values_of options (codes "compatible")) texts.compatibles.items
  pub configurations : AreDescriptions (map name_of_word (values_of options (codes "config")))
      (values_of options (codes "describe-config")) texts.configurations.items
  pub images : AreDescriptions (map name_of_word (values_of options (codes "images")))
      (values_of options (codes "describe-image")) texts.images.items

-- The options of `build-fit` are this plan.
pub record IsFitPlan (options : ArgMatches) (plan : FitPlan) : Type 0 where
  pub description : plan.head.description.now ≡ value_of options (codes "description") []
  pub time : IsNumber (value_of options (codes "time") (codes "0")) plan.head.time
  pub images : AreImages (values_of options (codes "images")) plan.images.items plan.texts.items
      plan.payloads.items
  pub configurations : AreConfigurations (names_of_specs plan.images.items)
      (values_of options (codes "config")) plan.configurations.items
  pub default : IsDefault (values_of options (codes "config")) (option_of options (codes "default"))
      (option_map (λ name. name.now) plan.default)
  pub algorithms : AreHashes (option_of options (codes "hash")) plan.algorithms.items
  pub own_texts : AreOwnTexts options plan.own_texts
  pub form : IsForm options plan.form

-- The first argument that is not an image has this index.
pub record IsFirstBad (arguments : List (List ℕ)) (index : ℕ) : Type 0 where
  pub argument : List ℕ
  pub is : slice_get arguments index ≡ Some argument
  pub bad : NoneIs (IsImageText argument)
  pub before : (other : ℕ) (text : List ℕ) → other < index → slice_get arguments other ≡ Some text
      → (word : ImageWord) × IsImageText text word

-- The failure is that of the first argument that is not an image.
abbrev pub IsBadImage : List (List ℕ) → Failure → Type 0
IsBadImage arguments (BadImage index) = IsFirstBad arguments index
IsBadImage arguments failure = ⊥

-- The failure is that of the first word that is not a configuration.
abbrev pub IsBadConfiguration : (image_names words : List (List ℕ)) → Failure → Type 0
IsBadConfiguration image_names words (BadConfiguration index) =
    IsFirstBadConfiguration image_names words index
IsBadConfiguration image_names words failure = ⊥

-- The options of `build-fit` have good values: the time, the form, the default, the algorithms, and
-- the texts of one image or one configuration.
pub record HasFitValues (options : ArgMatches) : Type 0 where
  pub time : ℕ
  pub is_time : IsNumber (value_of options (codes "time") (codes "0")) time
  pub form : Form
  pub is_form : IsForm options form
  pub default : Option (List ℕ)
  pub is_default : IsDefault (values_of options (codes "config"))
      (option_of options (codes "default")) default
  pub algorithms : List Algo
  pub are_algorithms : AreHashes (option_of options (codes "hash")) algorithms
  pub own_texts : OwnTexts
  pub are_own_texts : AreOwnTexts options own_texts

-- The images of `build-fit` are good, and the first word that is not a configuration has this
-- index.
pub record IsBadPlan (options : ArgMatches) (index : ℕ) : Type 0 where
  pub images : List ImageSpec
  pub texts : List (Option ImageTexts)
  pub payloads : List PartSource
  pub are_images : AreImages (values_of options (codes "images")) images texts payloads
  pub first_bad : IsFirstBadConfiguration (names_of_specs images)
      (values_of options (codes "config")) index

-- The failure of options of `build-fit` that give no plan: that of a bad value, or else that of the
-- first bad image, or else that of the first bad configuration.
abbrev pub IsFitPlanFailure : ArgMatches → Failure → Type 0
IsFitPlanFailure options BadValue = (¬ HasFitValues options) ⊎ HasNoForm options
IsFitPlanFailure options (BadImage index) =
    HasFitValues options × IsFirstBad (values_of options (codes "images")) index
IsFitPlanFailure options (BadConfiguration index) = HasFitValues options × IsBadPlan options index
IsFitPlanFailure options failure = ⊥

-- ---- tasks and jobs

-- The name of the command for a task.
abbrev pub name_of_task : Task → List ℕ
name_of_task (task.Normalise form) = codes "normalise"
name_of_task (task.Show how) = codes "show"
name_of_task (task.List format) = codes "list"
name_of_task (task.Describe deep format) = codes "describe"
name_of_task (task.Verify format) = codes "verify"
name_of_task (task.Check policy format) = codes "check"
name_of_task (task.Scan format) = codes "scan"
name_of_task (task.Get plan) = codes "get"
name_of_task (task.Extract selection) = codes "extract"
name_of_task task.Convert = codes "convert"

-- These options of the command for a task give this task.
abbrev pub AreTaskOptions : ArgMatches → Task → Type 0
AreTaskOptions options (task.Normalise form) = IsForm options form
AreTaskOptions options (task.Show how) = IsShown options how
AreTaskOptions options (task.List format) = IsFormat options format
AreTaskOptions options (task.Describe deep format) = IsDeep options deep × IsFormat options format
AreTaskOptions options (task.Verify format) = IsFormat options format
AreTaskOptions options (task.Check policy format) =
    IsPolicy options policy × IsFormat options format
AreTaskOptions options (task.Scan format) = IsFormat options format
AreTaskOptions options (task.Get plan) = IsGetPlan options plan
AreTaskOptions options (task.Extract selection) =
    SelectsAll options false × IsSelected options selection
AreTaskOptions options task.Convert = ⊤

-- The command of this name, with its options, is this task.
abbrev pub IsTask : List ℕ → ArgMatches → Task → Type 0
IsTask name options given = (name ≡ name_of_task given) × AreTaskOptions options given

-- The command of this name, with its options, is this plan for one image.
pub record IsImagePlan (name : List ℕ) (options : ArgMatches) (plan : ImagePlan) : Type 0 where
  pub task : IsTask name options plan.task
  pub offset : IsNumber (given_offset options) plan.offset
  pub source : IsImageSource (option_of options (codes "file")) plan.source
  pub no_more : NamesNoMore name options

-- The command of this name, with its options, builds this.
abbrev pub IsBuildPlan : List ℕ → ArgMatches → BuildPlan → Type 0
IsBuildPlan name options (Legacy plan) =
    (name ≡ codes "build-legacy") × IsLegacyPlan options plan
IsBuildPlan name options (Fit plan) = (name ≡ codes "build-fit") × IsFitPlan options plan

-- The command of this name, with its options, is this job.
abbrev pub IsJob : List ℕ → ArgMatches → Job → Type 0
IsJob name options (Run plan) = IsImagePlan name options plan
IsJob name options (Compare plan) = (name ≡ codes "compare") × IsComparePlan options plan
IsJob name options (Edit plan) =
    (name ≡ codes "update") × AsksForEdits options × IsEditPlan options plan
IsJob name options (Explain topic) =
    (name ≡ codes "explain") × IsExplained (option_of options (codes "cause")) topic
IsJob name options (Build plan) = IsBuildPlan name options plan

-- Why the options of the command of this name are not a task.
pub data IsTaskFailure (name : List ℕ) (options : ArgMatches) (failure : Failure) : Type 0 where
  NotFormed : name ≡ codes "normalise" → IsFormFailure options failure
      → IsTaskFailure name options failure
  NotShown : name ≡ codes "show" → IsShowFailure options failure
      → IsTaskFailure name options failure
  NotAllowed : name ≡ codes "check" → IsBadValue (IsAllowedBy (allow_option options)) failure
      → IsTaskFailure name options failure
  NotEdited : name ≡ codes "update" → IsEditPlanFailure options failure
      → IsTaskFailure name options failure
  NotNamed : name ≡ codes "get" → IsBadValue (IsGetPlan options) failure
      → IsTaskFailure name options failure
  NotSelected : name ≡ codes "extract" → SelectsAll options false
      → IsSelectionFailure options failure → IsTaskFailure name options failure
  NotPlaced : (task : Task) → IsTask name options task
      → IsBadValue (IsNumber (given_offset options)) failure → IsTaskFailure name options failure
  NotLegacy : name ≡ codes "build-legacy" → IsBadValue (IsLegacyPlan options) failure
      → IsTaskFailure name options failure
  NotLimited : name ≡ codes "build-fit" → IsBadValue (IsLimits (limit_of options)) failure
      → IsTaskFailure name options failure
  NotFit : name ≡ codes "build-fit" → (limits : Limits) → IsLimits (limit_of options) limits
      → IsFitPlanFailure options failure → IsTaskFailure name options failure
  NotCompared : name ≡ codes "compare" → IsBadValue (IsComparePlan options) failure
      → IsTaskFailure name options failure
  NotExplained : name ≡ codes "explain"
      → IsBadValue (IsExplained (option_of options (codes "cause"))) failure
      → IsTaskFailure name options failure

-- The command of this name, with its options, is to be done with each of several images.
pub record IsImagesRequest (name : List ℕ) (options : ArgMatches) (request : ImagesRequest) : Type 0
  where
    pub names : NamesImages name options
    pub task : IsTask name options request.task
    pub offset : IsNumber (given_offset options) request.offset
    pub sources : AreSources (image_arguments options) request.sources.items
    pub limits : IsLimits (limit_of options) request.limits
    pub output : option_map (λ name. name.now) request.output ≡ option_of options (codes "output")

-- Why the options of the command of this name, with several images, are not such a request.
pub data IsImagesFailure (name : List ℕ) (options : ArgMatches) (failure : Failure) : Type 0 where
  NoTaskForEach : IsTaskFailure name options failure → IsImagesFailure name options failure
  TwoInputs : IsBadValue (AreSources (image_arguments options)) failure
      → IsImagesFailure name options failure
  NoLimitsForEach : IsBadValue (IsLimits (limit_of options)) failure
      → IsImagesFailure name options failure

-- ---- the arguments

-- clap accepts the arguments, and they give this command these options.
pub record Gives (arguments : List (List ℕ)) (name : List ℕ) (options : ArgMatches) : Type 0 where
  pub accepted : fault_of program_app arguments ≡ []
  pub given : subcommand_of program_app arguments ≡ Some (name, rows_of (found_of options))

-- What becomes of an error of clap: a failure if memory ran out, and else its text is the outcome.
pub data IsOutcomeOf (error : ClapError) (given : NoRequest) : Type 0 where
  HasText : kind_of error ≢ error_kind.OutOfMemory → given ≡ outcome.Text error
      → IsOutcomeOf error given
  HasNoText : kind_of error ≡ error_kind.OutOfMemory → given ≡ outcome.Failure (Call OutOfMemory)
      → IsOutcomeOf error given

-- Why the arguments request nothing, though clap accepts them: the options of the command are not a
-- job or are not limits, or those for several images or of `extract --all` are not a request, or
-- memory ran out.
pub data IsRejected (arguments : List (List ℕ)) (failure : Failure) : Type 0 where
  NoJob : (name : List ℕ) (options : ArgMatches) → Gives arguments name options
      → IsTaskFailure name options failure → IsRejected arguments failure
  NoLimits : (name : List ℕ) (options : ArgMatches) (job : Job) → Gives arguments name options
      → IsJob name options job → IsBadValue (IsLimits (limit_of options)) failure
      → IsRejected arguments failure
  NotEach : (name : List ℕ) (options : ArgMatches) → Gives arguments name options
      → NamesImages name options → IsImagesFailure name options failure
      → IsRejected arguments failure
  NotAll : (options : ArgMatches) → Gives arguments (codes "extract") options
      → SelectsAll options true → IsAllFailure options failure → IsRejected arguments failure
  NoMemory : failure ≡ Call OutOfMemory → IsRejected arguments failure

-- The text is one that clap has for the arguments: its kind is that of the first thing wrong with
-- them, or help or the version, if they ask for that first.
abbrev pub IsTextFor : List (List ℕ) → ErrorKind → Type 0
IsTextFor arguments kind = IsAmong kind (fault_of program_app arguments)

-- The outcome is such a failure, or such a text.
abbrev pub IsNoRequest : List (List ℕ) → NoRequest → Type 0
IsNoRequest arguments (outcome.Text error) = IsTextFor arguments (kind_of error)
IsNoRequest arguments (outcome.Failure failure) = IsRejected arguments failure

-- The command and the options that the arguments give request this.
pub record IsRequest (arguments : List (List ℕ)) (request : Request) : Type 0 where
  pub name : List ℕ
  pub options : ArgMatches
  pub given : Gives arguments name options
  pub job : IsJob name options request.job
  pub limits : IsLimits (limit_of options) request.limits
  pub output : option_map (λ name. name.now) request.output ≡ option_of options (codes "output")
  pub is_image : request.writes_image ≡ writes_image name

-- The arguments request that all payloads of an image are extracted.
pub record IsAllRequested (arguments : List (List ℕ)) (request : AllRequest) : Type 0 where
  pub options : ArgMatches
  pub given : Gives arguments (codes "extract") options
  pub selects : SelectsAll options true
  pub none : IsNoneGiven options
  pub is : IsAllRequest options request

-- The arguments request that something is done with each of several images.
pub record IsImagesRequested (arguments : List (List ℕ)) (request : ImagesRequest) : Type 0 where
  pub name : List ℕ
  pub options : ArgMatches
  pub given : Gives arguments name options
  pub is : IsImagesRequest name options request

-- The arguments request this.
abbrev pub IsOrder : List (List ℕ) → Order → Type 0
IsOrder arguments (order.Do request) = IsRequest arguments request
IsOrder arguments (order.DoEach request) = IsImagesRequested arguments request
IsOrder arguments (order.ExtractAll request) = IsAllRequested arguments request

-- If a flattened image tree is to be built, there are as many lengths or files as images.
abbrev pub HasOrderLengths : Order → Type 0
HasOrderLengths (order.Do request) = HasJobLengths request.job
HasOrderLengths (order.DoEach request) = ⊤
HasOrderLengths (order.ExtractAll request) = ⊤

-- A tree may have 64 levels.
abbrev pub HasOrderDepth : Order → Type 0
HasOrderDepth (order.Do request) = request.limits.depth ≡ 64
HasOrderDepth (order.DoEach request) = request.limits.depth ≡ 64
HasOrderDepth (order.ExtractAll request) = request.limits.depth ≡ 64
