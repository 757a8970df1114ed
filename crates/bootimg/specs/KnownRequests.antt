use Rattle.std.specs.Prelude.{◌≡◌, ◌++◌, ℕ, true, false, List, [], ◌∷◌}
use Rattle.std.specs.Prelude.{None, Some, codes, map}
use Rattle.bi_common.specs.declared.format.Format.TheVariants.{Lines, Json}
use Rattle.bi_describe.specs.Ignoring.{IgnoredPart, IgnoredTime}
use Rattle.bi_report.specs.KnownConcerns.{allowed_words}
use Rattle.bi_report.specs.declared.check.Allowed.{Allowed}
use Rattle.bootimg.specs.KnownWords.{words_of_line}
use Rattle.bi_commands.specs.KnownChoices.{lent}
use Rattle.bi_base.specs.Aligns.{align_bytes}
use Rattle.bi_fit.specs.declared.form.Form.{Form}
use Rattle.bi_fit.specs.declared.form.Form.TheVariants.{Embedded, External, Aligned}
use Rattle.bi_fit.specs.declared.key.Key.{Key}
use Rattle.bi_fit.specs.declared.key.Key.TheVariants.{Fdt}
use Rattle.bi_legacy.specs.declared.fields.Fields.{Fields}
use Rattle.bi_norm.specs.declared.fit_building.ImageSpec.{ImageSpec}
use Rattle.bi_values.specs.KnownValues.{load_and_default}
use Rattle.bi_values.specs.ValueNames.{FieldAt, ValueNameModel, value_name_models}
use Rattle.bi_values.specs.declared.value_form.ValueForm.{ValueForm}
use Rattle.bi_values.specs.declared.value_form.ValueForm.TheVariants as value_form
use Rattle.bi_values.specs.declared.value_name.HeaderField.TheVariants as field
use Rattle.clap.specs.declared.parser.matches.ArgMatches.{ArgMatches}
use Rattle.bootimg.specs.CommandLine.{AreEscaped, AsksForSignatures, ChangesHashes, Gives}
use Rattle.bootimg.specs.CommandLine.{IsAllowedBy, IsBuildPlan}
use Rattle.bootimg.specs.CommandLine.{AreChanges, IsComparePlan, IsFields, IsForm}
use Rattle.bootimg.specs.CommandLine.{IsFormat, IsImageSource, IsImageText, IsJob, IsPartSource}
use Rattle.bootimg.specs.CommandLine.{IsDeep, IsGetPlan, IsIgnored, IsQuiet, IsSelected}
use Rattle.bootimg.specs.CommandLine.{IsSelectionFailure, NoneIs}
use Rattle.bootimg.specs.CommandLine.{IsAllFailure, IsAllRequest, IsNoneGiven, SelectsAll}
use Rattle.bootimg.specs.CommandLine.{IsShown, SelectsDefault, ShowsLayout, given_offset}
use Rattle.bootimg.specs.Numbers.{IsNumber}
use Rattle.bootimg.specs.ValueWords.{texts_of_value}
use Rattle.bootimg.specs.declared.command_line.Job.TheVariants.{Compare, Explain}
use Rattle.bootimg.specs.declared.command_line.build.BuildPlan.{BuildPlan}
use Rattle.bootimg.specs.declared.command_line.build.BuildPlan.TheVariants as build
use Rattle.bootimg.specs.declared.command_line.extract.AllRequest.{AllRequest}
use Rattle.bootimg.specs.declared.command_line.extract.Selected.{Selected}
use Rattle.bootimg.specs.declared.command_line.extract.Selected.TheVariants as select
use Rattle.bootimg.specs.declared.command_line.values.GetPlan.{GetPlan}
use Rattle.bootimg.specs.declared.command_line.image.ImageWord.{ImageWord}
use Rattle.bootimg.specs.declared.command_line.part.PartSource.{PartSource}
use Rattle.bootimg.specs.declared.command_line.part.PartSource.TheVariants as part
use Rattle.bootimg.specs.declared.command_line.show.ShowForm.TheVariants as show_form
use Rattle.bootimg.specs.declared.command_line.source.ComparePlan.{ComparePlan}
use Rattle.bootimg.specs.declared.command_line.source.ImageSource.{ImageSource}
use Rattle.bootimg.specs.declared.command_line.source.ImageSource.TheVariants.{Standard, File}
use Rattle.bootimg.specs.declared.failure.Failure.TheVariants.{NoSelection, BadValue}
use Rattle.std.specs.Borrow.{Bor}

-- What small command lines request, by which a reader can judge the definitions.

-- This holds for all that clap may make of this command line of this command.
abbrev pub HoldsFor : (line name : List ℕ) → (Holds : ArgMatches → Type 0) → Type 0
HoldsFor line name Holds =
    (options : ArgMatches) → Gives (words_of_line line) name options → Holds options

-- Only this one is one of these.
abbrev pub IsOnlyOne : {T : Type 0} → (Is : T → Type 0) → (wanted : T) → Type 0
IsOnlyOne {T} Is wanted = (given : T) → Is given → given ≡ wanted

-- ---- flags

-- The payloads are external with this alignment in bytes.
abbrev pub HasAlignment : ℕ → Form → Type 0
HasAlignment bytes (Aligned align) = align_bytes align ≡ bytes
HasAlignment bytes form = ⊥

-- What each flag means, and what is meant without it.
pub record FlagsAreKnown : Type 0 where
  pub external : HoldsFor (codes "normalise --external") (codes "normalise")
      (λ options. IsOnlyOne (IsForm options) External)
  pub embedded : HoldsFor (codes "normalise") (codes "normalise")
      (λ options. IsOnlyOne (IsForm options) Embedded)
  pub aligned : HoldsFor (codes "normalise --external --align 4096") (codes "normalise")
      (λ options. (form : Form) → IsForm options form → HasAlignment 4096 form)
  pub not_external : HoldsFor (codes "normalise --align 4096") (codes "normalise")
      (λ options. NoneIs (IsForm options))
  pub bad_alignment : HoldsFor (codes "normalise --external --align 3") (codes "normalise")
      (λ options. NoneIs (IsForm options))
  pub json : HoldsFor (codes "list --json") (codes "list")
      (λ options. IsOnlyOne (IsFormat options) Json)
  pub lines : HoldsFor (codes "list") (codes "list")
      (λ options. IsOnlyOne (IsFormat options) Lines)
  pub layout : HoldsFor (codes "show --layout") (codes "show")
      (λ options. IsOnlyOne (ShowsLayout options) true)
  pub no_layout : HoldsFor (codes "show") (codes "show")
      (λ options. IsOnlyOne (ShowsLayout options) false)
  pub json_of_page : HoldsFor (codes "show --json") (codes "show")
      (λ options. IsOnlyOne (IsShown options) show_form.Json)
  pub layout_in_json : HoldsFor (codes "show --layout --json") (codes "show")
      (λ options. NoneIs (IsShown options))
  pub deep : HoldsFor (codes "describe --deep") (codes "describe")
      (λ options. IsOnlyOne (IsDeep options) true)
  pub not_deep : HoldsFor (codes "describe") (codes "describe")
      (λ options. IsOnlyOne (IsDeep options) false)
  pub deep_comparison : HoldsFor (codes "compare --deep a b") (codes "compare")
      (λ options. IsOnlyOne (IsDeep options) true)
  pub no_deep_comparison : HoldsFor (codes "compare a b") (codes "compare")
      (λ options. IsOnlyOne (IsDeep options) false)
  pub quiet : HoldsFor (codes "compare --quiet a b") (codes "compare")
      (λ options. IsOnlyOne (IsQuiet options) true)
  pub not_quiet : HoldsFor (codes "compare a b") (codes "compare")
      (λ options. IsOnlyOne (IsQuiet options) false)
  pub signed : HoldsFor (codes "check --signed") (codes "check")
      (λ options. IsOnlyOne (AsksForSignatures options) true)
  pub not_signed : HoldsFor (codes "check") (codes "check")
      (λ options. IsOnlyOne (AsksForSignatures options) false)
  pub hashes : HoldsFor (codes "update --hashes") (codes "update")
      (λ options. IsOnlyOne (ChangesHashes options) true)
  pub no_hashes : HoldsFor (codes "update") (codes "update")
      (λ options. IsOnlyOne (ChangesHashes options) false)
  pub default_configuration : HoldsFor (codes "extract --default") (codes "extract")
      (λ options. IsOnlyOne (SelectsDefault options) true)
  pub no_default : HoldsFor (codes "extract") (codes "extract")
      (λ options. IsOnlyOne (SelectsDefault options) false)
  pub all : HoldsFor (codes "extract --all -o d") (codes "extract")
      (λ options. IsOnlyOne (SelectsAll options) true)
  pub not_all : HoldsFor (codes "extract") (codes "extract")
      (λ options. IsOnlyOne (SelectsAll options) false)
  pub escaped : HoldsFor (codes "extract --escaped") (codes "extract")
      (λ options. IsOnlyOne (AreEscaped options) true)
  pub not_escaped : HoldsFor (codes "extract") (codes "extract")
      (λ options. IsOnlyOne (AreEscaped options) false)

-- ---- commands

-- The name of the command that builds an image.
abbrev pub name_of_plan : BuildPlan → List ℕ
name_of_plan (build.Legacy plan) = codes "build-legacy"
name_of_plan (build.Fit plan) = codes "build-fit"

-- Each job but a task on one image has the command of its name.
pub record CommandNamesAreKnown : Type 0 where
  pub compares : (name : List ℕ) (options : ArgMatches) (plan : ComparePlan)
      → IsJob name options (Compare plan) → name ≡ codes "compare"
  pub explains : (name : List ℕ) (options : ArgMatches) → IsJob name options (Explain None)
      → name ≡ codes "explain"
  pub builds : (name : List ℕ) (options : ArgMatches) (plan : BuildPlan)
      → IsBuildPlan name options plan → name ≡ name_of_plan plan

-- ---- images and parts

-- The image is in the file of this name.
abbrev pub IsFileNamed : (name : List ℕ) → ImageSource → Type 0
IsFileNamed name Standard = ⊥
IsFileNamed name (File other) = other.now ≡ name

-- Where images come from. Of two images one at most is in standard input.
pub record SourcesAreKnown : Type 0 where
  pub no_argument : IsImageSource None Standard
  pub minus : IsImageSource (Some (codes "-")) Standard
  pub a_file : IsImageSource (Some (codes "in")) (File (lent (codes "in")))
  pub no_argument_is_no_file : (name : Bor (List ℕ)) → ¬ (IsImageSource None (File name))
  pub minus_is_no_file :
      (name : Bor (List ℕ)) → ¬ (IsImageSource (Some (codes "-")) (File name))
  pub file_is_not_input : ¬ (IsImageSource (Some (codes "in")) Standard)
  pub compared : HoldsFor (codes "compare a b") (codes "compare")
      (λ options. (plan : ComparePlan) → IsComparePlan options plan
      → IsFileNamed (codes "a") plan.one × IsFileNamed (codes "b") plan.other)
  pub two_inputs : HoldsFor (codes "compare - -") (codes "compare")
      (λ options. NoneIs (IsComparePlan options))

-- Where an image begins: at the offset that is given, and else at the beginning of the input.
pub record ImageOffsetsAreKnown : Type 0 where
  pub given : HoldsFor (codes "list --offset 74 in") (codes "list")
      (λ options. IsOnlyOne (IsNumber (given_offset options)) 74)
  pub not_given : HoldsFor (codes "list in") (codes "list")
      (λ options. IsOnlyOne (IsNumber (given_offset options)) 0)
  pub of_show : HoldsFor (codes "show --offset 0x10 in") (codes "show")
      (λ options. IsOnlyOne (IsNumber (given_offset options)) 16)
  pub of_scan : HoldsFor (codes "scan --offset 74 in") (codes "scan")
      (λ options. IsOnlyOne (IsNumber (given_offset options)) 74)
  pub bad : HoldsFor (codes "list --offset x in") (codes "list")
      (λ options. NoneIs (IsNumber (given_offset options)))

-- The part is in the file of this name.
abbrev pub IsPartNamed : (name : List ℕ) → PartSource → Type 0
IsPartNamed name (part.Input size) = ⊥
IsPartNamed name (part.File other) = other.now ≡ name

-- A part is a length, or a file after `@`.
pub record PartWordsAreKnown : Type 0 where
  pub a_length : IsOnlyOne (IsPartSource (codes "0x10")) (part.Input 16)
  pub a_file : (source : PartSource) → IsPartSource (codes "@h") source
      → IsPartNamed (codes "h") source
  pub no_part : NoneIs (IsPartSource (codes "h"))

-- ---- check and update

-- The kinds of lines that a value of `--allow` names.
pub record AllowedWordsAreKnown : Type 0 where
  pub no_value : (allowed : Allowed) → IsAllowedBy None allowed → allowed_words allowed ≡ []
  pub two : (allowed : Allowed) → IsAllowedBy (Some (codes "trailing,weak-hash")) allowed
      → allowed_words allowed ≡ codes "weak-hash" ∷ codes "trailing" ∷ []
  pub about_signatures : (allowed : Allowed)
      → IsAllowedBy (Some (codes "unit-address,skipped-hash,uncovered")) allowed
      → allowed_words allowed
      ≡ codes "skipped-hash" ∷ codes "uncovered" ∷ codes "unit-address" ∷ []
  pub other_word : NoneIs (IsAllowedBy (Some (codes "weak-hash,good")))
  pub empty_word : NoneIs (IsAllowedBy (Some []))

-- The time and the digests of an update.
pub record ChangesAreKnown : Type 0 where
  pub time : HoldsFor (codes "update --time 5") (codes "update")
      (λ options. IsOnlyOne (AreChanges options) (record { time = Some 5; hashes = false }))
  pub hashes : HoldsFor (codes "update --hashes") (codes "update")
      (λ options. IsOnlyOne (AreChanges options) (record { time = None; hashes = true }))
  pub both : HoldsFor (codes "update --hashes --time 0") (codes "update")
      (λ options. IsOnlyOne (AreChanges options) (record { time = Some 0; hashes = true }))
  pub no_change : HoldsFor (codes "update") (codes "update")
      (λ options. IsOnlyOne (AreChanges options) (record { time = None; hashes = false }))
  pub bad_time : HoldsFor (codes "update --time x") (codes "update")
      (λ options. NoneIs (AreChanges options))

-- ---- compare

-- The words that the values of `--ignore` give, and values that give none.
pub record IgnoredOptionsAreKnown : Type 0 where
  pub nothing : HoldsFor (codes "compare a b") (codes "compare")
      (λ options. IsOnlyOne (IsIgnored options) [])
  pub two : HoldsFor (codes "compare --ignore time --ignore part-0 a b") (codes "compare")
      (λ options. IsIgnored options (IgnoredTime ∷ IgnoredPart 0 ∷ []))
  pub second_empty : HoldsFor (codes "compare --ignore time --ignore  --ignore x a b")
      (codes "compare")
      (λ options. NoneIs (IsComparePlan options))
  pub other_word : HoldsFor (codes "compare --ignore nothing a b") (codes "compare")
      (λ options. NoneIs (IsComparePlan options))

-- ---- get

-- The plan has this form, the names of these values, and these words for each of them.
pub record IsPlanOf (form : ValueForm) (names : List ValueNameModel)
    (words : List (List (List ℕ))) (plan : GetPlan) : Type 0
  where
    pub form_is : plan.form ≡ form
    pub names_are : value_name_models plan.names.items ≡ names
    pub words_are : map texts_of_value plan.words.items ≡ words

-- What the options of `get` mean, and options that mean nothing.
pub record GetPlansAreKnown : Type 0 where
  pub two : HoldsFor (codes "get in /images/kernel-1 load /configurations default") (codes "get")
      (λ options. (plan : GetPlan) → IsGetPlan options plan
      → IsPlanOf value_form.Shown load_and_default
      ((codes "/images/kernel-1" ∷ codes "load" ∷ [])
      ∷ (codes "/configurations" ∷ codes "default" ∷ []) ∷ [])
      plan)
  pub text : HoldsFor (codes "get --as text in load name") (codes "get")
      (λ options. (plan : GetPlan) → IsGetPlan options plan
      → IsPlanOf value_form.Text (FieldAt field.Load ∷ FieldAt field.Name ∷ [])
      ((codes "load" ∷ []) ∷ (codes "name" ∷ []) ∷ []) plan)
  pub number : HoldsFor (codes "get --as number in load name") (codes "get")
      (λ options. (plan : GetPlan) → IsGetPlan options plan → plan.form ≡ value_form.Number)
  pub raw : HoldsFor (codes "get --as raw in load") (codes "get")
      (λ options. (plan : GetPlan) → IsGetPlan options plan → plan.form ≡ value_form.Raw)
  pub two_raw : HoldsFor (codes "get --as raw in load name") (codes "get")
      (λ options. NoneIs (IsGetPlan options))
  pub other_form : HoldsFor (codes "get --as shown in load") (codes "get")
      (λ options. NoneIs (IsGetPlan options))
  pub no_name : HoldsFor (codes "get in /") (codes "get") (λ options. NoneIs (IsGetPlan options))

-- ---- extract

-- The selection is the image of this name, or this entry of the configuration of this name.
abbrev pub SelectsImage : (name : List ℕ) → Selected → Type 0
SelectsImage name (select.Image other) = other.items ≡ name
SelectsImage name selection = ⊥

abbrev pub SelectsEntry : (name : List ℕ) → Key → (index : ℕ) → Selected → Type 0
SelectsEntry name key index (select.Config other other_key other_index) =
    (other.items ≡ name) × (other_key ≡ key) × (other_index ≡ index)
SelectsEntry name key index selection = ⊥

-- What the options of `extract` select, and the failures of other options.
pub record SelectionsAreKnown : Type 0 where
  pub a_part : HoldsFor (codes "extract --part 1") (codes "extract")
      (λ options. IsOnlyOne (IsSelected options) (select.Part 1))
  pub an_image : HoldsFor (codes "extract --image %2D") (codes "extract")
      (λ options. (selection : Selected) → IsSelected options selection
      → SelectsImage (codes "%2D") selection)
  pub escaped_image : HoldsFor (codes "extract --escaped --image %2D") (codes "extract")
      (λ options. (selection : Selected) → IsSelected options selection
      → SelectsImage (codes "-") selection)
  pub an_entry : HoldsFor (codes "extract --config c --key fdt --index 2") (codes "extract")
      (λ options. (selection : Selected) → IsSelected options selection
      → SelectsEntry (codes "c") Fdt 2 selection)
  pub default_entry : HoldsFor (codes "extract --default --key fdt --index 2") (codes "extract")
      (λ options. IsOnlyOne (IsSelected options) (select.Default Fdt 2))
  pub no_selection : HoldsFor (codes "extract") (codes "extract")
      (λ options. NoneIs (IsSelected options)
      × IsOnlyOne (IsSelectionFailure options) NoSelection)
  pub two_selections : HoldsFor (codes "extract --part 0 --default") (codes "extract")
      (λ options. NoneIs (IsSelected options)
      × IsOnlyOne (IsSelectionFailure options) NoSelection)

-- The directory, the offset and the image of a request.
pub record IsAllOf (directory : List ℕ) (offset : ℕ) (file : List ℕ) (request : AllRequest)
    : Type 0
  where
    pub directory_is : request.directory.now ≡ directory
    pub offset_is : request.offset ≡ offset
    pub source_is : IsFileNamed file request.source

-- What the options of `extract --all` request, and the failures of other options.
pub record AllRequestsAreKnown : Type 0 where
  pub given : HoldsFor (codes "extract --all -o d --offset 7 in") (codes "extract")
      (λ options. IsNoneGiven options
      × ((request : AllRequest) → IsAllRequest options request
      → IsAllOf (codes "d") 7 (codes "in") request))
  pub no_directory : HoldsFor (codes "extract --all in") (codes "extract")
      (λ options. NoneIs (IsAllRequest options)
      × IsOnlyOne (IsAllFailure options) BadValue)
  pub bad_key : HoldsFor (codes "extract --all --key dtb -o d in") (codes "extract")
      (λ options. NoneIs (IsAllRequest options)
      × IsOnlyOne (IsAllFailure options) BadValue)
  pub two_selections : HoldsFor (codes "extract --all --part 0 -o d in") (codes "extract")
      (λ options. ¬ (IsNoneGiven options)
      × IsOnlyOne (IsAllFailure options) NoSelection)

-- ---- building

-- The line of an image for Linux on 64-bit ARM, and its fields.
abbrev pub line_of_fields : List ℕ
line_of_fields =
    codes "build-legacy --os linux --arch arm64 --type kernel --compression gzip "
    ++ codes "--name k --time 1 --load 2 --entry 3"

pub record AreFieldsOfLine (fields : Fields) : Type 0 where
  pub time : fields.time ≡ 1
  pub load : fields.load ≡ 2
  pub entry : fields.entry ≡ 3
  pub os : fields.os ≡ 5
  pub arch : fields.arch ≡ 22
  pub image_type : fields.image_type ≡ 2
  pub compression : fields.compression ≡ 1
  pub name : fields.name.now ≡ codes "k"

-- The fields of an image of `build-fit`, and where its payload comes from.
pub record IsImageOfWord (image : ImageSpec) (payload : PartSource) : Type 0 where
  pub name : image.name.now ≡ codes "k"
  pub image_type : image.image_type ≡ 2
  pub arch : image.arch ≡ 22
  pub os : image.os ≡ 5
  pub compression : image.compression ≡ 1
  pub load : image.load ≡ Some 32768
  pub entry : image.entry ≡ None
  pub source : payload ≡ part.Input 5

-- What the options of `build-legacy` and the images of `build-fit` mean.
pub record PlansAreKnown : Type 0 where
  pub fields : HoldsFor line_of_fields (codes "build-legacy")
      (λ options. (fields : Fields) → IsFields options fields → AreFieldsOfLine fields)
  pub image : (word : ImageWord)
      → IsImageText (codes "k:kernel:arm64:linux:gzip:0x8000:-:5") word
      → IsImageOfWord word.image word.payload
  pub few_fields : NoneIs (IsImageText (codes "k:kernel:arm64:linux:gzip:0x8000:5"))
