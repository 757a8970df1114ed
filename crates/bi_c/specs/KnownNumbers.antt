use Rattle.std.specs.Prelude.{◌≡◌, ℕ, true, false, List, [], ◌∷◌, None, Some, codes, map}
use Rattle.bi_base.specs.declared.fault.Cause.TheVariants.{BadCell}
use Rattle.bi_base.specs.declared.fault.Error.TheVariants as error
use Rattle.bi_base.specs.declared.fault.Fault.{Fault}
use Rattle.bi_base.specs.Aligns.{align_bytes}
use Rattle.bi_base.specs.declared.align.Align.{Align}
use Rattle.bi_base.specs.Limits.{Limits}
use Rattle.bi_report.specs.KnownConcerns.{allowed_words}
use Rattle.bi_report.specs.declared.check.ConcernKind.TheVariants as kind
use Rattle.bi_describe.specs.declared.compare.CompareError.TheVariants as compare
use Rattle.bi_commands.specs.declared.extract.ExtractError.TheVariants as extract
use Rattle.bi_commands.specs.Extracting.{Choice, OfOtherKind, NoSuchPart, NoSuchImage}
use Rattle.bi_commands.specs.Extracting.{NoSuchConfiguration, NoSuchKey, HasBadList}
use Rattle.bi_commands.specs.Extracting.{HasMissingImage, NoSuchEntry, HasNoPayload}
use Rattle.bi_fit.specs.Names.{key_name}
use Rattle.bi_fit.specs.declared.configurations.ConfigError.TheVariants as list
use Rattle.bi_fit.specs.declared.form.Form.TheVariants.{Embedded, External, Aligned}
use Rattle.bi_fit.specs.declared.key.Key.TheVariants as key
use Rattle.bi_hash.specs.declared.verdicts.Verdict.TheVariants.{Good, Bad, UnknownAlgo, NoPayload}
use Rattle.bi_hash.specs.declared.verdicts.Verdict.TheVariants.{Malformed}
use Rattle.bi_norm.specs.declared.kind.Kind.TheVariants.{Legacy, Fit}
use Rattle.bi_values.specs.declared.get_error.GetError.TheVariants as get
use Rattle.bi_values.specs.declared.value_form.ValueForm.TheVariants.{Shown, Text, Number, Raw}
use Rattle.bi_c.specs.Answers.{answer_of, answer_of_failure, done, failure_of_error, no_room}
use Rattle.bi_c.specs.Answers.{status_of_failure}
use Rattle.bi_c.specs.Arguments.{allowed_of, bounds, changes_of, has_bit, is_yes, key_of}
use Rattle.bi_c.specs.Arguments.{number_of_form, policy_of}
use Rattle.bi_c.specs.Calls.{failure_of_compare_error, flag, kind_number}
use Rattle.bi_c.specs.ConcernElements.{concern_number, key_number}
use Rattle.bi_c.specs.Extracting.{IsReasonNumber, failure_of_extract_error}
use Rattle.bi_c.specs.NodeElements.{IsNodeReason, IsPropertyReason, LacksNode, LacksProperty}
use Rattle.bi_c.specs.TreeBuilding.{address_if}
use Rattle.bi_c.specs.ValueCalls.{failure_of_get_error, value_form_of, words_of_place}
use Rattle.bi_c.specs.VerdictElements.{verdict_number}
use Rattle.bi_c.specs.Checks.{argument_number}
use Rattle.bi_c.specs.declared.answer.Answer.{Answer}
use Rattle.bi_c.specs.declared.argument.Argument.TheVariants as argument
use Rattle.bi_c.specs.declared.failure.Failure.TheVariants.{WrongArgument, Refused, OutOfMemory}
use Rattle.bi_c.specs.declared.failure.Failure.TheVariants.{NotFound}

-- The numbers of the library for C, as its header has them, by which a reader can judge the
-- definitions.

-- ---- what a call returns

-- The fault of a cell at offset 160.
abbrev pub cell_fault : Fault
cell_fault = record { cause = BadCell; offset = 160 }

-- The statuses.
pub record StatusNumbersAreKnown : Type 0 where
  pub succeeded : done ≡ 0
  pub refused : status_of_failure (Refused 1 cell_fault) ≡ 1
  pub out_of_memory : status_of_failure OutOfMemory ≡ 2
  pub without_room : no_room ≡ 3
  pub wrong_argument : status_of_failure (WrongArgument argument.Limit 0) ≡ 4
  pub not_found : status_of_failure (NotFound 1 0) ≡ 5

-- The numbers of the struct, in their order.
abbrev pub struct_numbers : Answer → List ℕ
struct_numbers answer =
    answer.size ∷ answer.value ∷ answer.cause ∷ answer.offset ∷ answer.file ∷ answer.reason ∷ []

-- The struct after an output, after each failure, and after each error of a call: size, value,
-- cause, offset, file and reason.
pub record AnswersAreKnown : Type 0 where
  pub output : struct_numbers (answer_of 5 1) ≡ 5 ∷ 1 ∷ 0 ∷ 0 ∷ 0 ∷ 0 ∷ []
  pub refused : struct_numbers (answer_of_failure (failure_of_error (error.Refused cell_fault)))
      ≡ 0 ∷ 0 ∷ 18 ∷ 160 ∷ 1 ∷ 0 ∷ []
  pub first_refused :
      struct_numbers (answer_of_failure (failure_of_compare_error (compare.One cell_fault)))
      ≡ 0 ∷ 0 ∷ 18 ∷ 160 ∷ 1 ∷ 0 ∷ []
  pub second_refused :
      struct_numbers (answer_of_failure (failure_of_compare_error (compare.Other cell_fault)))
      ≡ 0 ∷ 0 ∷ 18 ∷ 160 ∷ 2 ∷ 0 ∷ []
  pub out_of_memory : struct_numbers (answer_of_failure OutOfMemory)
      ≡ 0 ∷ 0 ∷ 0 ∷ 0 ∷ 0 ∷ 0 ∷ []
  pub wrong_argument : struct_numbers (answer_of_failure (WrongArgument argument.Edits 3))
      ≡ 0 ∷ 3 ∷ 0 ∷ 0 ∷ 0 ∷ 16 ∷ []
  pub missing : struct_numbers (answer_of_failure (NotFound 7 3)) ≡ 0 ∷ 3 ∷ 0 ∷ 0 ∷ 0 ∷ 7 ∷ []

-- The numbers of the arguments.
pub record ArgumentNumbersAreKnown : Type 0 where
  pub options : argument_number argument.Options ≡ 1
  pub limit : argument_number argument.Limit ≡ 2
  pub depth : argument_number argument.Depth ≡ 3
  pub form : argument_number argument.Form ≡ 4
  pub changes : argument_number argument.Changes ≡ 5
  pub layout : argument_number argument.Layout ≡ 6
  pub kinds : argument_number argument.Kinds ≡ 7
  pub key : argument_number argument.Key ≡ 8
  pub field : argument_number argument.Field ≡ 9
  pub code : argument_number argument.Code ≡ 10
  pub number : argument_number argument.Number ≡ 11
  pub place : argument_number argument.Place ≡ 12
  pub fields : argument_number argument.Fields ≡ 13
  pub parts : argument_number argument.Parts ≡ 14
  pub words : argument_number argument.Words ≡ 15
  pub edits : argument_number argument.Edits ≡ 16
  pub images : argument_number argument.Images ≡ 17
  pub texts : argument_number argument.Texts ≡ 18
  pub lists : argument_number argument.Lists ≡ 19
  pub algorithms : argument_number argument.Algorithms ≡ 20
  pub configurations : argument_number argument.Configurations ≡ 21

-- The choice has this reason, and the index of the first name that no image has, and no other.
pub record HasReason (choice : Choice) (reason index : ℕ) : Type 0 where
  pub is : IsReasonNumber reason index choice
  pub only : (other other_index : ℕ) → IsReasonNumber other other_index choice
      → (other ≡ reason) × (other_index ≡ index)

-- Each reason why nothing is extracted.
pub record ReasonsAreKnown : Type 0 where
  pub other_kind : HasReason OfOtherKind 1 0
  pub no_part : HasReason NoSuchPart 2 0
  pub no_image : HasReason NoSuchImage 3 0
  pub no_configuration : HasReason NoSuchConfiguration 4 0
  pub no_key : HasReason NoSuchKey 5 0
  pub bad_list : HasReason HasBadList 6 0
  pub missing : HasReason (HasMissingImage 3) 7 3
  pub no_entry : HasReason NoSuchEntry 8 0
  pub no_payload : HasReason HasNoPayload 9 0

-- The numbers of the reasons why nothing is found by a path or a name.
pub record NodeReasonsAreKnown : Type 0 where
  pub no_node : (limits : Limits) (file path : List ℕ) → LacksNode limits file path
      → IsNodeReason limits file path 10 0
  pub no_property : (limits : Limits) (file path name : List ℕ)
      → LacksProperty limits file path name → IsPropertyReason limits file path name 11 0

-- The failure for each error of extracting.
pub record ExtractFailuresAreKnown : Type 0 where
  pub refused : failure_of_extract_error (extract.Failed (error.Refused cell_fault))
      ≡ Refused 1 cell_fault
  pub out_of_memory : failure_of_extract_error (extract.Failed error.OutOfMemory) ≡ OutOfMemory
  pub other_kind : failure_of_extract_error extract.WrongKind ≡ NotFound 1 0
  pub no_part : failure_of_extract_error extract.NoPart ≡ NotFound 2 0
  pub no_image : failure_of_extract_error extract.NoImage ≡ NotFound 3 0
  pub no_configuration : failure_of_extract_error (extract.Config list.NoConfig) ≡ NotFound 4 0
  pub no_key : failure_of_extract_error (extract.Config list.NoKey) ≡ NotFound 5 0
  pub bad_list : failure_of_extract_error (extract.Config list.BadList) ≡ NotFound 6 0
  pub missing : failure_of_extract_error (extract.Config (list.Missing 3)) ≡ NotFound 7 3
  pub list_out_of_memory : failure_of_extract_error (extract.Config list.OutOfMemory)
      ≡ OutOfMemory
  pub no_index : failure_of_extract_error extract.NoIndex ≡ NotFound 8 0
  pub no_payload : failure_of_extract_error extract.NoPayload ≡ NotFound 9 0

-- The failure for each error of getting a value.
pub record ValueFailuresAreKnown : Type 0 where
  pub refused : failure_of_get_error (get.Failed (error.Refused cell_fault)) ≡ Refused 1 cell_fault
  pub out_of_memory : failure_of_get_error (get.Failed error.OutOfMemory) ≡ OutOfMemory
  pub other_kind : failure_of_get_error get.WrongKind ≡ NotFound 1 0
  pub no_property : failure_of_get_error (get.NoProperty 0) ≡ NotFound 11 0
  pub no_text : failure_of_get_error (get.NoText 0) ≡ NotFound 12 0
  pub no_number : failure_of_get_error (get.NoNumber 0) ≡ NotFound 13 0

-- The kinds of images, a yes and a no, the verdicts, the kinds of concerns, and the keys.
pub record ValuesAreKnown : Type 0 where
  pub legacy : kind_number Legacy ≡ 1
  pub fit : kind_number Fit ≡ 2
  pub no : flag false ≡ 0
  pub yes : flag true ≡ 1
  pub verdicts : map verdict_number (Good ∷ Bad ∷ UnknownAlgo ∷ NoPayload ∷ Malformed ∷ [])
      ≡ 0 ∷ 1 ∷ 2 ∷ 3 ∷ 4 ∷ []
  pub concerns : map concern_number
      (kind.BadHash ∷ kind.Unhashed ∷ kind.WeakHash ∷ kind.BadList ∷ kind.Missing
      ∷ kind.BadDefault ∷ kind.Trailing ∷ kind.SkippedHash ∷ kind.Unsigned ∷ kind.NoNodes
      ∷ kind.NoImages ∷ kind.Uncovered ∷ kind.Foreign ∷ kind.Strings ∷ kind.UnitAddress ∷ [])
      ≡ 1 ∷ 2 ∷ 4 ∷ 8 ∷ 16 ∷ 32 ∷ 64 ∷ 128 ∷ 256 ∷ 512 ∷ 1024 ∷ 2048 ∷ 4096 ∷ 8192 ∷ 16384 ∷ []
  pub keys : map key_number
      (key.Kernel ∷ key.Fdt ∷ key.Ramdisk ∷ key.Firmware ∷ key.Loadables ∷ key.Script ∷ [])
      ≡ 0 ∷ 1 ∷ 2 ∷ 3 ∷ 4 ∷ 5 ∷ []

-- ---- arguments

-- The forms, the keys by their names, the changes and the limits.
pub record ArgumentsAreKnown : Type 0 where
  pub embedded : number_of_form Embedded ≡ 0
  pub external : number_of_form External ≡ 1
  pub aligned : (align : Align) → number_of_form (Aligned align) ≡ align_bytes align
  pub keys : map (λ number. key_name (key_of number)) (0 ∷ 1 ∷ 2 ∷ 3 ∷ 4 ∷ 5 ∷ [])
      ≡ codes "kernel" ∷ codes "fdt" ∷ codes "ramdisk" ∷ codes "firmware" ∷ codes "loadables"
      ∷ codes "script" ∷ []
  pub no_change : changes_of 0 5 ≡ record { time = None; hashes = false }
  pub time : changes_of 1 5 ≡ record { time = Some 5; hashes = false }
  pub hashes : changes_of 2 5 ≡ record { time = None; hashes = true }
  pub time_and_hashes : changes_of 3 5 ≡ record { time = Some 5; hashes = true }
  pub limits : bounds 128 7 ≡ record { file = 128; depth = 7 }
  pub value_forms : map value_form_of (0 ∷ 1 ∷ 2 ∷ 3 ∷ []) ≡ Shown ∷ Text ∷ Number ∷ Raw ∷ []
  pub property : words_of_place (codes "/a") (codes "b") ≡ codes "/a" ∷ codes "b" ∷ []
  pub field : words_of_place (codes "time") [] ≡ codes "time" ∷ []
  pub no_layout : is_yes 0 ≡ false
  pub layout : is_yes 1 ≡ true
  pub no_address : address_if (has_bit 2 1) 5 ≡ None
  pub address : address_if (has_bit 2 2) 5 ≡ Some 5

-- The kinds of lines that each bit of a number allows, and that all of them do.
pub record AllowedBitsAreKnown : Type 0 where
  pub nothing : allowed_words (allowed_of 0) ≡ []
  pub bad_hash : allowed_words (allowed_of 1) ≡ codes "bad-hash" ∷ []
  pub unhashed : allowed_words (allowed_of 2) ≡ codes "unhashed" ∷ []
  pub weak_hash : allowed_words (allowed_of 4) ≡ codes "weak-hash" ∷ []
  pub bad_list : allowed_words (allowed_of 8) ≡ codes "bad-list" ∷ []
  pub missing : allowed_words (allowed_of 16) ≡ codes "missing" ∷ []
  pub bad_default : allowed_words (allowed_of 32) ≡ codes "bad-default" ∷ []
  pub trailing : allowed_words (allowed_of 64) ≡ codes "trailing" ∷ []
  pub skipped_hash : allowed_words (allowed_of 128) ≡ codes "skipped-hash" ∷ []
  pub unsigned : allowed_words (allowed_of 256) ≡ codes "unsigned" ∷ []
  pub no_nodes : allowed_words (allowed_of 512) ≡ codes "no-nodes" ∷ []
  pub no_images : allowed_words (allowed_of 1024) ≡ codes "no-images" ∷ []
  pub uncovered : allowed_words (allowed_of 2048) ≡ codes "uncovered" ∷ []
  pub foreign : allowed_words (allowed_of 4096) ≡ codes "foreign" ∷ []
  pub strings : allowed_words (allowed_of 8192) ≡ codes "strings" ∷ []
  pub unit_address : allowed_words (allowed_of 16384) ≡ codes "unit-address" ∷ []
  pub two : allowed_words (allowed_of 68) ≡ codes "weak-hash" ∷ codes "trailing" ∷ []
  pub all : allowed_words (allowed_of 32767)
      ≡ codes "bad-hash" ∷ codes "skipped-hash" ∷ codes "unhashed" ∷ codes "weak-hash"
      ∷ codes "bad-list" ∷ codes "missing" ∷ codes "unsigned" ∷ codes "no-nodes"
      ∷ codes "no-images" ∷ codes "uncovered" ∷ codes "foreign" ∷ codes "strings"
      ∷ codes "unit-address" ∷ codes "bad-default" ∷ codes "trailing" ∷ []
  pub not_asked : (policy_of 32767).signed ≡ false
  pub asked : (policy_of 32768).signed ≡ true
