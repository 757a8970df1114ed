use Rattle.std.specs.Prelude.{◌≡◌, ◌⊎◌, ℕ, Bool, true, false, List, [], ◌∷◌, codes}
use Rattle.std.specs.Prelude.{Option, None, Some, Ok, Err}
use Rattle.std.specs.Borrow.{Bor}
use Rattle.bi_base.specs.declared.fault.Cause.TheVariants.{BadPart}
use Rattle.bi_base.specs.declared.fault.Error.TheVariants.{Refused, OutOfMemory}
use Rattle.bi_base.specs.declared.fault.Fault.{Fault}
use Rattle.bi_base.specs.Limits.{Limits, widest}
use Rattle.bi_base.specs.Writing.{Writes}
use Rattle.bi_blob.specs.KnownTexts.{smallest_text}
use Rattle.bi_commands.specs.KnownChoices.{lent}
use Rattle.bi_commands.specs.KnownParts.{given_parts, mixed_parts}
use Rattle.bi_commands.specs.declared.parts.Part.{Part}
use Rattle.bi_commands.specs.declared.parts.Part.TheVariants.{Bytes}
use Rattle.bi_common.specs.KnownWords.{lines}
use Rattle.bi_common.specs.declared.format.Format.{Format}
use Rattle.bi_common.specs.declared.format.Format.TheVariants.{Lines, Json}
use Rattle.bi_describe.specs.DeepDescribing.{IsDeepDescription}
use Rattle.bi_files.specs.Files.{FileStep}
use Rattle.bi_fit.specs.declared.form.Form.TheVariants.{Embedded, External}
use Rattle.bi_fit.specs.KnownBuilds.{known_text}
use Rattle.bi_fit.specs.KnownFiles.{three_aligned, three_external}
use Rattle.bi_fit.specs.KnownJudgements.{good_crc, short_crc}
use Rattle.bi_fit.specs.KnownKept.{kept}
use Rattle.bi_hash.specs.declared.algo.Algo.TheVariants.{Sha256}
use Rattle.bi_legacy.specs.KnownFiles.{kernel_file_with_rest}
use Rattle.bi_legacy.specs.KnownImages.{kernel_file, multi_file}
use Rattle.bi_legacy.specs.Meaning.{image_of}
use Rattle.bi_legacy.specs.Text.{legacy_text}
use Rattle.bi_norm.specs.KnownBuildFaults.{head_like}
use Rattle.bi_norm.specs.KnownBuiltTexts.{kernel_and_ramdisk}
use Rattle.bi_report.specs.declared.check.Allowed.{Allowed}
use Rattle.bi_report.specs.declared.check.Policy.{Policy}
use Rattle.bi_report.specs.Checking.{nothing_allowed}
use Rattle.bi_report.specs.KnownOutputs.{bad_lines, file_with_hash, file_without_hash}
use Rattle.bi_report.specs.KnownOutputs.{good_lines, kernel_object}
use Rattle.bi_report.specs.KnownScans.{scan_limits, two_images, two_lines, two_objects}
use Rattle.bi_show.specs.KnownObjects.{page_object}
use Rattle.bi_show.specs.KnownPages.{kernel_page, multi_page}
use Rattle.bi_values.specs.ValueNames.{FieldAt, value_name_models}
use Rattle.bi_values.specs.declared.get_error.GetError.TheVariants as get
use Rattle.bi_values.specs.declared.value_form.ValueForm.TheVariants.{Shown, Number}
use Rattle.bi_values.specs.declared.value_name.HeaderField.TheVariants as field
use Rattle.bootimg.specs.KnownInputs.{two_files, without_files}
use Rattle.bootimg.specs.KnownWorks.{HasAnswer, Makes, parts_a_and_b}
use Rattle.bootimg.specs.Runs.{IsBuildWork, IsBuiltWork, Work, build_promise, source_failure}
use Rattle.bootimg.specs.Failures.{IsFailureOfGetting}
use Rattle.bootimg.specs.Tasks.{TaskDone, TaskFails}
use Rattle.bootimg.specs.declared.command_line.Task.TheVariants as task
use Rattle.bootimg.specs.declared.command_line.build.BuildPlan.TheVariants.{Legacy, Fit}
use Rattle.bootimg.specs.declared.command_line.build.FitPlan.{FitPlan}
use Rattle.bootimg.specs.declared.command_line.build.LegacyPlan.{LegacyPlan}
use Rattle.bootimg.specs.declared.command_line.extract.Selected.TheVariants as selected
use Rattle.bootimg.specs.declared.command_line.show.ShowForm.TheVariants as show_form
use Rattle.bootimg.specs.declared.command_line.values.GetPlan.{GetPlan}
use Rattle.bootimg.specs.declared.command_line.values.ValueWords.{ValueWords}
use Rattle.bootimg.specs.declared.command_line.source.ImageSource.TheVariants.{Standard, File}
use Rattle.bootimg.specs.declared.failure.Failure.{Failure}
use Rattle.bootimg.specs.declared.failure.Failure.TheVariants.{Call, CannotOpen, WrongKind}
use Rattle.bootimg.specs.declared.failure.Failure.TheVariants.{NoProperty, NoText, NoNumber}
use Rattle.bootimg.specs.declared.tasks.Done.{Done}

-- How tasks on small files end, and what is built of small parts, by which a reader can judge the
-- definitions.

-- ---- tasks

-- A job ended with this answer, and there is nothing to note.
abbrev pub without_notes : (good : Bool) → Done
without_notes good = record { good = good; kept = kept None 0; inside = 0 }

-- These kinds are allowed, and signatures are not asked for.
abbrev pub policy_of_kinds : Allowed → Policy
policy_of_kinds allowed = record { allowed = allowed; signed = false }

-- What each task makes of a small file, and how it ends: with the answer that its output gives. A
-- text that is normalised or updated may lose the alignment of its payloads.
pub record TaskEndsAreKnown : Type 0 where
  pub normalise : TaskDone (task.Normalise External) widest
      (record { good = true; kept = kept (Some 4096) 0; inside = 0 }) (three_aligned 4096 4096)
      three_external
  pub layout : TaskDone (task.Show (show_form.Page (record { layout = true }))) widest
      (without_notes true) kernel_file_with_rest kernel_page
  pub no_layout : TaskDone (task.Show (show_form.Page (record { layout = false }))) widest
      (without_notes true) multi_file (multi_page [])
  pub page_in_json : TaskDone (task.Show show_form.Json) widest (without_notes true)
      kernel_file_with_rest page_object
  pub list : TaskDone (task.List Json) widest (without_notes true) kernel_file_with_rest
      kernel_object
  pub describe : TaskDone (task.Describe false Lines) widest (without_notes true) smallest_text
      (lines
      (codes "kind fit" ∷ codes "boot-cpu 0" ∷ codes "node /" ∷ codes "node /images" ∷ []))
  pub deep : TaskDone (task.Describe true Lines) widest (without_notes true) smallest_text
      (lines
      (codes "kind fit" ∷ codes "boot-cpu 0" ∷ codes "node /" ∷ codes "node /images" ∷ []))
  pub with_inside : (format : Format) (input output : List ℕ)
      → IsDeepDescription format widest input output
      → TaskDone (task.Describe true format) widest (without_notes true) input output
  pub verify : TaskDone (task.Verify Lines) widest (without_notes true) (file_with_hash good_crc)
      good_lines
  pub bad_hash : TaskDone (task.Verify Lines) widest (without_notes false)
      (file_with_hash short_crc)
      bad_lines
  pub bad_answer : HasAnswer (task.Verify Lines) (file_with_hash short_crc) false
  pub check : TaskDone (task.Check (policy_of_kinds nothing_allowed) Json) widest
      (without_notes true) smallest_text
      (lines (codes "{\"concerns\":[]}" ∷ []))
  pub concern : TaskDone (task.Check (policy_of_kinds nothing_allowed) Lines) widest
      (without_notes false)
      file_without_hash
      (lines (codes "unhashed a" ∷ []))
  pub allowed :
      TaskDone
      (task.Check (policy_of_kinds (record nothing_allowed { unhashed = true })) Lines)
      widest (without_notes true) file_without_hash []
  pub scan : TaskDone (task.Scan Lines) (scan_limits 162) (without_notes true) two_images two_lines
  pub scan_in_json : TaskDone (task.Scan Json) (scan_limits 162) (without_notes true) two_images
      two_objects
  pub nothing_found : TaskDone (task.Scan Lines) (scan_limits 162) (without_notes false)
      (codes "hello") []
  pub get : (plan : GetPlan) → plan.form ≡ Shown
      → value_name_models plan.names.items ≡ FieldAt field.Load ∷ FieldAt field.Name ∷ []
      → Makes (task.Get plan) kernel_file (codes "0x00008000\nk\n")
  pub got : (plan : GetPlan) → plan.form ≡ Shown
      → value_name_models plan.names.items ≡ FieldAt field.Load ∷ FieldAt field.Name ∷ []
      → TaskDone (task.Get plan) widest (without_notes true) kernel_file
      (codes "0x00008000\nk\n")
  pub extract : Makes (task.Extract (selected.Part 1)) multi_file (codes "abc")
  pub extracted : TaskDone (task.Extract (selected.Part 1)) widest (without_notes true) multi_file
      (codes "abc")

-- The failures of getting values: those of the calls behind them, and of a value one with its
-- words.
pub record GetFailuresAreKnown : Type 0 where
  pub failed : (failure : Failure) → IsFailureOfGetting [] (get.Failed OutOfMemory) failure
      → failure ≡ Call OutOfMemory
  pub wrong_kind : (failure : Failure) → IsFailureOfGetting [] get.WrongKind failure
      → failure ≡ WrongKind
  pub no_property : (one other : ValueWords) (failure : Failure)
      → IsFailureOfGetting (one ∷ other ∷ []) (get.NoProperty 1) failure
      → failure ≡ NoProperty other
  pub no_text : (one other : ValueWords) (failure : Failure)
      → IsFailureOfGetting (one ∷ other ∷ []) (get.NoText 0) failure → failure ≡ NoText one
  pub no_words : (failure : Failure) → ¬ (IsFailureOfGetting [] (get.NoText 0) failure)
  pub no_number : (plan : GetPlan) (one other : ValueWords) (failure : Failure)
      → plan.form ≡ Number
      → value_name_models plan.names.items ≡ FieldAt field.Load ∷ FieldAt field.Name ∷ []
      → plan.words.items ≡ one ∷ other ∷ [] → TaskFails (task.Get plan) widest kernel_file failure
      → (failure ≡ NoNumber other) ⊎ (failure ≡ Call OutOfMemory)

-- ---- building

-- The bytes `hello` and then `abc`, which are given.
abbrev pub hello_and_abc : List Part
hello_and_abc = Bytes (lent (codes "hello")) ∷ Bytes (lent (codes "abc")) ∷ []

-- The plan has the description `k`, time 1, a kernel and a ramdisk, the SHA-256 of each, and
-- payloads inside the blob, and no configuration, default, texts or descriptions are given.
pub record IsPlainPlan (any : Bor (List ℕ)) (plan : FitPlan) : Type 0 where
  pub head : plan.head ≡ head_like any (codes "k")
  pub images : plan.images.items ≡ kernel_and_ramdisk any
  pub configurations : plan.configurations.items ≡ []
  pub default : plan.default ≡ None
  pub algorithms : plan.algorithms.items ≡ Sha256 ∷ []
  pub texts : plan.texts.items ≡ []
  pub descriptions : plan.own_texts.images.items ≡ []
  pub form : plan.form ≡ Embedded

-- An image is built of the parts, and of the fields or the images of its plan. Without parts the
-- whole input is the only one. An input that is longer than its parts is refused where they end.
pub record BuildPromisesAreKnown : Type 0 where
  pub legacy : (plan : LegacyPlan) (limits : Limits) (output : List ℕ)
      → (build_promise (Legacy plan) given_parts limits).is_output tt [] output
      → output ≡ legacy_text (image_of plan.fields (codes "ab" ∷ codes "c" ∷ []))
  pub whole_input : (plan : LegacyPlan) (limits : Limits) (output : List ℕ)
      → (build_promise (Legacy plan) [] limits).is_output tt (codes "abc") output
      → output ≡ legacy_text (image_of plan.fields (codes "abc" ∷ []))
  pub legacy_fault : (plan : LegacyPlan) (limits : Limits) (fault : Fault)
      → (build_promise (Legacy plan) mixed_parts limits).has_error (codes "abcd") (Refused fault)
      → fault ≡ record { cause = BadPart; offset = 3 }
  pub fit : (any : Bor (List ℕ)) (plan : FitPlan) (limits : Limits) (output : List ℕ)
      → IsPlainPlan any plan
      → (build_promise (Fit plan) hello_and_abc limits).is_output tt [] output
      → output ≡ known_text
  pub fit_fault : (plan : FitPlan) (limits : Limits) (fault : Fault)
      → (build_promise (Fit plan) mixed_parts limits).has_error (codes "abcd") (Refused fault)
      → fault ≡ record { cause = BadPart; offset = 3 }

-- A job that builds writes the image and has a good answer, or fails with the fault of the input.
-- The files `a` and `b` are the parts, and standard input is not read beside them. If they are not
-- there nothing is written.
pub record BuildWorksAreKnown : Type 0 where
  pub built : (plan : LegacyPlan) (limits : Limits) (work : Work) (done : Done)
      → IsBuiltWork (Legacy plan) given_parts limits work → work.input.remaining ≡ Some []
      → work.outcome ≡ Ok done
      → Writes work.output (legacy_text (image_of plan.fields (codes "ab" ∷ codes "c" ∷ [])))
      work.new_output
      × (done ≡ without_notes true)
  pub refused : (plan : LegacyPlan) (work : Work) (fault : Fault)
      → IsBuiltWork (Legacy plan) mixed_parts widest work
      → work.input.remaining ≡ Some (codes "abcd")
      → work.outcome ≡ Err (source_failure Standard (Call (Refused fault)))
      → fault ≡ record { cause = BadPart; offset = 3 }
  pub of_files : (plan : LegacyPlan) (work : Work) (done : Done) (old new : Option (List FileStep))
      → plan.parts.items ≡ parts_a_and_b
      → IsBuildWork (two_files (codes "x") (codes "yz")) (Legacy plan) widest work old new
      → work.outcome ≡ Ok done
      → Writes work.output (legacy_text (image_of plan.fields (codes "x" ∷ codes "yz" ∷ [])))
      work.new_output
      × (work.new_input ≡ work.input)
  pub no_files : (plan : LegacyPlan) (work : Work) (old new : Option (List FileStep))
      → plan.parts.items ≡ parts_a_and_b
      → IsBuildWork without_files (Legacy plan) widest work old new
      → ((work.outcome ≡ Err (source_failure (File (lent (codes "a"))) CannotOpen))
      ⊎ (work.outcome ≡ Err (source_failure Standard (Call OutOfMemory))))
      × (work.new_output ≡ work.output)
