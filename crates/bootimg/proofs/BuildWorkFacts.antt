use Rattle.std.proofs.Common.{◌≡◌, ◌∙◌, ◌⊎◌, ℕ, true, true≢false, List, [], ◌∷◌, Option, None, Some, Ok, Err}
use Rattle.std.proofs.Common.{codes, length, map, inl, inr, ap, refl, sym, subst, arith}
use Rattle.std.specs.Borrow.{Bor}
use Rattle.std.specs.List.{AllByRecursion, AllZip}
use Rattle.bi_base.specs.Commands.{PipeError, OfCommand, InputTooLong, NoMemory, NoRead, NoWrite}
use Rattle.bi_base.specs.declared.fault.Cause.TheVariants.{BadPart}
use Rattle.bi_base.specs.declared.fault.Error.{Error}
use Rattle.bi_base.specs.declared.fault.Error.TheVariants.{Refused, OutOfMemory}
use Rattle.bi_base.specs.declared.fault.Fault.{Fault}
use Rattle.bi_base.specs.Limits.{Limits, widest}
use Rattle.bi_base.specs.Writing.{Writes}
use Rattle.bi_commands.specs.BuildCommands.{AreFilled, ArePartsOf, ImageFields, IsFitOutput, IsWhole, image_fields}
use Rattle.bi_commands.specs.KnownChoices.{lent}
use Rattle.bi_commands.specs.KnownParts.{given_parts, mixed_parts}
use Rattle.bi_commands.specs.Parts.{HasGivenBytes}
use Rattle.bi_commands.specs.declared.parts.Part.{Part}
use Rattle.bi_commands.specs.declared.parts.Part.TheVariants.{Bytes, Length}
use Rattle.bi_commands.proofs.PartFacts.{built_parts_are_known}
use Rattle.bi_files.specs.Files.{FileStep}
use Rattle.bi_fit.specs.declared.form.Form.{Form}
use Rattle.bi_fit.specs.declared.form.Form.TheVariants.{Embedded}
use Rattle.bi_fit.specs.Building.{ImageSpecModel, built_tree}
use Rattle.bi_fit.specs.KnownBuilds.{known_text}
use Rattle.bi_fit.specs.NamedImages.{head_model}
use Rattle.bi_fit.specs.Text.{fit_text}
use Rattle.bi_fit.specs.declared.building.Head.{Head}
use Rattle.bi_legacy.specs.Codes.{os_names, arch_names, type_names, compression_names}
use Rattle.bi_legacy.specs.Meaning.{image_of}
use Rattle.bi_legacy.specs.Text.{legacy_text}
use Rattle.bi_norm.specs.Converting.{code_name}
use Rattle.bi_norm.specs.FitBuilding.{PlanSpecModel, plain_plan, plan_for, spec_models}
use Rattle.bi_norm.specs.KnownBuildFaults.{head_like}
use Rattle.bi_norm.specs.KnownBuiltTexts.{kernel_and_ramdisk}
use Rattle.bi_norm.specs.declared.fit_building.ImageSpec.{ImageSpec}
use Rattle.bootimg.specs.CommandLine.{reads_input}
use Rattle.bootimg.specs.KnownInputs.{two_files, without_files}
use Rattle.bootimg.specs.KnownTasks.{BuildPromisesAreKnown, BuildWorksAreKnown, IsPlainPlan, without_notes, hello_and_abc}
use Rattle.bootimg.specs.KnownWorks.{bytes_in_part, parts_a_and_b}
use Rattle.bootimg.specs.Runs.{ArePartsRead, BuiltOfFiles, BuiltWithInput, IsBuildWork, IsBuiltWork, IsPartNotRead, NoRoom, PartNotRead}
use Rattle.bootimg.specs.Runs.{WasBuilt, WasNotBuilt, Work, build_promise, no_input, plan_of_options, source_failure, with_input}
use Rattle.bootimg.specs.Tasks.{EndedWith}
use Rattle.bootimg.specs.declared.command_line.build.BuildPlan.TheVariants.{Legacy, Fit}
use Rattle.bootimg.specs.declared.command_line.build.FitPlan.{FitPlan}
use Rattle.bootimg.specs.declared.command_line.build.LegacyPlan.{LegacyPlan}
use Rattle.bootimg.specs.declared.command_line.part.PartSource.{PartSource}
use Rattle.bootimg.specs.declared.command_line.part.PartSource.TheVariants as part
use Rattle.bootimg.specs.declared.command_line.source.ImageSource.TheVariants.{Standard, File}
use Rattle.bootimg.specs.declared.failure.Failure.TheVariants.{Call, CannotOpen}
use Rattle.bootimg.specs.declared.jobs.SourceFailure.{SourceFailure}
use Rattle.bootimg.specs.declared.tasks.Done.{Done}
use Rattle.bootimg.proofs.InputFacts.{input_of_file}
use Rattle.bootimg.proofs.WorkFacts.{none_of_files, not_failed, parts_of_files_are_known, same_done, one_failure}

-- What is built of small parts is known.

-- ---- contents

-- Parts that all have bytes have these as their contents.
given_contents : (parts : List Part) (known contents : List (List ℕ)) → map bytes_in_part parts ≡ map Some known →
    AllZip HasGivenBytes parts contents → contents ≡ known
given_contents [] [] [] is given = refl
given_contents [] [] (content ∷ contents) is given = absurd given
given_contents [] (bytes ∷ known) contents is given = absurd cc
given_contents (Length size ∷ parts) [] contents is given = absurd cc
given_contents (Length size ∷ parts) (bytes ∷ known) contents is given = absurd cc
given_contents (Bytes given_bytes ∷ parts) [] contents is given = absurd cc
given_contents (Bytes given_bytes ∷ parts) (bytes ∷ known) [] is given = absurd given
given_contents (Bytes given_bytes ∷ parts) (bytes ∷ known) (content ∷ contents) is given =
    let first : given_bytes.now ≡ bytes = cc in
    let later : map bytes_in_part parts ≡ map Some known = cc in
    λ i. (given.0 ∙ first) i ∷ given_contents parts known contents later given.1 i

-- Some parts that all have bytes are filled with these, and with nothing else.
part_contents : (parts : List Part) (first : List ℕ) (known contents : List (List ℕ)) →
    map bytes_in_part parts ≡ map Some (first ∷ known) → ArePartsOf parts [] contents → contents ≡ first ∷ known
part_contents parts first known contents is (IsWhole none whole) = absurd cc
part_contents parts first known contents is (AreFilled some filled) = given_contents parts (first ∷ known) contents is filled.given

-- ---- legacy images

legacy_of : (plan : LegacyPlan) (parts : List Part) (first : List ℕ) (known : List (List ℕ)) (limits : Limits) (output : List ℕ) →
    map bytes_in_part parts ≡ map Some (first ∷ known) → (build_promise (Legacy plan) parts limits).is_output tt [] output →
    output ≡ legacy_text (image_of plan.fields (first ∷ known))
legacy_of plan parts first known limits output is built =
    built.built.is_text
    ∙ ap (λ contents. legacy_text (image_of plan.fields contents)) (part_contents parts first known built.contents is built.are_parts)

-- ---- flattened image trees

-- The images of fields and payloads.
abbrev model_with : ImageFields → List ℕ → ImageSpecModel
model_with fields payload = record {
  name = fields.name;
  description = None;
  image_type = code_name type_names fields.image_type;
  arch = code_name arch_names fields.arch;
  os = code_name os_names fields.os;
  compression = code_name compression_names fields.compression;
  load = fields.load;
  entry = fields.entry;
  payload = payload;
}

abbrev models_with : List ImageFields → List (List ℕ) → List ImageSpecModel
models_with (fields ∷ later) (payload ∷ payloads) = model_with fields payload ∷ models_with later payloads
models_with fields payloads = []

-- Without descriptions of images, in whatever way, the plan is the plain one.
abbrev plan_with_nothing : List (Option (List ℕ)) → PlanSpecModel
plan_with_nothing descriptions = record plain_plan { descriptions = descriptions }

models_are : (descriptions : List (Option (List ℕ))) → AllByRecursion (λ description. description ≡ None) descriptions →
    (images : List ImageSpec) → spec_models (plan_with_nothing descriptions) images
    ≡ models_with (map image_fields images) (map (λ image. image.payload.now) images)
models_are descriptions none [] = refl
models_are [] none (image ∷ later) =
    ap (λ models. model_with (image_fields image) image.payload.now ∷ models) (models_are [] tt later)
models_are (description ∷ descriptions) none (image ∷ later) =
    rw (none.0)
    (ap (λ models. model_with (image_fields image) image.payload.now ∷ models) (models_are descriptions none.1 later))

abbrev text_of_models : Head → List ImageSpecModel → List ℕ
text_of_models head models = fit_text Embedded (built_tree (head_model head) (plan_for plain_plan models) models)

plain_text : (any : Bor (List ℕ)) (limits : Limits) (output : List ℕ) →
    IsFitOutput limits Embedded (head_like any (codes "k")) (plan_with_nothing (None ∷ None ∷ [])) (kernel_and_ramdisk any) hello_and_abc
    [] output → output ≡ known_text
plain_text any limits output is =
    let contents = given_contents hello_and_abc (codes "hello" ∷ codes "abc" ∷ []) is.contents refl is.filled.given in
    let fields : map image_fields is.images ≡ map image_fields (kernel_and_ramdisk any) = is.have.same_fields in
    is.built.is_text
    ∙ ap (text_of_models (head_like any (codes "k")))
    (models_are (None ∷ None ∷ []) (refl, (refl, tt)) is.images ∙ (λ i. models_with (fields i) ((is.have.have_payloads ∙ contents) i)))

fit_of_plan : (any : Bor (List ℕ)) (plan : FitPlan) (limits : Limits) (output : List ℕ) → IsPlainPlan any plan →
    (build_promise (Fit plan) hello_and_abc limits).is_output tt [] output → output ≡ known_text
fit_of_plan any plan limits output plain is =
    plain_text any limits output
    (subst (λ (form : Form). IsFitOutput limits form (head_like any (codes "k")) nothing_given (kernel_and_ramdisk any) hello_and_abc
    [] output)
    plain.form
    (subst (λ (head : Head). IsFitOutput limits plan.form head nothing_given (kernel_and_ramdisk any) hello_and_abc [] output) plain.head
    (subst (λ (spec : PlanSpecModel). IsFitOutput limits plan.form plan.head spec (kernel_and_ramdisk any) hello_and_abc [] output) spec_is
    (subst (λ (images : List ImageSpec). IsFitOutput limits plan.form plan.head (plan_of_options plan) images hello_and_abc [] output)
    plain.images is))))
  where
    nothing_given : PlanSpecModel
    nothing_given = plan_with_nothing (None ∷ None ∷ [])

    spec_is : plan_of_options plan ≡ nothing_given
    spec_is = rw (plain.configurations, plain.default, plain.algorithms, plain.texts, plain.images, plain.descriptions) refl

pub build_promises_are_known : BuildPromisesAreKnown
build_promises_are_known = record {
  legacy = λ plan limits output is. legacy_of plan given_parts (codes "ab") (codes "c" ∷ []) limits output refl is;
  whole_input = λ plan limits output is. (built_parts_are_known.legacy_input plan.fields limits output is).is_text;
  legacy_fault = λ plan limits fault is. built_parts_are_known.legacy_fault plan.fields limits fault is;
  fit = fit_of_plan;
  fit_fault = λ plan limits fault is.
      built_parts_are_known.fit_fault plan.form plan.head (plan_of_options plan) plan.images.items limits fault is;
}

-- ---- works

is_without_notes : (done : Done) → EndedWith true done → done ≡ without_notes true
is_without_notes done is = λ i. record {
  good = is.is_answer i;
  kept = record {
    signatures = is.no_signatures i;
    lost_alignment = is.says_nothing.alignment i;
    lost_positions = is.says_nothing.positions i;
  };
  inside = is.none_inside i;
}

built_of : (plan : LegacyPlan) (parts : List Part) (first : List ℕ) (known : List (List ℕ)) (limits : Limits) (work : Work) (done : Done) →
    map bytes_in_part parts ≡ map Some (first ∷ known) → IsBuiltWork (Legacy plan) parts limits work →
    work.input.remaining ≡ Some [] → work.outcome ≡ Ok done →
    Writes work.output (legacy_text (image_of plan.fields (first ∷ known))) work.new_output × (done ≡ without_notes true)
built_of plan parts first known limits work done bytes (WasBuilt other piped ends is) has good =
    let moved = piped.done.moved in
    let input = input_of_file work.input.remaining [] moved.input has moved.read.is_input in
    let output = legacy_of plan parts first known limits moved.output bytes
    (subst (λ input. (build_promise (Legacy plan) parts limits).is_output tt input moved.output) (sym input) moved.is_output) in (
      subst (λ bytes. Writes work.output bytes work.new_output) output moved.written,
      subst (λ (done : Done). done ≡ without_notes true) (same_done work.outcome other done is good) (is_without_notes other ends),
    )
built_of plan parts first known limits work done bytes (WasNotBuilt error piped is) has good = absurd (not_failed work.outcome good is)

refused_as : (plan : LegacyPlan) (input : List ℕ) (fault : Fault) → input ≡ codes "abcd" →
    PipeError (build_promise (Legacy plan) mixed_parts widest) widest input (Refused fault) →
    fault ≡ record { cause = BadPart; offset = 3 }
refused_as plan input fault same (OfCommand has) =
    built_parts_are_known.legacy_fault plan.fields widest fault
    (subst (λ input. (build_promise (Legacy plan) mixed_parts widest).has_error input (Refused fault)) same has)
refused_as plan input fault same (InputTooLong longer is) = absurd (omega (arith, longer, ap length same))
refused_as plan input fault same (NoMemory is) = absurd cc
refused_as plan input fault same (NoRead is) = absurd cc
refused_as plan input fault same (NoWrite is) = absurd cc

refused : (plan : LegacyPlan) (work : Work) (fault : Fault) → IsBuiltWork (Legacy plan) mixed_parts widest work →
    work.input.remaining ≡ Some (codes "abcd") → work.outcome ≡ Err (source_failure Standard (Call (Refused fault))) →
    fault ≡ record { cause = BadPart; offset = 3 }
refused plan work fault (WasBuilt done piped ends is) has bad = absurd (not_failed work.outcome is bad)
refused plan work fault (WasNotBuilt error piped is) has bad =
    let failures = one_failure work.outcome (source_failure Standard (Call error)) (source_failure Standard (Call (Refused fault)))
    is bad in
    let calls : Call error ≡ Call (Refused fault) = ap (λ (f : SourceFailure). f.failure) failures in
    let errors : error ≡ Refused fault = cc in
    let failed = piped.failed.failed in
    refused_as plan failed.input fault (sym (input_of_file work.input.remaining (codes "abcd") failed.input has failed.is_input))
    (subst (λ (e : Error). PipeError (build_promise (Legacy plan) mixed_parts widest) widest failed.input e) errors failed.has_error)

of_files : (plan : LegacyPlan) (work : Work) (done : Done) (old new : Option (List FileStep)) → plan.parts.items ≡ parts_a_and_b →
    IsBuildWork (two_files (codes "x") (codes "yz")) (Legacy plan) widest work old new → work.outcome ≡ Ok done →
    Writes work.output (legacy_text (image_of plan.fields (codes "x" ∷ codes "yz" ∷ []))) work.new_output
    × (work.new_input ≡ work.input)
of_files plan work done old new sources (BuiltWithInput parts are reads built) good =
    absurd (true≢false (sym reads ∙ ap reads_input sources))
of_files plan work done old new sources (BuiltOfFiles parts are reads built same) good =
    let bytes = parts_of_files_are_known.read parts old new
    (subst (λ (s : List PartSource). ArePartsRead (two_files (codes "x") (codes "yz")) widest s parts old new) sources are) in
    ((built_of plan parts (codes "x") (codes "yz" ∷ []) widest (with_input work no_input no_input) done bytes built refl good).0, same)
of_files plan work done old new sources (PartNotRead failed not_read is same) good = absurd (not_failed work.outcome good is.outcome)
of_files plan work done old new sources (NoRoom are is same) good = absurd (not_failed work.outcome good is.outcome)

-- Without files these parts are not read.
not_there : (sources : List PartSource) (parts : List Part) (old new : Option (List FileStep)) → sources ≡ parts_a_and_b →
    ¬ (ArePartsRead without_files widest sources parts old new)
not_there sources parts old new same are =
    none_of_files (part.File (lent (codes "b")) ∷ []) (lent (codes "a")) parts old new
    (subst (λ (s : List PartSource). ArePartsRead without_files widest s parts old new) same are)

no_files : (plan : LegacyPlan) (work : Work) (old new : Option (List FileStep)) → plan.parts.items ≡ parts_a_and_b →
    IsBuildWork without_files (Legacy plan) widest work old new →
    ((work.outcome ≡ Err (source_failure (File (lent (codes "a"))) CannotOpen))
    ⊎ (work.outcome ≡ Err (source_failure Standard (Call OutOfMemory))))
    × (work.new_output ≡ work.output)
no_files plan work old new sources (BuiltWithInput parts are reads built) =
    absurd (not_there plan.parts.items parts old new sources are)
no_files plan work old new sources (BuiltOfFiles parts are reads built same) =
    absurd (not_there plan.parts.items parts old new sources are)
no_files plan work old new sources (PartNotRead failed not_read is same) =
    let first = parts_of_files_are_known.not_read failed old new
    (subst (λ (s : List PartSource). IsPartNotRead without_files widest s failed old new) sources not_read) in
    (inl (is.outcome ∙ ap (λ (f : SourceFailure). Err f) first), is.nothing_written)
no_files plan work old new sources (NoRoom are is same) = (inr is.outcome, is.nothing_written)

pub build_works_are_known : BuildWorksAreKnown
build_works_are_known = record {
  built = λ plan limits work done is has good.
      built_of plan given_parts (codes "ab") (codes "c" ∷ []) limits work done refl is has good;
  refused = refused;
  of_files = of_files;
  no_files = no_files;
}
