use Rattle.std.proofs.Common.{◌≡◌, ◌≤◌, ℕ, List, length, map, sym, ap, ◌∙◌, rules}
use Rattle.std.specs.List.{concat, sum}
use Rattle.std.proofs.lemmas.List.Concat.{concat_is, length-flat_map}
use Rattle.std.proofs.lemmas.List.Sums.{sum-map}
use Rattle.bi_base.specs.Limits.{Limits}
use Rattle.bi_base.specs.declared.fault.Error.{Error}
use Rattle.bi_base.specs.declared.fault.Error.TheVariants.{Refused, OutOfMemory, ReadFailed, WriteFailed}
use Rattle.bi_fit.specs.declared.form.Form.{Form}
use Rattle.bi_fit.specs.declared.building.Head.{Head}
use Rattle.bi_norm.specs.declared.fit_building.ImageSpec.{ImageSpec}
use Rattle.bi_norm.specs.FitBuilding.{IsBuiltAs, IsBuildErrorAs, PlanSpecModel}
use Rattle.bi_norm.specs.Cutting.{IsCut, IsCutError}
use Rattle.bi_base.specs.Commands.{AppendFailed, WasRefused, SinkFailed}
use Rattle.bi_commands.specs.Parts.{IsFilled, lengths_of, pieces_among}
use Rattle.bi_commands.specs.declared.parts.Part.{Part}
use Rattle.bi_commands.specs.BuildCommands.{HavePayloads, IsFitOutput, IsFitOutputError, NotCut, NotBuilt}

-- A flattened image tree that was built of payloads and an input is the output, and an error of cutting the input or of building the tree
-- is one of the output.

-- An error of cutting the input is one of building from it.
pub cut_error : (limits : Limits) (form : Form) (head : Head) (plan : PlanSpecModel) (given : List ImageSpec) (parts : List Part) (input :
    List ℕ)
    (error : Error) → length input ≤ limits.file → IsCutError input (lengths_of parts) error →
    IsFitOutputError limits form head plan given parts input error
cut_error limits form head plan given parts input (Refused fault) short is = NotCut short is
cut_error limits form head plan given parts input OutOfMemory short is = is
cut_error limits form head plan given parts input ReadFailed short is = is
cut_error limits form head plan given parts input WriteFailed short is = is

-- The lengths of the pieces of an input are together its length.
length_concat : (pieces : List (List ℕ)) → sum (map length pieces) ≡ length (concat pieces)
length_concat pieces = sum-map length pieces ∙ sym (ap length (concat_is pieces) ∙ length-flat_map (λ piece. piece) pieces)

pub sum_of_cut : (input lengths : List ℕ) (pieces : List (List ℕ)) → IsCut input lengths pieces → sum lengths ≡ length input
sum_of_cut input lengths pieces cut = ap sum (sym cut.have_lengths) ∙ length_concat pieces ∙ ap length cut.are_whole

-- An input within the limits, payloads with their contents, and the images with these.
pub record HasPayloads (limits : Limits) (given : List ImageSpec) (parts : List Part) (input : List ℕ) (contents : List (List ℕ))
    (images : List ImageSpec) : Type 0 where
  pub short : length input ≤ limits.file
  pub filled : IsFilled parts input contents
  pub have : HavePayloads given contents images

-- An error of building the images is one of building from the input.
build_error : (limits : Limits) (form : Form) (head : Head) (plan : PlanSpecModel) (given : List ImageSpec) (parts : List Part) (input :
    List ℕ)
    (contents : List (List ℕ)) (images : List ImageSpec) (error : Error) → HasPayloads limits given parts input contents images →
    IsBuildErrorAs limits form head plan images error → IsFitOutputError limits form head plan given parts input error
build_error limits form head plan given parts input contents images
    (Refused fault) completed is = NotBuilt completed.short contents completed.filled images completed.have is
build_error limits form head plan given parts input contents images OutOfMemory completed is = sum_of_cut input (lengths_of parts)
    (pieces_among parts contents) completed.filled.cut
build_error limits form head plan given parts input contents images ReadFailed completed is = is
build_error limits form head plan given parts input contents images WriteFailed completed is = is

-- A text that was built is the output.
is_output : (limits : Limits) (form : Form) (head : Head) (plan : PlanSpecModel) (given : List ImageSpec) (parts : List Part) (input :
    List ℕ)
    (contents : List (List ℕ)) (images : List ImageSpec) (text : List ℕ) → HasPayloads limits given parts input contents images →
    IsBuiltAs limits form head plan images text → IsFitOutput limits form head plan given parts input text
is_output limits form head plan given parts input contents images text completed built = search rules

-- Images that were not built were refused, or the sink failed.
pub not_appended : {S : Type 0} (fails : S → List ℕ → S → Error → Type 0) (limits : Limits) (form : Form) (head : Head)
    (plan : PlanSpecModel) (given : List ImageSpec) (parts : List Part) (input : List ℕ) (contents : List (List ℕ)) (images : List
    ImageSpec) (old new : S)
    (error : Error) → HasPayloads limits given parts input contents images →
    AppendFailed fails (IsBuiltAs limits form head plan images) (IsBuildErrorAs limits form head plan images) old new error →
    AppendFailed fails (IsFitOutput limits form head plan given parts input) (IsFitOutputError limits form head plan given parts input)
    old new error
not_appended fails limits form head plan given parts input contents images old new error completed (WasRefused is same) = WasRefused
    (build_error limits form head plan given parts input contents images error completed is) same
not_appended fails limits form head plan given parts input contents images old new error completed (SinkFailed text cause is failed same) =
    SinkFailed text cause (is_output limits form head plan given parts input contents images text completed is) failed same
