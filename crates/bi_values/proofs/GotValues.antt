use Rattle.std.proofs.Common.{◌≡◌, ◌⊎◌, ◌<◌, ◌∙◌, ℕ, suc, List, [], ◌∷◌, ◌++◌, inl, inr, length, map, get_or, take, drop, Option, Some}
use Rattle.std.proofs.Common.{None, flat_map, refl, sym, ap, subst, arith}
use Rattle.std.proofs.Common.{take-append-drop}
use Rattle.std.proofs.Math.Seq.{drop-cons}
use Rattle.std.proofs.lemmas.List.{length-map, length-take-le, map-append}
use Rattle.std.specs.List.{concat}
use Rattle.bi_base.specs.declared.fault.Error.TheVariants.{OutOfMemory}
use Rattle.bi_base.specs.Limits.{Limits}
use Rattle.bi_base.specs.MemoryPens.{MemoryPuts}
use Rattle.bi_norm.specs.declared.image.BootImage.{BootImage}
use Rattle.bi_norm.specs.Meaning.{Meaning}
use Rattle.bi_norm.specs.Reading.{IsReadBootImage, meaning_of}
use Rattle.bi_norm.proofs.Comparisons.{opened_means}
use Rattle.bi_norm.proofs.NormalForms.{needs_memory}
use Rattle.bi_values.specs.Getting.{IsFirstReason, IsGetError, IsTextOfValues, IsValueReason}
use Rattle.bi_values.specs.ValueNames.{ValueNameModel, value_name_model, value_name_models}
use Rattle.bi_values.specs.ValueOutputs.{output_text, output_texts, result_of_output}
use Rattle.bi_values.specs.ValueResults.{ValueBytes, ValueResult, value_result, value_results}
use Rattle.bi_values.specs.declared.get_error.GetError.{GetError}
use Rattle.bi_values.specs.declared.get_error.GetError.TheVariants as error
use Rattle.bi_values.specs.declared.outputs.ValueOutput.{ValueOutput}
use Rattle.bi_values.specs.declared.value_form.ValueForm.{ValueForm}
use Rattle.bi_values.specs.declared.value_name.ValueName.{ValueName}

-- What was got of what was read from a file is got of the file.

-- The results of outputs are their bytes.
outputs_are_bytes : (outputs : List ValueOutput) → map result_of_output outputs ≡ map ValueBytes (output_texts outputs)
outputs_are_bytes [] = refl
outputs_are_bytes (output ∷ outputs) = ap (λ later. result_of_output output ∷ later) (outputs_are_bytes outputs)

-- The text of outputs is that of the values.
text_of_file : (form : ValueForm) (names : List ValueNameModel) (limits : Limits) (file : List ℕ) (image : BootImage)
    (outputs : List ValueOutput) → IsReadBootImage limits file image →
    value_results form (meaning_of image) names ≡ map result_of_output outputs →
    IsTextOfValues form names limits file (concat (output_texts outputs))
text_of_file form names limits file image outputs read are = record {
  meaning = meaning_of image;
  means = opened_means limits file image read;
  has_values = record { pieces = output_texts outputs; are_bytes = are ∙ outputs_are_bytes outputs; is_text = refl };
}

-- What is put for outputs is all of them.
all_outputs : (outputs : List ValueOutput) → flat_map output_text outputs ≡ concat (output_texts outputs)
all_outputs [] = refl
all_outputs (output ∷ outputs) = ap (λ later. output_text output ++ later) (all_outputs outputs)

pub outputs_of_file : (form : ValueForm) (names : List ValueNameModel) (limits : Limits) (file : List ℕ) (image : BootImage)
    (outputs : List ValueOutput) → IsReadBootImage limits file image →
    value_results form (meaning_of image) names ≡ map result_of_output outputs →
    IsTextOfValues form names limits file (flat_map output_text outputs)
outputs_of_file form names limits file image outputs read are =
    subst (IsTextOfValues form names limits file) (sym (all_outputs outputs)) (text_of_file form names limits file image outputs read are)

-- A pen without a text that was put the outputs has their text.
pub text_in_memory : (old new : Option (List ℕ)) (outputs : List ValueOutput) (text : List ℕ) → old ≡ Some [] → new ≡ Some text →
    MemoryPuts old (flat_map output_text outputs) new → flat_map output_text outputs ≡ text
text_in_memory (Some old) (Some new) outputs text begins ends put =
    let first : old ≡ [] = cc in
    let last : new ≡ text = cc in
    sym (sym last ∙ put ∙ ap (λ begin. begin ++ flat_map output_text outputs) first)
text_in_memory None new outputs text begins ends put = absurd cc
text_in_memory (Some old) None outputs text begins ends put = absurd cc

-- The first reason is that of the file.
pub get_error_of_file : (form : ValueForm) (names : List ValueNameModel) (limits : Limits) (file : List ℕ) (image : BootImage)
    (given : GetError) → IsReadBootImage limits file image →
    IsFirstReason (value_results form (meaning_of image) names) given ⊎ (given ≡ error.Failed OutOfMemory) →
    IsGetError form names limits file given
get_error_of_file form names limits file image (error.Failed failed) read (inl is) = absurd is.is_reason
get_error_of_file form names limits file image given read (inr is) =
    subst (IsGetError form names limits file) (sym is)
    (needs_memory limits file (meaning_of image) (opened_means limits file image read).means)
get_error_of_file form names limits file image error.WrongKind read (inl is) =
    record { meaning = meaning_of image; means = opened_means limits file image read; is_first = is }
get_error_of_file form names limits file image (error.NoProperty at) read (inl is) =
    record { meaning = meaning_of image; means = opened_means limits file image read; is_first = is }
get_error_of_file form names limits file image (error.NoText at) read (inl is) =
    record { meaning = meaning_of image; means = opened_means limits file image read; is_first = is }
get_error_of_file form names limits file image (error.NoNumber at) read (inl is) =
    record { meaning = meaning_of image; means = opened_means limits file image read; is_first = is }

-- Names up to one of them, it, and the others.
around : (names : List ValueName) (index : ℕ) (name : ValueName) → index < length names → name ≡ get_or names index name →
    names ≡ take index names ++ name ∷ drop (suc index) names
around names index name within is =
    sym (take-append-drop index names)
    ∙ ap (λ rest. take index names ++ rest) (drop-cons names index name within ∙ ap (λ one. one ∷ drop (suc index) names) (sym is))

-- The error of a name is the first if there are outputs for all names before it.
pub is_first_reason : (form : ValueForm) (meaning : Meaning) (names : List ValueName) (outputs : List ValueOutput) (index : ℕ)
    (name : ValueName) (given : GetError) → index < length names → name ≡ get_or names index name →
    value_results form meaning (value_name_models (take index names)) ≡ map result_of_output outputs →
    IsValueReason index (value_result form meaning (value_name_model name)) given →
    IsFirstReason (value_results form meaning (value_name_models names)) given
is_first_reason form meaning names outputs index name given within is before reason =
    let results : List ValueName → List ValueResult = λ some. value_results form meaning (value_name_models some) in
    let all : results names ≡ results (take index names) ++ results (name ∷ drop (suc index) names) =
    ap results (around names index name within is)
    ∙ ap (map (value_result form meaning)) (map-append value_name_model (take index names) (name ∷ drop (suc index) names))
    ∙ map-append (value_result form meaning) (value_name_models (take index names)) (value_name_models (name ∷ drop (suc index) names)) in
    let count : length (output_texts outputs) ≡ index =
    length-map outputs output_text ∙ sym (length-map outputs result_of_output) ∙ ap length (sym before)
    ∙ length-map (value_name_models (take index names)) (value_result form meaning)
    ∙ length-map (take index names) value_name_model
    ∙ length-take-le index names (omega (arith, within)) in
    record {
      pieces = output_texts outputs;
      reason = value_result form meaning (value_name_model name);
      later = results (drop (suc index) names);
      are_results = all ∙ ap (λ first. first ++ results (name ∷ drop (suc index) names)) (before ∙ outputs_are_bytes outputs);
      is_reason = subst (λ at. IsValueReason at (value_result form meaning (value_name_model name)) given) (sym count) reason;
    }
