use Rattle.std.proofs.Common.{◌≡◌, ◌≤◌, ◌∙◌, ℕ, Bool, false, List, [], ◌∷◌, ap, arith, codes, inl, inr, length, refl, subst, subst₂, sym}
use Rattle.bi_base.specs.declared.fault.Error.TheVariants.{OutOfMemory}
use Rattle.bi_base.specs.Limits.{widest}
use Rattle.bi_blob.specs.KnownTexts.{smallest_text}
use Rattle.bi_commands.proofs.ExtractFacts.{extracts_are_known}
use Rattle.bi_common.specs.declared.format.Format.TheVariants.{Lines}
use Rattle.bi_common.specs.KnownWords.{lines}
use Rattle.bi_common.specs.Lines.{text_of_lines}
use Rattle.bi_describe.specs.DeepDescribing.{IsDeepDescription}
use Rattle.bi_describe.specs.DeepLaws.{IsPlainlyDescribed, NothingInsideIsDescription, with_nothing_inside}
use Rattle.bi_describe.specs.Describing.{IsDescription, description_text}
use Rattle.bi_describe.proofs.DescribedFileFacts.{described_files_are_known, only_smallest, small, tree_of_smallest_text}
use Rattle.bi_fit.specs.KnownJudgements.{short_crc}
use Rattle.bi_legacy.specs.KnownImages.{kernel_file}
use Rattle.bi_legacy.specs.Laws.{OneLegacyMeaning}
use Rattle.bi_norm.specs.Meaning.{OfFit}
use Rattle.bi_norm.proofs.NormalFormFacts.{kept_of_normal_forms_is_known}
use Rattle.bi_report.specs.KnownOutputs.{bad_lines, file_with_hash}
use Rattle.bi_report.specs.KnownScans.{ScansAreKnown}
use Rattle.bi_report.proofs.OutputFacts.{check_outputs_are_known, json_listings_are_known, verify_outputs_are_known}
use Rattle.bi_show.specs.KnownObjects.{ObjectsAreKnown}
use Rattle.bi_show.specs.KnownPages.{PagesAreKnown}
use Rattle.bi_values.specs.Getting.{IsGetError, IsTextOfValues}
use Rattle.bi_values.specs.KnownValues.{IsOnlyGetText}
use Rattle.bi_values.specs.ValueNames.{ValueNameModel, value_name_models}
use Rattle.bi_values.specs.declared.get_error.GetError.{GetError}
use Rattle.bi_values.specs.declared.get_error.GetError.TheVariants as get
use Rattle.bi_values.specs.declared.value_form.ValueForm.{ValueForm}
use Rattle.bi_values.specs.declared.value_form.ValueForm.TheVariants.{Shown, Number}
use Rattle.bi_values.proofs.ValueFacts.{field_values_are_known, get_errors_are_known}
use Rattle.bootimg.proofs.GetWords.{load_and_name}
use Rattle.bootimg.specs.Failures.{IsFailureOfGetting}
use Rattle.bootimg.specs.KnownTasks.{GetFailuresAreKnown, TaskEndsAreKnown, without_notes}
use Rattle.bootimg.specs.declared.command_line.values.GetPlan.{GetPlan}
use Rattle.bootimg.specs.declared.command_line.values.ValueWords.{ValueWords}
use Rattle.bootimg.specs.declared.failure.Failure.{Failure}
use Rattle.bootimg.specs.declared.failure.Failure.TheVariants.{Call, NoProperty, NoText, NoNumber}
use Rattle.bootimg.specs.Tasks.{EndedWith}

-- How tasks on small files end is known.

ends : (good : Bool) → EndedWith good (without_notes good)
ends good = record {
  is_answer = refl;
  no_signatures = refl;
  says_nothing = record { alignment = refl; positions = refl };
  none_inside = refl;
}

-- ---- describing

abbrev smallest_lines : List ℕ
smallest_lines = lines (codes "kind fit" ∷ codes "boot-cpu 0" ∷ codes "node /" ∷ codes "node /images" ∷ [])

-- The smallest tree has no payloads, so nothing is inside.
deep_smallest : OneLegacyMeaning → NothingInsideIsDescription → IsDeepDescription Lines widest smallest_text smallest_lines
deep_smallest one_legacy nothing_inside =
    let described : IsDescription Lines widest smallest_text smallest_lines = (described_files_are_known one_legacy).text.is_text in
    let plainly : IsPlainlyDescribed (OfFit tree_of_smallest_text) = nothing_inside (OfFit tree_of_smallest_text) in
    let only : described.meaning ≡ OfFit tree_of_smallest_text =
    (only_smallest one_legacy).only described.meaning described.means.means in
    record {
      deep = with_nothing_inside (OfFit tree_of_smallest_text);
      means = record {
        means = only_smallest one_legacy;
        are_inside = record { each = λ place payload is. absurd (omega (arith, is.1)); other = λ place no. refl };
      };
      within = record {
        payloads = (small one_legacy).payloads;
        short = subst (λ (text : List ℕ). length text ≤ widest.file) (ap text_of_lines (sym plainly.lines)) (small one_legacy).short;
      };
      is_text = described.is_text ∙ ap (description_text Lines) only ∙ ap text_of_lines (sym plainly.lines);
    }

-- ---- getting values

-- What is got by a plan with this form and these names, and only that.
got_by : (form : ValueForm) (names : List ValueNameModel) (text : List ℕ) → IsOnlyGetText form names kernel_file text → (plan : GetPlan) →
    plan.form ≡ form → value_name_models plan.names.items ≡ names →
    IsTextOfValues plan.form (value_name_models plan.names.items) widest kernel_file text
got_by form names text known plan form_is names_are =
    subst₂ (λ one some. IsTextOfValues one some widest kernel_file text) (sym form_is) (sym names_are) known.is

only_got : (form : ValueForm) (names : List ValueNameModel) (text : List ℕ) → IsOnlyGetText form names kernel_file text → (plan : GetPlan) →
    plan.form ≡ form → value_name_models plan.names.items ≡ names → (other : List ℕ) →
    IsTextOfValues plan.form (value_name_models plan.names.items) widest kernel_file other → other ≡ text
only_got form names text known plan form_is names_are other is =
    known.only other (subst₂ (λ one some. IsTextOfValues one some widest kernel_file other) form_is names_are is)

-- The failure with the words of the second value.
second_fails : (one other : ValueWords) (failure : Failure) (error : GetError) → error ≡ get.NoNumber 1 →
    IsFailureOfGetting (one ∷ other ∷ []) error failure → failure ≡ NoNumber other
second_fails one other failure error same fails =
    by (subst (λ e. IsFailureOfGetting (one ∷ other ∷ []) e failure) same fails) where
      by : IsFailureOfGetting (one ∷ other ∷ []) (get.NoNumber 1) failure → failure ≡ NoNumber other
      by (value, found, is) = let second : other ≡ value = cc in is ∙ ap (λ words. NoNumber words) (sym second)

memory_fails : (words : List ValueWords) (failure : Failure) (error : GetError) → error ≡ get.Failed OutOfMemory →
    IsFailureOfGetting words error failure → failure ≡ Call OutOfMemory
memory_fails words failure error same fails = subst (λ e. IsFailureOfGetting words e failure) same fails

pub get_failures_are_known : OneLegacyMeaning → GetFailuresAreKnown
get_failures_are_known one_legacy = record {
  failed = λ failure is. is;
  wrong_kind = λ failure is. is;
  no_property = λ one other failure is. let second : other ≡ is.0 = let found = is.1 in cc in is.2 ∙ ap (λ words. NoProperty words)
      (sym second);
  no_text = λ one other failure is. let first : one ≡ is.0 = let found = is.1 in cc in is.2 ∙ ap (λ words. NoText words) (sym first);
  no_words = λ failure is. let found = is.1 in absurd cc;
  no_number = λ plan one other failure form_is names_are words_are is.
      let known = (get_errors_are_known one_legacy).name in
      let has : IsGetError Number load_and_name widest kernel_file is.error =
      subst₂ (λ form names. IsGetError form names widest kernel_file is.error) form_is names_are is.has_error in
      let fails : IsFailureOfGetting (one ∷ other ∷ []) is.error failure =
      subst (λ words. IsFailureOfGetting words is.error failure) words_are is.is in
      elim (known.only is.error has) [
        | inl same ↦ inl (second_fails one other failure is.error same fails)
        | inr memory ↦ inr (memory_fails (one ∷ other ∷ []) failure is.error memory fails)
      ];
}

pub task_ends_are_known : OneLegacyMeaning → ScansAreKnown → PagesAreKnown → ObjectsAreKnown → NothingInsideIsDescription → TaskEndsAreKnown
task_ends_are_known one_legacy scans pages objects nothing_inside =
    let verified = verify_outputs_are_known one_legacy in
    let checked = check_outputs_are_known one_legacy in
    let got = field_values_are_known one_legacy in
    let extracted = (extracts_are_known one_legacy).second_part in
    record {
      normalise = ((kept_of_normal_forms_is_known one_legacy).external, refl, refl);
      layout = (pages.kernel, ends _);
      no_layout = (pages.no_layout, ends _);
      page_in_json = (objects.kernel, ends _);
      list = ((json_listings_are_known one_legacy).legacy, ends _);
      describe = ((described_files_are_known one_legacy).text.is_text, ends _);
      deep = (deep_smallest one_legacy nothing_inside, ends _);
      with_inside = λ format input output is. (is, ends _);
      verify = (_, verified.good, ends _);
      bad_hash = (_, verified.bad, ends _);
      bad_answer = λ done output is.
          is.2.is_answer
          ∙ verified.one Lines Lines widest widest is.0 false (file_with_hash short_crc) output bad_lines is.1 verified.bad;
      check = (_, checked.nothing_json, ends _);
      concern = (_, checked.unhashed, ends _);
      allowed = (_, checked.allowed, ends _);
      scan = (_, scans.two.is_output, ends _);
      scan_in_json = (_, scans.two_in_json.is_output, ends _);
      nothing_found = (_, scans.none.is_output, ends _);
      get = λ plan form_is names_are. record {
        done = λ done other is. only_got Shown load_and_name _ got.two plan form_is names_are other is.0;
        text = λ other is. only_got Shown load_and_name _ got.two plan form_is names_are other is;
      };
      got = λ plan form_is names_are. (got_by Shown load_and_name _ got.two plan form_is names_are, ends _);
      extract = record { done = λ done other is. extracted.only other is.0; text = λ other is. extracted.only other is };
      extracted = (extracted.is, ends _);
    }
