use Rattle.std.proofs.Common.{◌≡◌, ℕ, List, map, None, refl, ap, subst, lit<}
use Rattle.bi_base.specs.Cells.{cell}
use Rattle.bi_base.specs.Limits.{Limits, widest}
use Rattle.bi_fit.specs.declared.form.Form.{Form}
use Rattle.bi_fit.specs.declared.kept.Kept.{Kept}
use Rattle.bi_fit.specs.KnownKept.{kept}
use Rattle.bi_fit.proofs.UpdateChanges.{each_update_has_its_changes}
use Rattle.bi_fit.proofs.UpdatedVerdicts.{updated_judgement}
use Rattle.bi_legacy.specs.KnownImages.{multi_file, multi_image}
use Rattle.bi_legacy.specs.Laws.{OneLegacyMeaning}
use Rattle.bi_legacy.specs.Text.{legacy_text}
use Rattle.bi_legacy.proofs.UpdatedImages.{updated_has_new_time}
use Rattle.bi_norm.specs.Meaning.{Meaning, Means, OfLegacy, OfFit, meaning_signature_count, normal_text}
use Rattle.bi_norm.specs.NormalForm.{IsKeptOfImage, IsNormaliseKept}
use Rattle.bi_norm.proofs.ComparisonFacts.{multi_means}
use Rattle.bi_norm.proofs.ConvertFacts.{converted_files_are_known, convert_errors_are_known}
use Rattle.bi_norm.proofs.NormalFormFacts.{kept_of_normal_forms_is_known}
use Rattle.bi_report.proofs.LegacyConcernFacts.{is_read, known_model}
use Rattle.bi_commands.specs.KnownPromises.{ConvertPromiseIsKnown, FilesOfPayloadsAreKnown, KeptOfUpdatesIsKnown}
use Rattle.bi_commands.specs.KnownUpdates.{no_changes, only_time}
use Rattle.bi_commands.specs.Payloads.{payload_file}
use Rattle.bi_commands.specs.UpdatedFiles.{IsUpdateKept, updated_meaning}
use Rattle.bi_commands.proofs.ExtractFacts.{same_meaning, updated_texts_are_known}
use Rattle.bi_commands.proofs.UpdatedFiles.{legacy_is_updated}

-- What `convert` promises of small files, what updates of them do not keep, and which files payloads have, is known.

pub convert_promise_is_known : OneLegacyMeaning → ConvertPromiseIsKnown
convert_promise_is_known one_legacy =
    let files = converted_files_are_known one_legacy in
    let errors = convert_errors_are_known one_legacy in
    record {
      is_output = files.two;
      is_text = files.two;
      no_parts = errors.no_parts;
      within = errors.within;
      is_same = λ limits error. refl;
    }

-- ---- update

-- An update without changes keeps what the normal form keeps.
kept_without_changes : (limits : Limits) (form : Form) (said : Kept) (file text : List ℕ) →
    IsNormaliseKept limits form said file text → IsUpdateKept no_changes limits form said file text
kept_without_changes limits form said file text is =
    let normal = is.output.normal in
    by normal.meaning normal.means normal.only normal.is_text normal.is_own is.output.signatures is.is_kept
  where
    by : (meaning : Meaning) → Means limits file meaning → ((other : Meaning) → Means limits file other → other ≡ meaning) →
        text ≡ normal_text form meaning → Means limits text meaning → said.signatures ≡ meaning_signature_count meaning →
        IsKeptOfImage form file meaning meaning said → IsUpdateKept no_changes limits form said file text
    by (OfLegacy image) means only is_text text_means count says = record {
      output = record {
        is = record {
          meaning = OfLegacy image;
          means = record { means = means; only = only };
          within = λ over. over.is_over;
          is_text = is_text;
          text_means = text_means;
          changed = updated_has_new_time image image.time;
          judgement = tt;
        };
        signatures = count;
      };
      is_kept = says;
    }
    by (OfFit tree) means only is_text text_means count says = record {
      output = record {
        is = record {
          meaning = OfFit tree;
          means = record { means = means; only = only };
          within = λ over. let bad = over.hashes in absurd cc;
          is_text = is_text;
          text_means = text_means;
          changed = each_update_has_its_changes no_changes tree;
          judgement = updated_judgement no_changes tree;
        };
        signatures = count;
      };
      is_kept = says;
    }

module _ (one_legacy : OneLegacyMeaning) where
  legacy_kept : (form : Form) →
      IsUpdateKept (only_time 5) widest form (kept None 0) multi_file (legacy_text (record multi_image { time = 5 }))
  unfolding cell legacy_is_updated
  legacy_kept form = record {
    output = record {
      is = legacy_is_updated (only_time 5) widest form multi_file (known_model one_legacy multi_file multi_image multi_means 0 refl)
          (is_read one_legacy multi_file multi_image multi_means 0 refl) 5 refl (lit< tt);
      signatures = refl;
    };
    is_kept = record { alignment = refl; positions = refl };
  }

  only_of_legacy : (form : Form) (other : Kept) (text : List ℕ) → IsUpdateKept (only_time 5) widest form other multi_file text →
      (other ≡ kept None 0) × (text ≡ legacy_text (record multi_image { time = 5 }))
  only_of_legacy form other text is =
      let known = updated_texts_are_known one_legacy in
      let same = same_meaning one_legacy multi_file (OfLegacy multi_image) multi_means is.output.is.meaning is.output.is.means.means in
      let says = subst (λ meaning. IsKeptOfImage form multi_file meaning (updated_meaning (only_time 5) meaning) other) same is.is_kept in (
        λ i. record {
          signatures = known.count form other.signatures text is.output i;
          lost_alignment = says.alignment i;
          lost_positions = says.positions i;
        },
        known.text form text is.output.is,
      )

  pub kept_of_updates_is_known : KeptOfUpdatesIsKnown
  kept_of_updates_is_known =
      let normal = kept_of_normal_forms_is_known one_legacy in
      record {
        legacy = legacy_kept;
        only_of_legacy = only_of_legacy;
        unchanged = λ form. kept_without_changes _ _ _ _ _ (normal.legacy form);
        embedded = kept_without_changes _ _ _ _ _ normal.embedded;
        external = kept_without_changes _ _ _ _ _ normal.external;
        signed = kept_without_changes _ _ _ _ _ normal.signed;
        is_same = λ form limits error. refl;
      }

-- ---- payloads

pub files_of_payloads_are_known : FilesOfPayloadsAreKnown
files_of_payloads_are_known = record {
  one = λ payload named has i. record { name = named i; bytes = has i };
  none = λ payloads are. ap (map payload_file) are;
  two = λ first second payloads are. ap (map payload_file) are;
}
