use Rattle.std.proofs.Common.{◌∙◌, ap, refl, lit<}
use Rattle.bi_commands.proofs.PromiseFacts.{kept_of_updates_is_known}
use Rattle.bi_fit.specs.declared.form.Form.TheVariants.{Embedded, External}
use Rattle.bi_fit.specs.KnownFiles.{three_embedded, three_external}
use Rattle.bi_legacy.specs.Laws.{OneLegacyMeaning}
use Rattle.bi_norm.specs.KnownNormalForms.{signed_file}
use Rattle.bi_c.specs.Arguments.{HasChanges}
use Rattle.bi_c.specs.KnownNotes.{NoteNumbersAreKnown}
use Rattle.bi_c.specs.NoteNumbers.{note_numbers}
use Rattle.bi_c.proofs.AnswerFacts.{widest_is_in_range}

-- The numbers in the notes on normal forms of small files are known.

abbrev without_changes : HasChanges 0x7fffffff 64 0 0
without_changes =
    record { has_form = record { limits = widest_is_in_range; form = Embedded; is_form = refl }; are_changes = lit< tt }

module _ (one_legacy : OneLegacyMeaning) where
  pub note_numbers_are_known : NoteNumbersAreKnown
  note_numbers_are_known =
      let known = kept_of_updates_is_known one_legacy in
      record {
        alignment = refl;
        nothing = refl;
        external = record {
          arguments = record {
            has_form = record { limits = widest_is_in_range; form = External; is_form = refl };
            are_changes = lit< tt;
          };
          text = three_external;
          kept = _;
          is_kept = known.external;
          are_numbers = refl;
        };
        embedded = record {
          arguments = without_changes;
          text = three_embedded;
          kept = _;
          is_kept = known.embedded;
          are_numbers = refl;
        };
        signed = record { arguments = without_changes; text = signed_file; kept = _; is_kept = known.signed; are_numbers = refl };
        only_of_legacy = λ form notes are. are.are_numbers
            ∙ ap note_numbers (known.only_of_legacy are.arguments.has_form.form are.kept are.text are.is_kept).0;
      }
