use Rattle.std.proofs.Common.{codes, ◌≡◌, ◌∙◌, ◌++◌, ℕ, List, [], ◌∷◌, Option, ap, lit<, lit≤, refl, sym, subst, arith}
use Rattle.std.specs.List.{AllZip, join_with_byte}
use Rattle.bi_common.specs.Shown.{path, shown_text}
use Rattle.bi_describe.proofs.DescribedFileFacts.{only_smallest, tree_of_smallest_text}
use Rattle.bi_edit.specs.declared.edit.Edit.{Edit}
use Rattle.bi_edit.specs.declared.edit.Edit.TheVariants.{RemoveNode, RemoveProperty, SetProperty, SetField, SetPayload, SetTime, SetDigests}
use Rattle.bi_edit.specs.declared.edit.FieldValue.TheVariants as field
use Rattle.bi_edit.specs.declared.edit_error.EditError.TheVariants as error
use Rattle.bi_edit.specs.declared.edit_notes.EditNotes.{EditNotes}
use Rattle.bi_edit.specs.declared.form_choice.FormChoice.TheVariants as choice
use Rattle.bi_edit.specs.Cuts.{from_byte}
use Rattle.bi_edit.specs.EditNotes.{AreEditNotes, AreNoNotes}
use Rattle.bi_edit.specs.Edits.{meaning_after}
use Rattle.bi_fit.specs.declared.form.Form.{Form}
use Rattle.bi_fit.specs.declared.form.Form.TheVariants.{Embedded}
use Rattle.bi_legacy.specs.KnownImages.{multi_file, multi_image}
use Rattle.bi_legacy.specs.Laws.{OneLegacyMeaning}
use Rattle.bi_legacy.specs.Text.{legacy_text}
use Rattle.bi_norm.specs.Meaning.{Meaning, OfFit, OfLegacy, normal_text}
use Rattle.bi_norm.proofs.ComparisonFacts.{multi_means}
use Rattle.bi_c.specs.EditCalls.{IsEditOf, IsEditedFile, IsSetting, OfFile, OfWord, edit_note_numbers}
use Rattle.bi_c.specs.KnownEditCalls.{word_element, EditArgumentsAreKnown, EditCallsAreKnown, EditElementsAreKnown, no_numbers}
use Rattle.bi_c.specs.KnownEditCalls.{number_element}
use Rattle.bi_c.proofs.AnswerFacts.{widest_is_in_range}
use Rattle.bi_c.specs.declared.argument.Argument.TheVariants.{Edits}
use Rattle.bi_c.specs.declared.argument.Argument.TheVariants as argument
use Rattle.bi_c.specs.Checks.{IsFirstWrong, IsWrong, LimitsCheck, NextCheck}
use Rattle.bi_c.specs.EditCalls.{EditsCheck, HasChoice, IsEditElement}
use Rattle.bi_c.specs.declared.edits.EditElement.{EditElement}
use Rattle.bi_c.proofs.CheckFacts.{element_is_wrong}
use Rattle.bi_c.proofs.EditElements.{no_setting_edit, removal_edit}

-- What elements of edits are for, and what the calls that edit small files return, is known.

pub edit_elements_are_known : EditElementsAreKnown
edit_elements_are_known = record {
  removal = λ edit is. removal_edit _ _ edit refl is;
  setting = λ place value is. record { is_kind = refl; has_values = is };
  payload = λ image payload is same. record { is_kind = refl; has_values = (is, same) };
  time = record { is_kind = refl; has_values = refl };
  digests = record { is_kind = refl; has_values = tt };
  name = λ name same. record { is_kind = refl; has_values = same };
  load = record { is_kind = refl; has_values = refl };
  entry = record { is_kind = refl; has_values = refl };
  os = record { is_kind = refl; has_values = refl };
  arch = record { is_kind = refl; has_values = refl };
  compression = record { is_kind = refl; has_values = refl };
  no_time_field = λ is. is.has_values;
}

-- ---- arguments

-- No text of a property and a value is empty.
no_empty_text : (names : List (List ℕ)) (name : List ℕ) (after : Option (List ℕ)) →
    ¬ (join_with_byte 32 (path names ∷ shown_text name ∷ []) ++ from_byte 32 after ≡ [])
no_empty_text [] name after same = absurd cc
no_empty_text (first ∷ later) name after same = absurd cc

no_empty_setting : (edit : Edit) → ¬ (IsSetting [] edit)
no_empty_setting (SetProperty place value) is = no_empty_text place.path place.name is.after is.is
no_empty_setting (RemoveNode path) is = is
no_empty_setting (RemoveProperty place) is = is
no_empty_setting (SetField value) is = is
no_empty_setting (SetPayload image payload) is = is
no_empty_setting (SetTime time) is = is
no_empty_setting SetDigests is = is

-- The element with an index is wrong.
wrong_edit : (input : List ℕ) (elements : List EditElement) (index : ℕ) → IsFirstWrong (IsEditElement input) elements index →
    IsWrong (EditsCheck 0x7fffffff 64 0 input elements) Edits index
wrong_edit input elements index =
    element_is_wrong (NextCheck (LimitsCheck 0x7fffffff 64) argument.Form (HasChoice 0x7fffffff 64 0)) Edits (IsEditElement input) elements
    index
    (record { limits = widest_is_in_range; choice = choice.Given Embedded; is_choice = refl })

pub edit_arguments_are_known : EditArgumentsAreKnown
edit_arguments_are_known = record {
  keep = refl;
  external = refl;
  elements = record {
    limits = widest_is_in_range;
    choice = choice.Keep;
    is_choice = refl;
    are_elements = (
      record { is_kind = lit< tt; word = lit≤ tt; payload = lit≤ tt; code = λ more. lit< tt },
      (
        record { is_kind = lit< tt; word = lit≤ tt; payload = lit≤ tt; code = λ more. omega (arith, more) },
        (record { is_kind = lit< tt; word = lit≤ tt; payload = lit≤ tt; code = λ more. omega (arith, more) }, tt),
      ),
    );
  };
  other_kind = λ file. wrong_edit [] _ 1 (record {
    element = number_element 11 0;
    is_there = refl;
    before = (record { is_kind = lit< tt; word = lit≤ tt; payload = lit≤ tt; code = λ more. lit< tt }, tt);
    is_wrong = λ is. omega (arith, is.is_kind);
  });
  large_code = λ file. wrong_edit [] _ 0 (record {
    element = number_element 8 256;
    is_there = refl;
    before = tt;
    is_wrong = λ is. omega (arith, is.code (lit≤ tt));
  });
  outside = λ file. wrong_edit (codes "x") _ 0 (record {
    element = word_element 3 1 1;
    is_there = refl;
    before = tt;
    is_wrong = λ is. omega (arith, is.word);
  });
  bad_word = λ file. OfWord (record {
    limits = widest_is_in_range;
    choice = choice.Given Embedded;
    is_choice = refl;
    are_elements = (
      record { is_kind = lit< tt; word = lit≤ tt; payload = lit≤ tt; code = λ more. omega (arith, more) },
      (
        record { is_kind = lit< tt; word = lit≤ tt; payload = lit≤ tt; code = λ more. omega (arith, more) },
        (record { is_kind = lit< tt; word = lit≤ tt; payload = lit≤ tt; code = λ more. omega (arith, more) }, tt),
      ),
    );
  }) refl (record {
    element = number_element 1 0;
    there = refl;
    before = SetTime 5 ∷ [];
    are_before = (record { is_kind = refl; has_values = refl }, tt);
    is_bad = no_setting_edit [] (number_element 1 0) refl no_empty_setting;
  });
}

-- ---- calls

-- The edit of an element for a time.
is_time : (edit : Edit) → IsEditOf [] (number_element 3 5) edit → edit ≡ SetTime 5
is_time (SetTime time) is = ap SetTime is.has_values
is_time (SetField (field.Time time)) is = absurd is.has_values
is_time (SetField (field.Name name)) is = absurd (omega (arith, is.is_kind))
is_time (SetField (field.Load load)) is = absurd (omega (arith, is.is_kind))
is_time (SetField (field.Entry entry)) is = absurd (omega (arith, is.is_kind))
is_time (SetField (field.Os code)) is = absurd (omega (arith, is.is_kind))
is_time (SetField (field.Arch code)) is = absurd (omega (arith, is.is_kind))
is_time (SetField (field.Compression code)) is = absurd (omega (arith, is.is_kind))
is_time (RemoveNode path) is = absurd (omega (arith, is.is_kind))
is_time (RemoveProperty place) is = absurd (omega (arith, is.is_kind))
is_time (SetProperty place value) is = absurd (omega (arith, is.is_kind))
is_time (SetPayload image payload) is = absurd (omega (arith, is.is_kind))
is_time SetDigests is = absurd (omega (arith, is.is_kind))

are_time : (edits : List Edit) → AllZip (IsEditOf []) (number_element 3 5 ∷ []) edits → edits ≡ SetTime 5 ∷ []
are_time [] are = absurd are
are_time (edit ∷ []) are = ap (λ one. one ∷ []) (is_time edit are.0)
are_time (edit ∷ other ∷ later) are = absurd are.1

-- What is known of the meaning is known of the text and of the notes.
text_of_legacy : (form : Form) (meaning : Meaning) → meaning ≡ OfLegacy multi_image →
    normal_text form (meaning_after (SetTime 5 ∷ []) meaning) ≡ legacy_text (record multi_image { time = 5 })
text_of_legacy form meaning same = ap (λ meaning. normal_text form (meaning_after (SetTime 5 ∷ []) meaning)) same

no_notes_of_legacy : (notes : EditNotes) → AreNoNotes notes → edit_note_numbers notes ≡ no_numbers
no_notes_of_legacy notes are = rw (are.signatures, are.kept.alignment, are.kept.positions, are.inside) refl

module _ (form : ℕ) (text : List ℕ) (notes : EditNotes)
    (is : IsEditedFile 0x7fffffff 64 form [] (number_element 3 5 ∷ []) multi_file text notes) where
  same_edits : is.edits ≡ SetTime 5 ∷ []
  same_edits = are_time is.edits is.are_edits

  same_meaning : is.is.is.meaning ≡ OfLegacy multi_image
  same_meaning = sym (is.is.is.means.only (OfLegacy multi_image) multi_means)

  made_text : text ≡ legacy_text (record multi_image { time = 5 })
  made_text = is.is.is.is_text ∙ ap (λ edits. normal_text is.is.is.form (meaning_after edits is.is.is.meaning)) same_edits
      ∙ text_of_legacy is.is.is.form is.is.is.meaning same_meaning

  made_notes : AreNoNotes notes
  made_notes = subst (λ meaning. AreEditNotes is.arguments.choice multi_file meaning (meaning_after is.edits meaning) notes) same_meaning
      is.is.are_notes

pub edit_calls_are_known : OneLegacyMeaning → EditCallsAreKnown
edit_calls_are_known one_legacy = record {
  time = λ text value is. (
    made_text 2 text is.notes is.is,
    is.is_number ∙ (made_notes 2 text is.notes is.is).signatures,
  );
  numbers = λ form numbers are. are.are_numbers ∙ no_notes_of_legacy are.notes (made_notes form are.text are.notes are.is);
  notes = refl;
  no_notes = refl;
  field_of_tree = OfFile (record {
    arguments = record {
      limits = widest_is_in_range;
      choice = choice.Given Embedded;
      is_choice = refl;
      are_elements = (
        record { is_kind = lit< tt; word = lit≤ tt; payload = lit≤ tt; code = λ more. omega (arith, more) },
        tt,
      );
    };
    edits = SetField (field.Load 7) ∷ [];
    are_edits = (record { is_kind = refl; has_values = refl }, tt);
    cause = error.WrongKind;
    is_failure = refl;
    has_error = record {
      meaning = OfFit tree_of_smallest_text;
      means = only_smallest one_legacy;
      form = Embedded;
      is_form = refl;
      has_error = record { edit = SetField (field.Load 7); there = (0, omega arith, refl); is_other = λ is. is };
    };
  });
  nothing_found = refl;
}
