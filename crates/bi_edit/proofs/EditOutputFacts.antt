use Rattle.std.proofs.Common.{◌≡◌, ◌⊎◌, ℕ, zero, suc, List, [], ◌∷◌, length, codes, Some, None, slice_get, refl, sym, ap, subst, ◌∙◌}
use Rattle.std.proofs.Common.{inl, inr, lit<, lit≤, arith}
use Rattle.std.specs.Prelude.{Contains}
use Rattle.std.proofs.lemmas.Bool.{eqb-false}
use Rattle.bi_base.specs.Cells.{cell, u32_at}
use Rattle.bi_base.specs.declared.fault.Error.TheVariants.{Refused, OutOfMemory, ReadFailed, WriteFailed}
use Rattle.bi_base.specs.Limits.{widest}
use Rattle.bi_base.proofs.ByteLists.{bytes_by_test}
use Rattle.bi_blob.specs.KnownTexts.{smallest_text}
use Rattle.bi_fit.specs.declared.form.Form.{Form}
use Rattle.bi_fit.specs.declared.form.Form.TheVariants.{Embedded}
use Rattle.bi_fit.specs.ImageTree.{ImageTree}
use Rattle.bi_fit.specs.KnownFiles.{bare_file, plain_tree}
use Rattle.bi_fit.proofs.FileFacts.{bare_means, smallest_is_fit, smallest_means}
use Rattle.bi_legacy.specs.File.{header, LegacyMeans}
use Rattle.bi_legacy.specs.KnownImages.{kernel_file, kernel_image}
use Rattle.bi_legacy.specs.Meaning.{LegacyImage}
use Rattle.bi_legacy.specs.Text.{IsLegacyImage, legacy_text}
use Rattle.bi_legacy.proofs.TextMeans.{legacy_text_means}
use Rattle.bi_norm.specs.Comparing.{MeansOnly}
use Rattle.bi_norm.specs.KnownComparisons.{file_without_magic, no_magic}
use Rattle.bi_norm.specs.Laws.{OneFileMeaning}
use Rattle.bi_norm.specs.Meaning.{Meaning, OfFit, OfLegacy, normal_text}
use Rattle.bi_norm.specs.Reading.{ForLegacyImage, ForTree}
use Rattle.bi_norm.proofs.ComparisonFacts.{kernel_means, no_magic_is_error}
use Rattle.bi_norm.proofs.KindLaws.{one_file_fault}
use Rattle.bi_edit.specs.declared.edit.Edit.{Edit}
use Rattle.bi_edit.specs.declared.edit.Edit.TheVariants.{RemoveNode, SetDigests, SetTime}
use Rattle.bi_edit.specs.declared.edit_error.EditError.{EditError}
use Rattle.bi_edit.specs.declared.edit_error.EditError.TheVariants as error
use Rattle.bi_edit.specs.declared.form_choice.FormChoice.{FormChoice}
use Rattle.bi_edit.specs.declared.form_choice.FormChoice.TheVariants as choice
use Rattle.bi_edit.specs.EditedFiles.{HasEditError, IsEdited, IsEditFileError}
use Rattle.bi_edit.specs.EditRefusals.{AreOfKind, OfDepth, OfPayloads, OfText}
use Rattle.bi_edit.specs.Edits.{IsFirstRefusedIn, meaning_after}
use Rattle.bi_edit.specs.FormChoices.{IsChosenForm}
use Rattle.bi_edit.specs.KnownEditNotes.{notes_about}
use Rattle.bi_edit.specs.KnownEditOutputs.{EditFileErrorsAreKnown, EditedTextsAreKnown, IsOnlyEdited}
use Rattle.bi_edit.specs.Places.{image_path}

-- Editing small files gives known texts or fails with known errors, and nothing else.

-- ---- a legacy image

abbrev new_kernel : LegacyImage
new_kernel = record kernel_image { time = 9 }

new_kernel_is_image : IsLegacyImage new_kernel
unfolding cell
new_kernel_is_image = record {
  ranges = record {
    time = lit< tt;
    load = lit< tt;
    entry = lit< tt;
    os = lit< tt;
    arch = lit< tt;
    image_type = lit< tt;
    compression = lit< tt;
  };
  name = record { short = lit≤ tt; no_zero = (eqb-false _ _ refl, tt) };
  name_bytes = bytes_by_test _ refl;
  parts = refl;
  parts_bytes = (bytes_by_test _ refl, tt);
  size = lit< tt;
}

new_kernel_length : length (legacy_text new_kernel) ≡ 73
unfolding legacy_text header cell
new_kernel_length = refl

new_kernel_means : LegacyMeans widest (legacy_text new_kernel) new_kernel
new_kernel_means =
    record { is_file = legacy_text_means new_kernel new_kernel_is_image; short = omega (arith, new_kernel_length) }

-- The form of a choice for a legacy image.
abbrev legacy_form : FormChoice → Form
legacy_form (choice.Given form) = form
legacy_form choice.Keep = Embedded

is_legacy_form : (chosen : FormChoice) (file : List ℕ) (image : LegacyImage) →
    IsChosenForm chosen file (OfLegacy image) (legacy_form chosen)
is_legacy_form (choice.Given form) file image = refl
is_legacy_form choice.Keep file image = refl

abbrev new_time : List Edit
new_time = SetTime 9 ∷ []

no_digests : Contains new_time SetDigests → ⊥
no_digests (zero, less, same) = absurd cc
no_digests (suc k, less, same) = absurd (omega (arith, less))

-- ---- a flattened image tree

abbrev bare_tree : ImageTree
bare_tree = plain_tree (codes "a" ∷ []) (None ∷ [])

abbrev removal : List Edit
removal = RemoveNode (image_path (codes "a")) ∷ []

no_digests_there : Contains removal SetDigests → ⊥
no_digests_there (zero, less, same) = absurd cc
no_digests_there (suc k, less, same) = absurd (omega (arith, less))

abbrev other_removal : List Edit
other_removal = SetTime 5 ∷ RemoveNode (image_path (codes "c")) ∷ []

other_edit : ¬ (Some (SetTime 5) ≡ Some (RemoveNode (image_path (codes "c"))))
other_edit same = absurd cc

only_second : (index : ℕ) → slice_get other_removal index ≡ Some (RemoveNode (image_path (codes "c"))) → index ≡ 1
only_second zero is = absurd (other_edit is)
only_second (suc zero) is = refl
only_second (suc (suc index)) is = absurd cc

-- ---- texts

module _ (one_meaning : OneFileMeaning) where
  only_kernel : MeansOnly widest kernel_file (OfLegacy kernel_image)
  only_kernel = record {
    means = kernel_means;
    only = λ other is. one_meaning widest widest kernel_file other (OfLegacy kernel_image) is kernel_means;
  }

  only_bare : MeansOnly widest bare_file (OfFit bare_tree)
  only_bare = record {
    means = bare_means;
    only = λ other is. one_meaning widest widest bare_file other (OfFit bare_tree) is bare_means;
  }

  unfoldable kernel_edited : (chosen : FormChoice) → IsEdited new_time chosen widest kernel_file (legacy_text new_kernel)
  kernel_edited chosen = record {
    meaning = OfLegacy kernel_image;
    means = only_kernel;
    can = record { of_kind = (tt, tt); shallow = ((λ deep. deep), tt); all_find = ((λ lacks. lacks), tt) };
    within = λ needs. no_digests needs.has_digests;
    form = legacy_form chosen;
    is_form = is_legacy_form chosen kernel_file kernel_image;
    is_text = refl;
    text_means = new_kernel_means;
  }

  unfoldable bare_edited : IsEdited removal (choice.Given Embedded) widest bare_file smallest_text
  bare_edited = record {
    meaning = OfFit bare_tree;
    means = only_bare;
    can = record { of_kind = (tt, tt); shallow = ((λ deep. deep), tt); all_find = ((λ nothing. absurd cc), tt) };
    within = λ needs. no_digests_there needs.has_digests;
    form = Embedded;
    is_form = refl;
    is_text = sym smallest_is_fit.embedded;
    text_means = smallest_means;
  }

  kernel_only : (chosen : FormChoice) → IsOnlyEdited new_time chosen kernel_file (legacy_text new_kernel) (notes_about None 0 0)
  unfolding kernel_edited
  kernel_only chosen = record {
    is_output = record {
      is = kernel_edited chosen;
      are_notes = record { signatures = refl; kept = record { alignment = refl; positions = refl }; inside = refl };
    };
    is_text = kernel_edited chosen;
    only = λ other is.
        is.is_text
        ∙ ap (λ meaning. normal_text is.form (meaning_after new_time meaning))
        (one_meaning widest widest kernel_file is.meaning (OfLegacy kernel_image) is.means.means kernel_means);
  }

  bare_only : IsOnlyEdited removal (choice.Given Embedded) bare_file smallest_text (notes_about None 0 0)
  unfolding bare_edited
  bare_only = record {
    is_output = record {
      is = bare_edited;
      are_notes = record {
        is_file = bare_means.is_file;
        signatures = refl;
        payloads = (record { alignment = refl; positions = refl }, refl);
      };
    };
    is_text = bare_edited;
    only = λ other is.
        is.is_text
        ∙ ap (λ form. normal_text form (meaning_after removal is.meaning)) is.is_form
        ∙ ap (λ meaning. normal_text Embedded (meaning_after removal meaning))
        (one_meaning widest widest bare_file is.meaning (OfFit bare_tree) is.means.means bare_means)
        ∙ smallest_is_fit.embedded;
  }

  pub edited_texts_are_known : EditedTextsAreKnown
  edited_texts_are_known = record { legacy = kernel_only; tree = bare_only }

  -- ---- errors

  -- A file without a magic number means nothing.
  no_edit_error : (edits : List Edit) (chosen : FormChoice) (failure : EditError) →
      ¬ (HasEditError edits chosen widest file_without_magic failure)
  no_edit_error edits chosen failure is = no_magic_is_error.1 is.meaning is.means.means

  no_magic_only : (edits : List Edit) (chosen : FormChoice) (failure : EditError) →
      IsEditFileError edits chosen widest file_without_magic failure → failure ≡ error.Failed (Refused no_magic)
  unfolding u32_at
  no_magic_only edits chosen error.WrongKind is = absurd (no_edit_error edits chosen error.WrongKind is)
  no_magic_only edits chosen (error.FindsNothing index) is = absurd (no_edit_error edits chosen (error.FindsNothing index) is)
  no_magic_only edits chosen (error.Failed (Refused fault)) (inl is) =
      ap (λ fault. error.Failed (Refused fault)) (one_file_fault widest file_without_magic fault no_magic is.0 no_magic_is_error.0)
  no_magic_only edits chosen (error.Failed OutOfMemory) (inl is) = elim is [
    | ForLegacyImage image means ↦ absurd (no_magic_is_error.1 (OfLegacy image) means)
    | ForTree other fine ↦ absurd (omega (arith, fine.header.1.1.0))
  ]
  no_magic_only edits chosen (error.Failed ReadFailed) (inl is) = absurd is
  no_magic_only edits chosen (error.Failed WriteFailed) (inl is) = absurd is
  no_magic_only edits chosen (error.Failed failure) (inr is) = absurd (no_edit_error edits chosen (error.Failed failure) is)

  -- A legacy image has no nodes.
  no_nodes : (meaning : Meaning) → meaning ≡ OfLegacy kernel_image → ¬ (AreOfKind meaning removal)
  no_nodes meaning same kind = let here = subst (λ meaning. AreOfKind meaning removal) same kind in here.0

  is_kernel : (chosen : FormChoice) (failure : EditError) (is : HasEditError removal chosen widest kernel_file failure) →
      is.meaning ≡ OfLegacy kernel_image
  is_kernel chosen failure is = one_meaning widest widest kernel_file is.meaning (OfLegacy kernel_image) is.means.means kernel_means

  kernel_errors : (chosen : FormChoice) (failure : EditError) → IsEditFileError removal chosen widest kernel_file failure →
      (failure ≡ error.WrongKind) ⊎ (failure ≡ error.Failed OutOfMemory)
  kernel_errors chosen error.WrongKind is = inl refl
  kernel_errors chosen (error.FindsNothing index) is =
      absurd (no_nodes is.meaning (is_kernel chosen (error.FindsNothing index) is) is.has_error.of_kind)
  kernel_errors chosen (error.Failed (Refused fault)) (inl is) = absurd (is.1 (OfLegacy kernel_image) kernel_means)
  kernel_errors chosen (error.Failed (Refused fault)) (inr is) =
      let others = no_nodes is.meaning (is_kernel chosen (error.Failed (Refused fault)) is) in
      elim is.has_error [
        | OfDepth kind deep same ↦ absurd (others kind)
        | OfPayloads can needs same ↦ absurd (others can.of_kind)
        | OfText can has ↦ absurd (others can.of_kind)
      ]
  kernel_errors chosen (error.Failed OutOfMemory) is = inr refl
  kernel_errors chosen (error.Failed ReadFailed) (inl is) = absurd is
  kernel_errors chosen (error.Failed ReadFailed) (inr is) = absurd is.has_error
  kernel_errors chosen (error.Failed WriteFailed) (inl is) = absurd is
  kernel_errors chosen (error.Failed WriteFailed) (inr is) = absurd is.has_error

  wrong_kind : (chosen : FormChoice) → IsEditFileError removal chosen widest kernel_file error.WrongKind
  wrong_kind chosen = record {
    meaning = OfLegacy kernel_image;
    means = only_kernel;
    form = legacy_form chosen;
    is_form = is_legacy_form chosen kernel_file kernel_image;
    has_error = record { edit = RemoveNode (image_path (codes "a")); there = (0, omega arith, refl); is_other = λ is. is };
  }

  no_memory : (chosen : FormChoice) → IsEditFileError removal chosen widest kernel_file (error.Failed OutOfMemory)
  no_memory chosen = inl (ForLegacyImage kernel_image kernel_means)

  second_finds_nothing : (form : Form) → HasEditError other_removal (choice.Given form) widest bare_file (error.FindsNothing 1)
  second_finds_nothing form = record {
    meaning = OfFit bare_tree;
    means = only_bare;
    form = form;
    is_form = refl;
    has_error = record {
      of_kind = (tt, (tt, tt));
      shallow = ((λ deep. deep), ((λ deep. deep), tt));
      edit = RemoveNode (image_path (codes "c"));
      there = refl;
      is_first = inl (refl, refl);
    };
  }

  no_other_index : (form : Form) (index : ℕ) →
      HasEditError other_removal (choice.Given form) widest bare_file (error.FindsNothing index) → index ≡ 1
  no_other_index form index is =
      let same = one_meaning widest widest bare_file is.meaning (OfFit bare_tree) is.means.means bare_means in
      let refused = is.has_error in
      let first = subst (λ meaning. IsFirstRefusedIn meaning other_removal refused.edit) same refused.is_first in
      elim first [
        | inl here ↦ only_second index (refused.there ∙ ap Some here.1)
        | inr later ↦ absurd (later.0 refl)
      ]

  pub edit_file_errors_are_known : EditFileErrorsAreKnown
  edit_file_errors_are_known = record {
    no_magic = λ edits chosen failure. (
      no_magic_only edits chosen failure,
      λ same. subst (IsEditFileError edits chosen widest file_without_magic) (sym same) (inl no_magic_is_error),
    );
    legacy = λ chosen failure. (
      kernel_errors chosen failure,
      λ is. elim is [
        | inl same ↦ subst (IsEditFileError removal chosen widest kernel_file) (sym same) (wrong_kind chosen)
        | inr same ↦ subst (IsEditFileError removal chosen widest kernel_file) (sym same) (no_memory chosen)
      ],
    );
    tree = second_finds_nothing;
    only_index = no_other_index;
    is_same = λ edits chosen cause. refl;
  }
