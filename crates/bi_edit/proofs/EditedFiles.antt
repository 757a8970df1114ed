use Rattle.std.proofs.Common.{◌≡◌, ◌<◌, ◌≤◌, ◌^◌, ℕ, List, length, Ok, Err, refl, sym, ap, subst, ◌∙◌, inl, inr}
use Rattle.std.specs.List.{AllByRecursion}
use Rattle.bi_base.specs.declared.fault.Error.{Error}
use Rattle.bi_base.specs.declared.fault.Error.TheVariants.{Refused, OutOfMemory, ReadFailed, WriteFailed}
use Rattle.bi_base.specs.declared.fault.Fault.{Fault}
use Rattle.bi_base.specs.Commands.{Appended, CommandFailed, WasRefused, SinkFailed}
use Rattle.bi_base.specs.Limits.{Limits}
use Rattle.bi_blob.specs.Layout.{longest_text}
use Rattle.bi_fit.specs.declared.form.Form.{Form}
use Rattle.bi_fit.specs.declared.form.Form.TheVariants.{Embedded}
use Rattle.bi_fit.specs.Content.{FitModel, tree_of}
use Rattle.bi_fit.specs.Documents.{IsTextError, IsTextOfTree}
use Rattle.bi_fit.specs.ImageTree.{ImageTree, IsImageTree}
use Rattle.bi_fit.specs.Reading.{IsFitReadError, IsReadFit}
use Rattle.bi_fit.specs.Text.{fit_text}
use Rattle.bi_fit.proofs.FileTrees.{is_image_tree}
use Rattle.bi_fit.proofs.TextLaws.{normal_fit_text_is_accepted}
use Rattle.bi_legacy.specs.Emitting.{HasNoEmitFault, WroteImage}
use Rattle.bi_legacy.specs.Meaning.{LegacyImage}
use Rattle.bi_legacy.specs.Reading.{IsReadLegacy, LegacyModel}
use Rattle.bi_legacy.specs.Text.{legacy_text}
use Rattle.bi_legacy.proofs.ImageOfFile.{image_of_file}
use Rattle.bi_legacy.proofs.NoEmitFault.{no_emit_fault_image}
use Rattle.bi_legacy.proofs.TextMeans.{legacy_text_means}
use Rattle.bi_norm.specs.Comparing.{MeansOnly}
use Rattle.bi_norm.specs.Meaning.{Meaning, Means, OfFit, OfLegacy}
use Rattle.bi_norm.specs.Reading.{IsBootImageReadError}
use Rattle.bi_norm.proofs.NormalForms.{needs_memory, only_legacy, only_tree}
use Rattle.bi_edit.specs.declared.applying.ApplyError.{ApplyError}
use Rattle.bi_edit.specs.declared.applying.ApplyError.TheVariants as apply_error
use Rattle.bi_edit.specs.declared.edit.Edit.{Edit}
use Rattle.bi_edit.specs.declared.edit_error.EditError.{EditError}
use Rattle.bi_edit.specs.declared.edit_error.EditError.TheVariants as error
use Rattle.bi_edit.specs.declared.edit_notes.EditNotes.{EditNotes}
use Rattle.bi_edit.specs.declared.form_choice.FormChoice.{FormChoice}
use Rattle.bi_edit.specs.declared.form_choice.FormChoice.TheVariants as form_choice
use Rattle.bi_edit.specs.Applying.{IsApplyError}
use Rattle.bi_edit.specs.EditNotes.{AreNoNotes, AreTreeNotes}
use Rattle.bi_edit.specs.EditedFiles.{HasEditError, IsEdited, IsEditFileError, IsEditOutput}
use Rattle.bi_edit.specs.EditedFits.{IsEditedText, edit_error_of}
use Rattle.bi_edit.specs.EditLaws.{IsEditOfBytes}
use Rattle.bi_edit.specs.EditRefusals.{AreOfKind, CanBeMade, IsEditError, IsEditFault, OfDepth, OfPayloads, OfText}
use Rattle.bi_edit.specs.Edits.{AllHaveParts, IsFirstWithoutPart, edited_tree, in_edit_order, legacy_after}
use Rattle.bi_edit.specs.FormChoices.{IsChosenForm}
use Rattle.bi_edit.proofs.EditedTrees.{edits_keep_image_trees, order_each}
use Rattle.bi_edit.proofs.FormLengths.{embedded_fault_is_fault}
use Rattle.bi_edit.proofs.LegacyContents.{edits_keep_content, legacy_shallow}

-- What is written of edits of a file, and its errors.

-- An error of reading a file.
pub error_of_read_file : (edits : List Edit) (choice : FormChoice) (limits : Limits) (file : List ℕ) (failure : Error) →
    IsBootImageReadError limits file failure → IsEditFileError edits choice limits file (error.Failed failure)
error_of_read_file edits choice limits file failure is = inl is

-- Memory ran out for a file that means something.
pub edits_out_of_memory : (edits : List Edit) (choice : FormChoice) (limits : Limits) (file : List ℕ) (meaning : Meaning) →
    Means limits file meaning → IsEditFileError edits choice limits file (error.Failed OutOfMemory)
edits_out_of_memory edits choice limits file meaning means = inl (needs_memory limits file meaning means)

-- An error of editing with a sink that fails only if memory runs out.
pub edit_error_in_memory : {S : Type 0} (fails : S → List ℕ → S → Error → Type 0) (edits : List Edit) (choice : FormChoice)
    (limits : Limits) (file : List ℕ) (old new : S) (failure : EditError) →
    ((text : List ℕ) (cause : Error) → fails old text new cause → cause ≡ OutOfMemory) →
    CommandFailed fails (λ cause. error.Failed cause) (IsEdited edits choice limits file) (IsEditFileError edits choice limits file) old new
    failure → IsEditFileError edits choice limits file failure
edit_error_in_memory fails edits choice limits file old new failure full (WasRefused is same) = is
edit_error_in_memory fails edits choice limits file old new failure full (SinkFailed text cause is failed same) =
    subst (IsEditFileError edits choice limits file) (sym (same ∙ ap (λ cause. error.Failed cause) (full text cause failed)))
    (edits_out_of_memory edits choice limits file is.meaning is.means.means)

-- The error of the blob is one in any form, since the text in the form Embedded is the shortest.
module _ (limits : Limits) (form : Form) (tree : ImageTree) (edits : List Edit) (is : IsImageTree tree)
    (of : AllByRecursion IsEditOfBytes edits) where
  fault_in_form : (fault : Fault) → IsEditFault limits Embedded (OfFit tree) edits fault →
      IsEditFault limits form (OfFit tree) edits fault
  fault_in_form fault (OfDepth kind deep same) = OfDepth kind deep same
  fault_in_form fault (OfPayloads can needs same) = OfPayloads can needs same
  fault_in_form fault (OfText can long) =
      OfText can
      (embedded_fault_is_fault limits form (edited_tree edits tree) fault (edits_keep_image_trees tree edits is of).is_tree long)

  error_in_form : (error : EditError) → IsEditError limits Embedded (OfFit tree) edits error →
      IsEditError limits form (OfFit tree) edits error
  error_in_form error.WrongKind has = has
  error_in_form (error.FindsNothing index) has = has
  error_in_form (error.Failed (Refused fault)) has = fault_in_form fault has
  error_in_form (error.Failed OutOfMemory) has = tt
  error_in_form (error.Failed ReadFailed) has = absurd has
  error_in_form (error.Failed WriteFailed) has = absurd has

-- ---- a flattened image tree

module _ (edits : List Edit) (choice : FormChoice) (limits : Limits) (file : List ℕ) (content : FitModel)
    (read : IsReadFit limits file content) (form : Form) (is_form : IsChosenForm choice file (OfFit (tree_of content)) form) where
  abbrev tree : ImageTree
  tree = tree_of content

  abbrev edited : ImageTree
  edited = edited_tree edits tree

  means_tree : MeansOnly limits file (OfFit tree)
  means_tree = record { means = read.means; only = only_tree limits file content read }

  file_error : (error : EditError) → IsEditError limits form (OfFit tree) edits error → HasEditError edits choice limits file error
  file_error error is = record { meaning = OfFit tree; means = means_tree; form = form; is_form = is_form; has_error = is }

  as_file_error : (error : EditError) → HasEditError edits choice limits file error → IsEditFileError edits choice limits file error
  as_file_error error.WrongKind has = has
  as_file_error (error.FindsNothing index) has = has
  as_file_error (error.Failed failure) has = inr has

  -- The blob was not made.
  pub tree_not_edited : AllByRecursion IsEditOfBytes edits → (error : EditError) → IsEditError limits Embedded (OfFit tree) edits error →
      IsEditFileError edits choice limits file error
  tree_not_edited of error is =
      let is_tree = is_image_tree file tree read.means.is_file in
      as_file_error error (file_error error (error_in_form limits form tree edits is_tree of error is))

  module _ (blob : List ℕ) (made : IsEditedText limits tree edits blob) where
    -- It is read, unless memory runs out.
    pub blob_not_read : (failure : Error) → IsFitReadError limits blob failure →
        IsEditFileError edits choice limits file (error.Failed failure)
    blob_not_read (Refused fault) is = absurd (is.means_nothing edited made.accepted.means)
    blob_not_read OutOfMemory is = edits_out_of_memory edits choice limits file (OfFit tree) read.means
    blob_not_read ReadFailed is = absurd is
    blob_not_read WriteFailed is = absurd is

    pub blob_means : (new : FitModel) → IsReadFit limits blob new → tree_of new ≡ edited
    blob_means new is = sym (is.only edited made.accepted.means)

    -- Its text is too long.
    pub text_not_made : (new : FitModel) → IsReadFit limits blob new → (failure : Error) → IsTextError limits form (tree_of new) failure →
        IsEditFileError edits choice limits file (error.Failed failure)
    text_not_made new is (Refused fault) failed =
        inr (file_error (error.Failed (Refused fault))
        (OfText made.can (failed.0, subst (λ tree. limits.file < length (fit_text form tree)) (blob_means new is) failed.1)))
    text_not_made new is OutOfMemory failed = edits_out_of_memory edits choice limits file (OfFit tree) read.means
    text_not_made new is ReadFailed failed = absurd failed
    text_not_made new is WriteFailed failed = absurd failed

    -- It is that of the edited file.
    pub tree_is_edited : (new : FitModel) → IsReadFit limits blob new → limits.file ≤ longest_text → (text : List ℕ) →
        IsTextOfTree limits form (tree_of new) text → IsEdited edits choice limits file text
    tree_is_edited new is most text of =
        let same : text ≡ fit_text form edited = of.is_text ∙ ap (fit_text form) (blob_means new is) in
        let short = subst (λ text. length text ≤ limits.file) same of.short in
        record {
          meaning = OfFit tree;
          means = means_tree;
          can = made.can;
          within = made.within;
          form = form;
          is_form = is_form;
          is_text = same;
          text_means = subst (λ text. Means limits text (OfFit edited)) (sym same)
              (normal_fit_text_is_accepted limits form blob edited made.accepted.means short most).means;
        }

    pub tree_output : (new : FitModel) (is : IsReadFit limits blob new) (most : limits.file ≤ longest_text) (text : List ℕ)
        (of : IsTextOfTree limits form (tree_of new) text) (notes : EditNotes) →
        AreTreeNotes choice file tree (tree_of new) notes → IsEditOutput edits choice limits notes file text
    unfolding tree_is_edited
    tree_output new is most text of notes are = record {
      is = tree_is_edited new is most text of;
      are_notes = subst (λ new. AreTreeNotes choice file tree new notes) (blob_means new is) are;
    }

-- ---- a legacy image

-- A form for each choice.
abbrev pub form_of_legacy : FormChoice → Form
form_of_legacy (form_choice.Given form) = form
form_of_legacy form_choice.Keep = Embedded

pub has_form_of_legacy : (chosen : FormChoice) (file : List ℕ) (image : LegacyImage) →
    IsChosenForm chosen file (OfLegacy image) (form_of_legacy chosen)
has_form_of_legacy (form_choice.Given form) file image = refl
has_form_of_legacy form_choice.Keep file image = refl

module _ (edits : List Edit) (choice : FormChoice) (limits : Limits) (file : List ℕ) (parsed : LegacyModel)
    (read : IsReadLegacy limits file parsed) (form : Form) (is_form : IsChosenForm choice file (OfLegacy parsed.image) form) where
  abbrev image : LegacyImage
  image = parsed.image

  abbrev edited_image : LegacyImage
  edited_image = legacy_after image (in_edit_order edits)

  means_image : MeansOnly limits file (OfLegacy image)
  means_image = record { means = read.means; only = only_legacy limits file parsed read }

  legacy_file_error : (error : EditError) → IsEditError limits form (OfLegacy image) edits error →
      HasEditError edits choice limits file error
  legacy_file_error error is =
      record { meaning = OfLegacy image; means = means_image; form = form; is_form = is_form; has_error = is }

  pub legacy_not_edited : (error : EditError) → IsEditError limits form (OfLegacy image) edits error →
      IsEditFileError edits choice limits file error
  legacy_not_edited error.WrongKind is = legacy_file_error error.WrongKind is
  legacy_not_edited (error.FindsNothing index) is = legacy_file_error (error.FindsNothing index) is
  legacy_not_edited (error.Failed failure) is = inr (legacy_file_error (error.Failed failure) is)

  module _ (kind : AreOfKind (OfLegacy image) edits) where
    -- A part is not there.
    pub of_part_error : (error : ApplyError) → IsApplyError (IsFirstWithoutPart image (in_edit_order edits)) edits error →
        IsEditFileError edits choice limits file (edit_error_of error)
    of_part_error (apply_error.FindsNothing index) is = legacy_file_error (error.FindsNothing index) (record {
      of_kind = kind;
      shallow = legacy_shallow limits image edits kind;
      edit = is.0;
      there = is.1;
      is_first = is.2;
    })
    of_part_error apply_error.OutOfMemory is = inr (legacy_file_error (error.Failed OutOfMemory) tt)

    module _ (have : AllHaveParts image (in_edit_order edits)) where
      can_edit_image : CanBeMade limits (OfLegacy image) edits
      can_edit_image = record { of_kind = kind; shallow = legacy_shallow limits image edits kind; all_find = have }

      pub legacy_is_edited : AllByRecursion IsEditOfBytes edits → limits.file < 2 ^ 32 → HasNoEmitFault limits edited_image →
          IsEdited edits choice limits file (legacy_text edited_image)
      legacy_is_edited of small no_fault =
          let old = image_of_file file image read.means.is_file in
          let has = edits_keep_content image (in_edit_order edits)
          (record { ranges = old.ranges; name = old.name_bytes; parts = old.parts_bytes }) (order_each IsEditOfBytes edits of) in
          record {
            meaning = OfLegacy image;
            means = means_image;
            can = can_edit_image;
            within = λ needs. needs.is_over;
            form = form;
            is_form = is_form;
            is_text = refl;
            text_means = record {
              is_file = legacy_text_means edited_image
                  (no_emit_fault_image edited_image limits has.ranges has.name has.parts small no_fault);
              short = no_fault.1.1.0;
            };
          }

      -- The image was not written.
      pub legacy_not_written : {S : Type 0} (appends : S → List ℕ → S → Type 0) (fails : S → List ℕ → S → Error → Type 0) (old new : S)
          (failure : Error) → AllByRecursion IsEditOfBytes edits → limits.file < 2 ^ 32 →
          WroteImage appends fails limits edited_image old (Err failure) new →
          CommandFailed fails (λ cause. error.Failed cause) (IsEdited edits choice limits file)
          (IsEditFileError edits choice limits file) old new (error.Failed failure)
      legacy_not_written appends fails old new failure of small wrote = elim wrote.refused_or_written [
        | inl none ↦ SinkFailed (legacy_text edited_image) failure (legacy_is_edited of small none) (wrote.written none) refl
        | inr some ↦
            let refused = wrote.refused some.0 some.1 in
            let e = refused.0 in
            let same : failure ≡ Refused some.0 = cc in
            WasRefused (subst (λ failure. IsEditFileError edits choice limits file (error.Failed failure)) (sym same)
            (inr (legacy_file_error (error.Failed (Refused some.0)) (OfText can_edit_image some.1)))) refused.1
      ]

      -- It was written.
      pub legacy_written : {S : Type 0} (appends : S → List ℕ → S → Type 0) (fails : S → List ℕ → S → Error → Type 0) (old new : S)
          (notes : EditNotes) → AllByRecursion IsEditOfBytes edits → limits.file < 2 ^ 32 → AreNoNotes notes →
          WroteImage appends fails limits edited_image old (Ok tt) new →
          Appended appends (IsEditOutput edits choice limits notes file) old new
      unfolding legacy_is_edited
      legacy_written appends fails old new notes of small says wrote = elim wrote.refused_or_written [
        | inl none ↦ record {
          text = legacy_text edited_image;
          is_text = record { is = legacy_is_edited of small none; are_notes = says };
          appended = wrote.written none;
        }
        | inr some ↦ absurd (let e = (wrote.refused some.0 some.1).0 in cc)
      ]
