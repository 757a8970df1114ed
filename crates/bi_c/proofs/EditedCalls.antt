use Rattle.std.proofs.Common.{◌≡◌, ◌∙◌, ℕ, List, ap, refl, sym, subst}
use Rattle.std.specs.List.{AllZip}
use Rattle.bi_base.specs.declared.fault.Error.TheVariants as cause
use Rattle.bi_base.specs.Commands.{CommandFailed, SinkFailed, WasRefused}
use Rattle.bi_base.specs.declared.fault.Error.{Error}
use Rattle.bi_base.specs.Limits.{Limits}
use Rattle.bi_edit.specs.declared.edit.Edit.{Edit}
use Rattle.bi_edit.specs.declared.edit_error.EditError.{EditError}
use Rattle.bi_edit.specs.declared.edit_error.EditError.TheVariants as error
use Rattle.bi_edit.specs.declared.edit_notes.EditNotes.{EditNotes}
use Rattle.bi_edit.specs.EditedFiles.{IsEdited, IsEditFileError, IsEditOutput}
use Rattle.bi_c.specs.Arguments.{bounds}
use Rattle.bi_c.specs.EditCalls.{AreEditsFailure, HasEditElements, IsEditCallFailure, IsEditOf, IsEditedFile, IsRefusedEdit, OfFile, OfWord}
use Rattle.bi_c.specs.EditCalls.{failure_of_edit_error}
use Rattle.bi_c.specs.declared.edits.EditElement.{EditElement}
use Rattle.bi_c.specs.declared.failure.Failure.{Failure}
use Rattle.bi_c.specs.declared.failure.Failure.TheVariants.{WrongArgument, Refused, OutOfMemory, NotFound}

-- A call from C edits a file, or fails as reading the elements of its edits or editing the file fails.

module _ (limit depth form : ℕ) (input : List ℕ) (elements : List EditElement) (file : List ℕ)
    (has : HasEditElements limit depth form input elements) where
  -- If the elements have no edits, the call fails.
  pub edits_failed : (failure : Failure) → AreEditsFailure input elements failure →
      IsEditCallFailure limit depth form input elements file failure
  edits_failed (WrongArgument found index) none = absurd none
  edits_failed OutOfMemory none = has
  edits_failed (NotFound reason index) none = OfWord has none.0 none.1
  edits_failed (Refused number fault) none = absurd none

  module _ (limits : Limits) (edits : List Edit) (same : limits ≡ bounds limit depth) (are : AllZip (IsEditOf input) elements edits) where
    pub made_of : (text : List ℕ) (notes : EditNotes) → IsEditOutput edits has.choice limits notes file text →
        IsEditedFile limit depth form input elements file text notes
    made_of text notes is = record {
      arguments = has;
      edits = edits;
      are_edits = are;
      is = subst (λ (l : Limits). IsEditOutput edits has.choice l notes file text) same is;
    }

    refused_edit : (cause : EditError) → IsEditFileError edits has.choice limits file cause →
        IsRefusedEdit limit depth form input elements file (failure_of_edit_error cause)
    refused_edit cause is = record {
      arguments = has;
      edits = edits;
      are_edits = are;
      cause = cause;
      is_failure = refl;
      has_error = subst (λ (l : Limits). IsEditFileError edits has.choice l file cause) same is;
    }

    not_made_of : (cause : EditError) → IsEditFileError edits has.choice limits file cause →
        IsEditCallFailure limit depth form input elements file (failure_of_edit_error cause)
    not_made_of error.WrongKind is = OfFile (refused_edit error.WrongKind is)
    not_made_of (error.FindsNothing index) is = OfFile (refused_edit (error.FindsNothing index) is)
    not_made_of (error.Failed (cause.Refused fault)) is = refused_edit (error.Failed (cause.Refused fault)) is
    not_made_of (error.Failed cause.OutOfMemory) is = has
    not_made_of (error.Failed cause.ReadFailed) is = has
    not_made_of (error.Failed cause.WriteFailed) is = has

    -- A sink in memory fails only if memory runs out.
    pub not_made_in_memory : {S : Type 0} (fails : S → List ℕ → S → Error → Type 0) (old new : S) (failed : EditError) →
        ((text : List ℕ) (other : Error) → fails old text new other → other ≡ cause.OutOfMemory) →
        CommandFailed fails (λ other. error.Failed other) (IsEdited edits has.choice limits file)
        (IsEditFileError edits has.choice limits file) old new failed →
        IsEditCallFailure limit depth form input elements file (failure_of_edit_error failed)
    not_made_in_memory fails old new failed full (WasRefused is same) = not_made_of failed is
    not_made_in_memory fails old new failed full (SinkFailed text other is by same) =
        subst (λ (e : EditError). IsEditCallFailure limit depth form input elements file (failure_of_edit_error e))
        (sym (same ∙ ap (λ (e : Error). error.Failed e) (full text other by))) has
