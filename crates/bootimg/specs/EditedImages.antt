use Rattle.std.specs.Prelude.{◌≡◌, ◌++◌, ⊤, ℕ, List, [], ◌∷◌, Option, Some, None, slice_get}
use Rattle.std.specs.Prelude.{Vec, map}
use Rattle.std.specs.Borrow.{Bor}
use Rattle.std.specs.declared.alloc.Global.{Global}
use Rattle.bi_edit.specs.declared.edit.Edit.{Edit}
use Rattle.bi_edit.specs.declared.edit.Edit.TheVariants.{SetPayload}
use Rattle.bi_edit.specs.declared.edit_error.EditError.{EditError}
use Rattle.bi_edit.specs.declared.edit_error.EditError.TheVariants as error
use Rattle.bi_edit.specs.declared.words.PayloadWord.{PayloadWord}
use Rattle.bi_norm.specs.Kinds.{BeginsAs}
use Rattle.bi_norm.specs.declared.kind.Kind.TheVariants as kind
use Rattle.bootimg.specs.declared.command_line.edits.EditPlan.{EditPlan}
use Rattle.bootimg.specs.declared.failure.Failure.{Failure}
use Rattle.bootimg.specs.declared.failure.Failure.TheVariants.{Call, WrongKind, NoPart, NoImage}
use Rattle.bootimg.specs.declared.failure.Failure.TheVariants.{NothingToRemove}

-- What the command `update` edits, and why it fails (profile of this project).

-- The contents of files, as the code has them.
abbrev pub contents_of : List (Vec ℕ Global) → List (List ℕ)
contents_of contents = map (λ bytes. bytes.items) contents

-- The edit gives the image of a word these bytes as its payload.
abbrev pub IsPayloadEdit : PayloadWord → (bytes : List ℕ) → Edit → Type 0
IsPayloadEdit word bytes (SetPayload image payload) =
    (image ≡ word.image) × (payload.now ≡ bytes)
IsPayloadEdit word bytes edit = ⊥

-- The edits give the image of each word the bytes of its file.
abbrev pub ArePayloadEdits : List PayloadWord → (contents : List (List ℕ)) → List Edit → Type 0
ArePayloadEdits [] [] [] = ⊤
ArePayloadEdits (word ∷ words) (bytes ∷ contents) (edit ∷ edits) =
    IsPayloadEdit word bytes edit × ArePayloadEdits words contents edits
ArePayloadEdits words contents edits = ⊥

-- The edits of a plan, when the files of its payloads have these contents.
pub record AreEditsOf (plan : EditPlan) (contents : List (List ℕ)) (edits : List Edit) : Type 0
  where
    pub given : List Edit
    pub are : edits ≡ plan.edits.items ++ given
    pub are_given : ArePayloadEdits plan.payloads.items contents given

-- The failure if no image has the name in a word for a payload, or no part the number.
pub data IsWithoutImage (file : List ℕ) (failure : Failure) : Type 0 where
  OfLegacyImage : BeginsAs file kind.Legacy → failure ≡ NoPart → IsWithoutImage file failure
  OfTree : ¬ (BeginsAs file kind.Legacy) → failure ≡ NoImage → IsWithoutImage file failure

-- The failure for an edit that finds nothing: it has this word if it is a removal, and else it is
-- one of a payload.
abbrev pub IsWithoutPlace : (removal : Option (Bor (List ℕ))) → (file : List ℕ) → Failure → Type 0
IsWithoutPlace (Some word) file failure = failure ≡ NothingToRemove word
IsWithoutPlace None file failure = IsWithoutImage file failure

-- The failure for an error of editing a file. The words are those for the removals, which are the
-- first edits.
abbrev pub IsFailureOfEditing : (removal_words : List (Bor (List ℕ))) → (file : List ℕ)
    → EditError → Failure → Type 0
IsFailureOfEditing words file (error.Failed cause) failure = failure ≡ Call cause
IsFailureOfEditing words file error.WrongKind failure = failure ≡ WrongKind
IsFailureOfEditing words file (error.FindsNothing index) failure =
    IsWithoutPlace (slice_get words index) file failure
