use Rattle.std.proofs.Common.{◌≡◌, ℕ, ◌<◌, ◌≤◌, List, length, Result, Ok, Err, sym, ap, subst, ◌∙◌, arith}
use Rattle.std.specs.Result.{IfErr, IsErrAnd}
use Rattle.std.specs.List.{AllByRecursion}
use Rattle.bi_base.specs.declared.fault.Error.{Error}
use Rattle.bi_base.specs.declared.fault.Error.TheVariants as base_error
use Rattle.bi_base.specs.Errors.{IsFaultOrNoMemory}
use Rattle.bi_base.specs.declared.fault.Fault.{Fault}
use Rattle.bi_base.specs.Limits.{Limits, IsInRange}
use Rattle.bi_base.specs.Reading.{too_large}
use Rattle.bi_common.specs.PayloadBounds.{payloads_length}
use Rattle.bi_blob.specs.Tree.{Root, PropertyMap, depth_of}
use Rattle.bi_fit.specs.declared.form.Form.{Form}
use Rattle.bi_fit.specs.declared.form.Form.TheVariants.{Embedded}
use Rattle.bi_fit.specs.Content.{FitModel, tree_of}
use Rattle.bi_fit.specs.ImageTree.{ImageTree, IsImageTree}
use Rattle.bi_fit.specs.Laws.{IsAcceptedAs}
use Rattle.bi_fit.specs.Text.{fit_text}
use Rattle.bi_fit.proofs.FileTrees.{depth-image_tree, is_image_tree}
use Rattle.bi_plain.specs.Laws.{HasPlainTree, IsOfImageTree}
use Rattle.bi_norm.specs.Meaning.{Meaning, OfFit}
use Rattle.bi_plain.specs.Plain.{IsPlainTree, plain_payloads, plain_root, with_plain_root}
use Rattle.bi_plain.specs.PlainText.{HasPlainText, IsPlainTextFault, plain_text}
use Rattle.bi_plain.proofs.PlainTrees.{each_image_tree_has_plain_tree, each_plain_tree_is_of_image_tree, plain_tree_has_text}
use Rattle.bi_plain.proofs.PlainTrees.{plain_trees_return}
use Rattle.bi_edit.specs.declared.applying.ApplyError.{ApplyError}
use Rattle.bi_edit.specs.declared.applying.ApplyError.TheVariants as apply_error
use Rattle.bi_edit.specs.declared.edit.Edit.{Edit}
use Rattle.bi_edit.specs.declared.edit_error.EditError.{EditError}
use Rattle.bi_edit.specs.declared.edit_error.EditError.TheVariants as error
use Rattle.bi_edit.specs.Applying.{IsApplyError}
use Rattle.bi_edit.specs.EditedFits.{HasLongPayloads, IsEditedText, WasReadWithin, edit_error_of}
use Rattle.bi_edit.specs.EditLaws.{IsEditOfBytes}
use Rattle.bi_edit.specs.EditRefusals.{AreOfKind, AreShallow, CanBeMade, IsEditError, IsEditFault, IsKindError, NeedsTooMuch}
use Rattle.bi_edit.specs.EditRefusals.{OfPayloads, OfText}
use Rattle.bi_edit.specs.Edits.{AllFind, FindsNothing, IsFirstRefused, IsOfKind, IsTooDeep, before_digests, edited_root, edited_tree}
use Rattle.bi_edit.specs.Edits.{edits_of_turn, in_edit_order, root_after}
use Rattle.bi_edit.proofs.AppliedEdits.{after-append, none_is_first, none_refused-append, order_split, refused_more}
use Rattle.bi_edit.proofs.EditedTrees.{edits_keep_plain_trees, order_each}
use Rattle.bi_edit.proofs.PlainBounds.{digests_find, digests_keep_payloads}

-- What is written of edits of a flattened image tree.

-- An error that is passed on.
pub edit_error_passed_on : {A : Type 0} (r : Result A EditError) (e : EditError) (P : EditError → Type 0) → IsErrAnd r (λ x. x ≡ e) →
    P e → IfErr r P
edit_error_passed_on (Ok a) e P is holds = absurd is
edit_error_passed_on (Err x) e P is holds = subst P (sym is) holds

-- An edit of the other kind.
pub of_kind_error : (limits : Limits) (form : Form) (meaning : Meaning) (edits : List Edit) (error : EditError) →
    IsKindError (IsOfKind meaning) edits error → IsEditError limits form meaning edits error
of_kind_error limits form meaning edits error.WrongKind is = is
of_kind_error limits form meaning edits (error.FindsNothing index) is = absurd is
of_kind_error limits form meaning edits (error.Failed failure) is =
    subst (λ failure. IsEditError limits form meaning edits (error.Failed failure)) (sym is) tt

-- The edited plain tree of what was read, if each edit is of a flattened image tree, and none is too deep.
module _ (limits : Limits) (content : FitModel) (edits : List Edit) (read : WasReadWithin limits content)
    (range : IsInRange limits.file limits.depth) (of : AllByRecursion IsEditOfBytes edits)
    (kind : AreOfKind (OfFit (tree_of content)) edits) (fit : AreShallow limits edits) where
  abbrev tree : ImageTree
  tree = tree_of content

  abbrev after : Root PropertyMap
  after = root_after (plain_root tree) (in_edit_order edits)

  is_tree : IsImageTree tree
  is_tree = is_image_tree read.0 tree read.1.means.is_file

  has_plain : HasPlainTree tree
  has_plain = each_image_tree_has_plain_tree tree is_tree

  is_plain : IsPlainTree after
  is_plain = (edits_keep_plain_trees (plain_root tree) (in_edit_order edits) has_plain.is_plain
      (order_each IsEditOfBytes edits of)).is_plain

  shallow : depth_of after ≤ limits.depth
  shallow = (edits_keep_plain_trees (plain_root tree) (in_edit_order edits) has_plain.is_plain
      (order_each IsEditOfBytes edits of)).shallow limits
      (subst (λ n. n ≤ limits.depth)
      (sym (has_plain.same_depth ∙ depth-image_tree read.0 tree read.1.means.is_file)) read.1.means.within.shallow)
      (order_each (λ edit. ¬ (IsTooDeep limits edit)) edits fit)

  edited_has_text : HasPlainText tree.cpu tree.reservations after
  edited_has_text = plain_tree_has_text after tree is_plain is_tree
      (let most = range.3 in omega (arith, most, shallow))

  back : IsOfImageTree after tree
  back = each_plain_tree_is_of_image_tree after tree is_plain is_tree

  same_text : plain_text tree.cpu tree.reservations after ≡ fit_text Embedded (edited_tree edits tree)
  same_text = ap (plain_text tree.cpu tree.reservations) (sym back.same)
      ∙ (each_image_tree_has_plain_tree (with_plain_root after tree) back.is_tree).is_text

  -- All edits are made, if those before the digests are.
  pub can_be_made : AllFind (plain_root tree) (before_digests edits) → CanBeMade limits (OfFit tree) edits
  can_be_made find = record {
    of_kind = kind;
    shallow = fit;
    all_find = subst (AllFind (plain_root tree)) (sym (order_split edits))
        (none_refused-append FindsNothing edited_root (plain_root tree) (before_digests edits) (edits_of_turn 4 edits) find
        (digests_find edits (root_after (plain_root tree) (before_digests edits))));
  }

  -- The tree after the edits of digests is that after all.
  all_made : (early : Root PropertyMap) → early ≡ root_after (plain_root tree) (before_digests edits) →
      root_after early (edits_of_turn 4 edits) ≡ after
  all_made early is =
      ap (λ root. root_after root (edits_of_turn 4 edits)) is
      ∙ sym (after-append FindsNothing edited_root (plain_root tree) (before_digests edits) (edits_of_turn 4 edits))
      ∙ ap (root_after (plain_root tree)) (sym (order_split edits))

  -- The payloads before the digests are those after all edits.
  early_payloads : (early : Root PropertyMap) → early ≡ root_after (plain_root tree) (before_digests edits) →
      plain_payloads early ≡ (edited_tree edits tree).payloads
  early_payloads early is = sym (digests_keep_payloads edits early) ∙ ap plain_payloads (all_made early is)

  pub too_much : (early : Root PropertyMap) → early ≡ root_after (plain_root tree) (before_digests edits) →
      HasLongPayloads limits early edits → NeedsTooMuch limits (OfFit tree) edits
  too_much early is long = record {
    has_digests = long.has_digests;
    is_over = subst (λ payloads. limits.file < payloads_length payloads) (early_payloads early is) long.is_over;
  }

  pub not_too_much : (early : Root PropertyMap) → early ≡ root_after (plain_root tree) (before_digests edits) →
      ¬ (HasLongPayloads limits early edits) → ¬ (NeedsTooMuch limits (OfFit tree) edits)
  not_too_much early is not_long needs = not_long (record {
    has_digests = needs.has_digests;
    is_over = subst (λ payloads. limits.file < payloads_length payloads) (sym (early_payloads early is)) needs.is_over;
  })

  -- An edit that is refused.
  pub of_apply_error : (error : ApplyError) →
      IsApplyError (IsFirstRefused (plain_root tree) (before_digests edits)) edits error →
      IsEditError limits Embedded (OfFit tree) edits (edit_error_of error)
  of_apply_error (apply_error.FindsNothing index) is = record {
    of_kind = kind;
    shallow = fit;
    edit = is.0;
    there = is.1;
    is_first = subst (λ all. IsFirstRefused (plain_root tree) all is.0) (sym (order_split edits))
        (refused_more FindsNothing edited_root (plain_root tree) (before_digests edits) (edits_of_turn 4 edits) is.0 is.2);
  }
  of_apply_error apply_error.OutOfMemory is = tt

  -- None is refused among those of digests.
  pub of_digests_error : (early : Root PropertyMap) (error : ApplyError) →
      IsApplyError (IsFirstRefused early (edits_of_turn 4 edits)) edits error →
      IsEditError limits Embedded (OfFit tree) edits (edit_error_of error)
  of_digests_error early (apply_error.FindsNothing index) is =
      absurd (none_is_first FindsNothing edited_root early (edits_of_turn 4 edits) is.0 (digests_find edits early) is.2)
  of_digests_error early apply_error.OutOfMemory is = tt

  -- The payloads are too long.
  pub of_long_payloads : (early : Root PropertyMap) → early ≡ root_after (plain_root tree) (before_digests edits) →
      AllFind (plain_root tree) (before_digests edits) → (fault : Fault) → fault ≡ too_large limits.file →
      HasLongPayloads limits early edits → IsEditFault limits Embedded (OfFit tree) edits fault
  of_long_payloads early is find fault same long = OfPayloads (can_be_made find) (too_much early is long) same

  -- The text is that of the edits.
  pub edited_text : (early : Root PropertyMap) → early ≡ root_after (plain_root tree) (before_digests edits) →
      AllFind (plain_root tree) (before_digests edits) → ¬ (HasLongPayloads limits early edits) → (text : List ℕ) →
      text ≡ plain_text tree.cpu tree.reservations (root_after early (edits_of_turn 4 edits)) → length text ≤ limits.file →
      IsEditedText limits tree edits text
  edited_text early is find short_payloads text is_text short =
      let whole = is_text ∙ ap (plain_text tree.cpu tree.reservations) (all_made early is) in
      record {
        can = can_be_made find;
        within = not_too_much early is short_payloads;
        is_text = whole ∙ same_text;
        accepted = subst (λ text. IsAcceptedAs limits text (edited_tree edits tree)) (sym whole)
            (plain_trees_return limits after tree is_plain is_tree shallow
            (subst (λ text. length text ≤ limits.file) whole short) range.1);
      }

  -- An error of writing it is one of the edits.
  pub of_write_error : (early : Root PropertyMap) → early ≡ root_after (plain_root tree) (before_digests edits) →
      AllFind (plain_root tree) (before_digests edits) → (failure : Error) →
      IsFaultOrNoMemory (IsPlainTextFault limits tree.cpu tree.reservations (root_after early (edits_of_turn 4 edits))) failure →
      IsEditError limits Embedded (OfFit tree) edits (error.Failed failure)
  of_write_error early is_early find (base_error.Refused fault) is =
      OfText (can_be_made find) (
        is.0,
        subst (λ text. limits.file < length text)
            (ap (plain_text tree.cpu tree.reservations) (all_made early is_early) ∙ same_text) is.1,
      )
  of_write_error early is_early find base_error.OutOfMemory is = tt
  of_write_error early is_early find base_error.ReadFailed is = absurd is
  of_write_error early is_early find base_error.WriteFailed is = absurd is

  -- It can be written.
  pub edited_tree_has_text : (early : Root PropertyMap) → early ≡ root_after (plain_root tree) (before_digests edits) →
      HasPlainText tree.cpu tree.reservations (root_after early (edits_of_turn 4 edits))
  edited_tree_has_text early is = subst (HasPlainText tree.cpu tree.reservations) (sym (all_made early is)) edited_has_text
