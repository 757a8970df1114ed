use Rattle.std.proofs.Common.{◌≡◌, List, ℕ, IfOk, None, refl, subst, sym, arith, rules}
use Rattle.bi_base.specs.Limits.{Limits}
use Rattle.bi_fit.specs.declared.form.Form.TheVariants.{Embedded, External}
use Rattle.bi_fit.specs.Content.{tree_of}
use Rattle.bi_fit.specs.Reading.{IsReadFit}
use Rattle.bi_fit.proofs.TextLaws.{each_external_text_has_its_length}
use Rattle.bi_edit.specs.declared.edit_notes.EditNotes.{EditNotes}
use Rattle.bi_edit.specs.declared.form_choice.FormChoice.TheVariants.{Given}
use Rattle.bi_edit.specs.EditNotes.{AreTreeNotes}
use Rattle.bi_edit.proofs.TreeNotes.{embedded_notes, external_notes, kept_notes, same_end}
use Rattle.bi_edit.proofs.edit_notes.notes_of.Goals as goal

pub external_notes-requires-clause-within : goal.external_notes-requires-clause-within
external_notes-requires-clause-within c =
    let chosen : c.args.choice ≡ Given External = search rules in
    let long = (c.requires.size chosen).0 in
    let whole = (each_external_text_has_its_length External 4 (tree_of c.args.new.now) refl).is_length in
    let end =
    same_end c.args.old.now c.args.new.now c.requires.held c.images-in-Given-External.result.now c.images-in-Given-External.ensures in
    omega (arith, whole, long, end)

pub returns-in-Given-Embedded : goal.returns-in-Given-Embedded
returns-in-Given-Embedded c = λ limits file read.
    let chosen : c.args.choice ≡ Given Embedded = search rules in
    let notes : EditNotes = record {
      kept = record { signatures = c.signature_count-signatures.result; lost_alignment = None; lost_positions = 0 };
      inside = c.inside_count.result;
    } in
    subst (λ chosen. AreTreeNotes chosen file (tree_of c.args.old.now) (tree_of c.args.new.now) notes) (sym chosen)
    (embedded_notes c.args.old.now c.args.new.now c.requires.held c.images.result.now c.images.ensures
    c.signature_count-signatures.result c.inside_count.result c.signature_count-signatures.ensures c.inside_count.ensures limits file read)

pub returns-in-Given-External : goal.returns-in-Given-External
returns-in-Given-External c =
    let chosen : c.args.choice ≡ Given External = search rules in
    let notes = c.external_notes.ensures in
    subst (λ chosen. IfOk c.external_notes.result (λ notes. (limits : Limits) (file : List ℕ) → IsReadFit limits file c.args.old.now →
    AreTreeNotes chosen file (tree_of c.args.old.now) (tree_of c.args.new.now) notes)) (sym chosen)
    (external_notes c.args.old.now c.args.new.now c.requires.held c.images-in-Given-External.result.now
    c.images-in-Given-External.ensures c.external_notes.result c.signature_count-signatures.result c.args.size
    c.signature_count-signatures.ensures (c.requires.size chosen).0 notes.signatures notes.alignment notes.positions notes.inside)

pub returns-in-Keep : goal.returns-in-Keep
returns-in-Keep c = λ limits file read.
    let notes : EditNotes = record {
      kept = record {
        signatures = c.signature_count-signatures.result;
        lost_alignment = None;
        lost_positions = c.position_count.result;
      };
      inside = 0;
    } in
    subst (λ chosen. AreTreeNotes chosen file (tree_of c.args.old.now) (tree_of c.args.new.now) notes) (sym c.in-Keep.is)
    (kept_notes c.args.old.now c.args.new.now c.requires.held c.images-in-Keep.result.now c.images-in-Keep.ensures
    c.signature_count-signatures.result c.position_count.result c.signature_count-signatures.ensures c.position_count.ensures
    limits file read)
