use Rattle.std.proofs.Common.{◌≡◌, ◌↔◌, ℕ, ◌≤◌, true, false, List, [], ◌∷◌, codes, Some, None}
use Rattle.std.proofs.Common.{length, map, refl, sym, ap, subst, lit≤, true≢false, arith}
use Rattle.bi_base.specs.Cells.{cell, cell8, u32_at}
use Rattle.bi_blob.specs.Layout.{text_of_events, text_of_blocks}
use Rattle.bi_blob.specs.Tree.{Root, Property}
use Rattle.bi_fit.specs.declared.form.Form.TheVariants.{External}
use Rattle.bi_fit.specs.ImageTree.{ImageTree}
use Rattle.bi_fit.specs.Judgement.{images_of, signature_count}
use Rattle.bi_fit.specs.Kept.{PlacedPayload, LosesAlignment, placed_payloads}
use Rattle.bi_fit.specs.KnownFiles.{plain_tree, position_file, three_aligned, three_tree}
use Rattle.bi_fit.specs.KnownKept.{moved_payload}
use Rattle.bi_fit.specs.Text.{payload_places}
use Rattle.bi_fit.proofs.FileFacts.{plain_blob, three_images_have_texts}
use Rattle.bi_fit.proofs.KeptPayloads.{alignment_lost}
use Rattle.bi_fit.proofs.PowersOfTwo.{smaller_divides}
use Rattle.bi_edit.specs.declared.edit_notes.EditNotes.{EditNotes}
use Rattle.bi_edit.specs.declared.form_choice.FormChoice.{FormChoice}
use Rattle.bi_edit.specs.declared.form_choice.FormChoice.TheVariants as choice
use Rattle.bi_edit.specs.EditNotes.{AreNoNotes, AreTreeNotes, SaysOfPayloads, old_payload, old_place, still_placed}
use Rattle.bi_edit.specs.KnownEditNotes.{NotesOfAlignedAreKnown, NotesOfPositionAreKnown, notes_about}
use Rattle.bi_edit.proofs.PlacedFacts.{aligned_is_file, at_most_half, nodes_in, one_at, one_new, position_is_file, three_at}

-- What a user should know after edits of small files.

-- ---- alignments

-- What is said of payloads that lose an alignment, or that lose none.
abbrev lost : {placed : List PlacedPayload} {bytes : ℕ} → LosesAlignment placed bytes →
    (other : ℕ) → (Some bytes ≡ Some other) ↔ LosesAlignment placed other
lost {placed} {bytes} loses = alignment_lost placed (Some bytes) loses (λ none. absurd (true≢false none))

abbrev not_lost : {placed : List PlacedPayload} → ((bytes : ℕ) → ¬ (LosesAlignment placed bytes)) →
    (other : ℕ) → (None ≡ Some other) ↔ LosesAlignment placed other
not_lost {placed} without = alignment_lost placed None tt (λ none. without)

aligned_lost : LosesAlignment (moved_payload 4096 244 false ∷ moved_payload 8192 252 false ∷ []) 4096
aligned_lost = record {
  is_alignment = record {
    is_power = record { exponent = 12; most = lit≤ tt; is_power = refl };
    divides = (refl, (refl, tt));
    greatest = λ other power all.
        at_most_half 8192 other 4096 (record { exponent = 13; most = lit≤ tt; is_power = refl }) (λ e. omega (arith, e)) power all.0;
  };
  is_lost = λ all. omega (arith, all.0);
}

position_not_lost : (bytes : ℕ) → ¬ (LosesAlignment (moved_payload 180 156 true ∷ []) bytes)
position_not_lost bytes loses =
    let is = loses.is_alignment in
    let small : bytes ≤ 4 =
    at_most_half 8 bytes 180 (record { exponent = 3; most = lit≤ tt; is_power = refl }) (λ e. omega (arith, e)) is.is_power
    is.divides.0 in
    loses.is_lost
    (smaller_divides bytes 4 156 is.is_power (record { exponent = 2; most = lit≤ tt; is_power = refl }) small refl, tt)

-- ---- the files

-- The payloads that are still there, if the blob of the text has this length.
abbrev placed_if : (file : List ℕ) → Root (List Property) → (old new : ImageTree) → (base : ℕ) → List PlacedPayload
placed_if file root old new base =
    placed_payloads (map (old_place file (nodes_in root)) (images_of new)) (map (old_payload old) (images_of new))
    (payload_places 4 base 0 new.payloads)

notes_of_position : (chosen : FormChoice) (new : ImageTree) (notes : EditNotes) → notes.kept.signatures ≡ signature_count new →
    SaysOfPayloads chosen position_file (nodes_in one_at) one_new new notes → AreTreeNotes chosen position_file one_new new notes
unfolding position_is_file
notes_of_position chosen new notes count says = record { is_file = position_is_file; signatures = count; payloads = says }

position_lost : (other : ℕ) → (None ≡ Some other) ↔ LosesAlignment (still_placed position_file (nodes_in one_at) one_new one_new) other
unfolding cell u32_at text_of_events text_of_blocks cell8
position_lost =
    subst (λ base. (other : ℕ) → (None ≡ Some other) ↔ LosesAlignment (placed_if position_file one_at one_new one_new base) other)
    (sym (ap length (plain_blob External (codes "a" ∷ []) (Some (codes "new") ∷ [])))) (not_lost position_not_lost)

pub notes_of_position_are_known : NotesOfPositionAreKnown
notes_of_position_are_known = record {
  embedded = λ byte later.
      notes_of_position _ (plain_tree (codes "a" ∷ []) (Some (byte ∷ later) ∷ [])) (notes_about None 0 1) refl
      (record { alignment = refl; positions = refl }, refl);
  embedded_empty =
      notes_of_position _ (plain_tree (codes "a" ∷ []) (Some [] ∷ [])) (notes_about None 0 0) refl
      (record { alignment = refl; positions = refl }, refl);
  external = notes_of_position (choice.Given External) one_new (notes_about None 1 0) refl (position_lost, refl, refl);
  keep = λ payload.
      notes_of_position choice.Keep (plain_tree (codes "a" ∷ []) (Some payload ∷ [])) (notes_about None 1 0) refl (refl, refl, refl);
  no_payload =
      notes_of_position choice.Keep (plain_tree (codes "a" ∷ []) (None ∷ [])) (notes_about None 0 0) refl (refl, refl, refl);
  no_image = notes_of_position choice.Keep (plain_tree [] []) (notes_about None 0 0) refl (refl, refl, refl);
  aligned = λ align payload.
      notes_of_position _ (plain_tree (codes "a" ∷ []) (payload ∷ [])) (notes_about None 0 0) refl
      (record { alignment = refl; positions = refl }, refl);
  signed = λ align. notes_of_position _ _ _ refl (record { alignment = refl; positions = refl }, refl);
}

notes_of_aligned : (chosen : FormChoice) (new : ImageTree) (notes : EditNotes) → notes.kept.signatures ≡ signature_count new →
    SaysOfPayloads chosen (three_aligned 4096 4096) (nodes_in three_at) three_tree new notes →
    AreTreeNotes chosen (three_aligned 4096 4096) three_tree new notes
unfolding aligned_is_file
notes_of_aligned chosen new notes count says = record { is_file = aligned_is_file; signatures = count; payloads = says }

alignment_is_lost : (other : ℕ) → (Some 4096 ≡ Some other)
    ↔ LosesAlignment (still_placed (three_aligned 4096 4096) (nodes_in three_at) three_tree three_tree) other
unfolding cell u32_at text_of_events text_of_blocks cell8
alignment_is_lost =
    subst (λ base. (other : ℕ) → (Some 4096 ≡ Some other)
    ↔ LosesAlignment (placed_if (three_aligned 4096 4096) three_at three_tree three_tree base) other)
    (sym three_images_have_texts.external_blob) (lost aligned_lost)

only_empty_lost : (other : ℕ) → (None ≡ Some other) ↔ LosesAlignment
    (still_placed (three_aligned 4096 4096) (nodes_in three_at) three_tree (plain_tree (codes "b" ∷ []) (Some [] ∷ []))) other
only_empty_lost = not_lost (λ bytes loses. loses.is_lost tt)

same_notes : (notes : EditNotes) → AreNoNotes notes → notes ≡ notes_about None 0 0
same_notes notes are = λ i. record {
  kept = record { signatures = are.signatures i; lost_alignment = are.kept.alignment i; lost_positions = are.kept.positions i };
  inside = are.inside i;
}

no_notes : AreNoNotes (notes_about None 0 0)
no_notes = record { signatures = refl; kept = record { alignment = refl; positions = refl }; inside = refl }

pub notes_of_aligned_are_known : NotesOfAlignedAreKnown
notes_of_aligned_are_known = record {
  external = notes_of_aligned (choice.Given External) three_tree (notes_about (Some 4096) 0 0) refl (alignment_is_lost, refl, refl);
  only_empty = notes_of_aligned (choice.Given External) (plain_tree (codes "b" ∷ []) (Some [] ∷ [])) (notes_about None 0 0) refl
      (only_empty_lost, refl, refl);
  embedded = notes_of_aligned _ three_tree (notes_about None 0 2) refl (record { alignment = refl; positions = refl }, refl);
  keep = notes_of_aligned choice.Keep three_tree (notes_about None 0 0) refl (refl, refl, refl);
  legacy = λ chosen file old new notes. (same_notes notes, λ same. subst AreNoNotes (sym same) no_notes);
}
