use Rattle.std.proofs.Common.{◌≡◌, ◌≢◌, List, [], ◌∷◌, codes, true, Some, refl, lit≤, arith}
use Rattle.bi_base.specs.declared.align.Align.{Align}
use Rattle.bi_base.specs.Aligns.{align_bytes}
use Rattle.bi_base.specs.Cells.{cell, cell8, u32_at}
use Rattle.bi_blob.specs.Layout.{text_of_blocks, text_of_events}
use Rattle.bi_fit.specs.declared.form.Form.TheVariants.{Aligned, Embedded}
use Rattle.bi_fit.specs.Kept.{IsAlignmentOf, PlacedPayload}
use Rattle.bi_fit.specs.KnownFiles.{plain_tree, position_file, three_aligned, three_embedded, three_tree}
use Rattle.bi_edit.specs.FormChoices.{IsFormOfFile, Inside, Outside}
use Rattle.bi_edit.specs.KnownEditedFiles.{payload_at_offset}
use Rattle.bi_edit.proofs.PlacedFacts.{aligned_is_file, at_most_half, embedded_is_file, position_is_file}
use Rattle.bi_edit.proofs.known_edits.forms_of_files_are_known.Goals as goal

not_empty : (first : PlacedPayload) (later : List PlacedPayload) → first ∷ later ≢ []
not_empty first later same = absurd cc

four_thousand : IsAlignmentOf (payload_at_offset 4096 ∷ []) 4096
four_thousand = record {
  is_power = record { exponent = 12; most = lit≤ tt; is_power = refl };
  divides = (refl, tt);
  greatest = λ other power all.
      at_most_half 8192 other 4096 (record { exponent = 13; most = lit≤ tt; is_power = refl }) (λ e. omega (arith, e)) power all.0;
}

two : IsAlignmentOf (payload_at_offset 6 ∷ []) 2
two = record {
  is_power = record { exponent = 1; most = lit≤ tt; is_power = refl };
  divides = (refl, tt);
  greatest = λ other power all.
      at_most_half 4 other 6 (record { exponent = 2; most = lit≤ tt; is_power = refl }) (λ e. omega (arith, e)) power all.0;
}

-- Payloads at 4096 and 8192.
two_aligned : IsAlignmentOf (payload_at_offset 4096 ∷ payload_at_offset 8192 ∷ []) 4096
two_aligned = record {
  is_power = record { exponent = 12; most = lit≤ tt; is_power = refl };
  divides = (refl, (refl, tt));
  greatest = λ other power all. four_thousand.greatest other power (all.0, tt);
}

-- A payload at 180, which `data-position` gives.
abbrev at_position : PlacedPayload
at_position = record { old_offset = 180; new_offset = 0; has_position = true }

at_least_four : IsAlignmentOf (at_position ∷ []) 4
at_least_four = record {
  is_power = record { exponent = 2; most = lit≤ tt; is_power = refl };
  divides = (refl, tt);
  greatest = λ other power all.
      at_most_half 8 other 180 (record { exponent = 3; most = lit≤ tt; is_power = refl }) (λ e. omega (arith, e)) power all.0;
}

form_of_aligned : (align : Align) → align_bytes align ≡ 4096 → IsFormOfFile (three_aligned 4096 4096) three_tree (Aligned align)
unfolding aligned_is_file cell u32_at text_of_events text_of_blocks cell8
form_of_aligned align is = record {
  is_file = aligned_is_file;
  is_form = Outside (not_empty (payload_at_offset 4096) (payload_at_offset 8192 ∷ [])) align 4096 two_aligned is refl;
}

form_of_position : (align : Align) → align_bytes align ≡ 4 →
    IsFormOfFile position_file (plain_tree (codes "a" ∷ []) (Some (codes "new") ∷ [])) (Aligned align)
unfolding position_is_file cell u32_at text_of_events text_of_blocks cell8
form_of_position align is = record {
  is_file = position_is_file;
  is_form = Outside (not_empty at_position []) align 4 at_least_four is refl;
}

form_of_embedded : IsFormOfFile three_embedded three_tree Embedded
unfolding embedded_is_file
form_of_embedded = record { is_file = embedded_is_file; is_form = Inside refl refl }

pub returns : goal.returns
returns c = record {
  forms = record {
    inside = Inside refl refl;
    not_outside = λ align is. elim is [
      | Inside none same ↦ absurd cc
      | Outside some other bytes alignment least same ↦ some refl
    ];
    outside = λ align is. Outside (not_empty (payload_at_offset 4096) []) align 4096 four_thousand is refl;
    not_inside = λ is. elim is [
      | Inside none same ↦ not_empty (payload_at_offset 4096) [] none
      | Outside some align bytes alignment least same ↦ absurd cc
    ];
    at_least_four = λ align is. Outside (not_empty (payload_at_offset 6) []) align 2 two is refl;
    given = λ payload. refl;
    of_aligned = form_of_aligned;
    of_position = form_of_position;
    of_embedded = form_of_embedded;
    of_legacy = λ image. refl;
  };
  places = record {
    absent = refl;
    in_blob = refl;
    offset = refl;
    position = refl;
    bytes = refl;
    no_bytes = refl;
    nothing = refl;
  };
}
