use Rattle.std.proofs.Common.{◌≡◌, ◌↔◌, ℕ, ◌+◌, ◌<◌, ◌%◌, false, List, ◌∷◌, drop, get_or, length, sym, ap, subst, add-one}
use Rattle.std.proofs.Math.Seq.{drop-cons}
use Rattle.bi_fit.specs.Kept.{AreAlignedInFile, AreAlignedInText}
use Rattle.bi_edit.specs.declared.outside_payloads.OutsidePayload.{OutsidePayload}
use Rattle.bi_edit.specs.PlacedPayloads.{placed_list, placed_payload}

-- The payloads outside the blob from one of them on are it and those after it.

-- What a list of them gives past its end.
abbrev pub no_placed : OutsidePayload
no_placed = record { old_offset = 0; new_offset = 0; has_position = false }

module _ (placed : List OutsidePayload) (index : ℕ) (within : index < length placed) where
  rest_from : drop index placed ≡ get_or placed index no_placed ∷ drop (index + 1) placed
  rest_from = rw add-one (drop-cons placed index no_placed within)

  placed_from : placed_list (drop index placed)
      ≡ placed_payload (get_or placed index no_placed) ∷ placed_list (drop (index + 1) placed)
  placed_from = ap placed_list rest_from

  -- Which of them are aligned in the file, and in the text.
  pub aligned_from : (bytes : ℕ) → AreAlignedInFile bytes (placed_list (drop index placed))
      ↔ (((get_or placed index no_placed).old_offset % bytes ≡ 0) × AreAlignedInFile bytes (placed_list (drop (index + 1) placed)))
  aligned_from bytes =
      (λ all. subst (AreAlignedInFile bytes) placed_from all, λ both. subst (AreAlignedInFile bytes) (sym placed_from) both)

  pub aligned_in_text_from : (bytes : ℕ) → AreAlignedInText bytes (placed_list (drop index placed))
      ↔ (((get_or placed index no_placed).new_offset % bytes ≡ 0) × AreAlignedInText bytes (placed_list (drop (index + 1) placed)))
  aligned_in_text_from bytes =
      (λ all. subst (AreAlignedInText bytes) placed_from all, λ both. subst (AreAlignedInText bytes) (sym placed_from) both)
