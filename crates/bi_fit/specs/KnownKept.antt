use Rattle.std.specs.Prelude.{◌≡◌, ◌*◌, ℕ, Bool, true, false, List, [], ◌∷◌, codes}
use Rattle.std.specs.Prelude.{Option, Some, None}
use Rattle.bi_base.specs.declared.align.Align.{Align}
use Rattle.bi_fit.specs.declared.form.Form.TheVariants.{Embedded, External, Aligned}
use Rattle.bi_fit.specs.declared.kept.Kept.{Kept}
use Rattle.bi_fit.specs.Kept.{PlacedPayload, IsKept, IsKeptOf}
use Rattle.bi_fit.specs.KnownFiles.{plain_tree, position_file, three_aligned, three_external}
use Rattle.bi_fit.specs.KnownFiles.{three_tree}

-- What texts in the form External keep of where the payloads of small files are, by which a reader
-- can judge the definitions.

-- What is said: the alignment that is lost, and how many fixed positions are.
abbrev pub kept : Option ℕ → ℕ → Kept
kept alignment positions = record {
  signatures = 0;
  lost_alignment = alignment;
  lost_positions = positions;
}

-- Three files. `mkimage -E -B 0x1000` places payloads as the first has them, at 4096 and 8192: they
-- lose their alignment, but not in another form than External. A payload that `data-position`
-- gives, at 180, loses its position. The payloads of a text in the form External lose nothing.
pub record KeptOfFilesIsKnown : Type 0 where
  pub aligned :
      IsKept External (three_aligned 4096 4096) three_tree three_tree (kept (Some 4096) 0)
  pub embedded : IsKept Embedded (three_aligned 4096 4096) three_tree three_tree (kept None 0)
  pub still_aligned : (align : Align)
      → IsKept (Aligned align) (three_aligned 4096 4096) three_tree three_tree (kept None 0)
  pub position :
      IsKept External position_file (plain_tree (codes "a" ∷ []) (Some (codes "new") ∷ []))
      (plain_tree (codes "a" ∷ []) (Some (codes "new") ∷ []))
      (kept None 1)
  pub nothing : IsKept External three_external three_tree three_tree (kept None 0)

-- A payload at this offset in a file, and at this one in the text.
abbrev pub moved_payload : (old new : ℕ) → (position : Bool) → PlacedPayload
moved_payload old new position = record {
  old_offset = old;
  new_offset = new;
  has_position = position;
}

-- Payloads by their offsets: each power of two up to 1048576 may be lost, and no greater one is.
-- All payloads of the file count, and one that is not aligned in the text is enough. Where there is
-- no payload, none is lost. Nothing else may be said of the same payloads.
pub record KeptOfPayloadsIsKnown : Type 0 where
  pub eight : IsKeptOf (moved_payload 8 4 false ∷ []) (kept (Some 8) 0)
  pub greatest : IsKeptOf (moved_payload (3 * 0x100000) 244 false ∷ []) (kept (Some 0x100000) 0)
  pub no_greater : IsKeptOf (moved_payload 0x400000 244 false ∷ []) (kept (Some 0x100000) 0)
  pub least_of_two :
      IsKeptOf (moved_payload 0x2000 0x1000 true ∷ moved_payload 0x3000 0x1800 false ∷ [])
      (kept (Some 0x1000) 1)
  pub kept_in_text :
      IsKeptOf (moved_payload 0x2000 0x4000 true ∷ moved_payload 0x3000 0x1000 true ∷ [])
      (kept None 2)
  pub no_payload : IsKeptOf [] (kept None 0)
  pub only : (placed : List PlacedPayload) (one other : Kept)
      → IsKeptOf placed one → IsKeptOf placed other
      → (one.lost_alignment ≡ other.lost_alignment) × (one.lost_positions ≡ other.lost_positions)
