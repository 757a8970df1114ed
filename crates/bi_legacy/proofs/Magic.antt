use Rattle.std.proofs.Common.{◌∷◌, ℕ, List, arith, subst, sym, refl}
use Rattle.bi_base.specs.Cells.{cell, u32_at}
use Rattle.bi_legacy.specs.Meaning.{LegacyImage}
use Rattle.bi_legacy.specs.File.{BeginsWithMagic, IsLegacyFile, header}
use Rattle.bi_legacy.specs.Text.{legacy_text}

-- A legacy image begins with the magic number, and so does a normal text.

-- These four bytes are the magic number.
bytes_begin : (bytes : List ℕ) → BeginsWithMagic (0x27 ∷ 0x05 ∷ 0x19 ∷ 0x56 ∷ bytes)
unfolding u32_at
bytes_begin bytes = record { whole = omega arith; magic = refl }

-- A legacy image begins with the magic number.
pub file_begins : (file : List ℕ) (image : LegacyImage) → IsLegacyFile file image → BeginsWithMagic file
unfolding header cell
file_begins file image is = subst BeginsWithMagic (sym is.file_is) (bytes_begin _)

-- A normal text begins with the magic number.
pub text_begins : (image : LegacyImage) → BeginsWithMagic (legacy_text image)
unfolding legacy_text header cell
text_begins image = bytes_begin _
