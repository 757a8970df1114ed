use Rattle.std.specs.Prelude.{ℕ, ◌<◌, ◌≤◌, ◌≡◌, List, length}
use Rattle.bi_base.specs.declared.fault.Fault.{Fault}
use Rattle.bi_base.specs.declared.fault.Cause.TheVariants.{Truncated, BadMagic}
use Rattle.bi_base.specs.Cells.{u32_at}
use Rattle.bi_blob.specs.Blob.{blob_magic}
use Rattle.bi_legacy.specs.File.{legacy_magic}
use Rattle.bi_norm.specs.declared.kind.Kind.{Kind}
use Rattle.bi_norm.specs.declared.kind.Kind.TheVariants.{Legacy, Fit}

-- The kinds of boot images, by the first four bytes of a file.

-- The magic number of a kind (U-Boot, include/image.h: IH_MAGIC; Devicetree Specification, 5.2:
-- magic).
abbrev pub magic_of : Kind → ℕ
magic_of Legacy = legacy_magic
magic_of Fit = blob_magic

-- The file begins with the magic number of this kind.
pub record BeginsAs (file : List ℕ) (kind : Kind) : Type 0 where
  pub whole : 4 ≤ length file
  pub magic : u32_at file 0 ≡ magic_of kind

-- The fault of a file without a kind: it has fewer than four bytes, or it does not begin with the
-- magic number of a kind (profile of this project).
pub data IsKindFault (file : List ℕ) (fault : Fault) : Type 0 where
  TooShort : length file < 4 → fault ≡ record { cause = Truncated; offset = 0 }
      → IsKindFault file fault
  OfNoKind : 4 ≤ length file → ((kind : Kind) → ¬ (BeginsAs file kind))
      → fault ≡ record { cause = BadMagic; offset = 0 } → IsKindFault file fault
