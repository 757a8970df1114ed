use Rattle.std.specs.Prelude.{ℕ, ◌+◌, ◌≤◌, ⊤, List, [], ◌∷◌, Option, None, Some, length}
use Rattle.bi_base.specs.Cells.{u32_at}
use Rattle.bi_fit.specs.Content.{tree_of}
use Rattle.bi_norm.specs.declared.image.BootImage.{BootImage}
use Rattle.bi_norm.specs.declared.image.BootImage.TheVariants.{Legacy, Fit}
use Rattle.bi_norm.specs.Meaning.{OfFit, OfLegacy}
use Rattle.bi_report.specs.ReadChecking.{end_of_read_payloads}
use Rattle.bi_report.specs.declared.scan.images.ScannedImage.{ScannedImage as ImageValue}
use Rattle.bi_report.specs.declared.scan.images.ScannedKind.{ScannedKind as KindValue}
use Rattle.bi_report.specs.declared.scan.images.ScannedKind.TheVariants as kind
use Rattle.bi_report.specs.Scanning.{LegacyNamed, ScannedImage, ScannedKind, TreeOf, scanned_image}

-- Images that a scan finds, as the code has them.

-- A kind.
abbrev pub kind_value : KindValue → ScannedKind
kind_value (kind.Legacy name) = LegacyNamed name.now
kind_value (kind.Fit images) = TreeOf images

-- An image.
abbrev pub scanned_image_value : ImageValue → ScannedImage
scanned_image_value image =
    record { offset = image.offset; extent = image.extent; kind = kind_value image.kind }

-- An image that there may be.
abbrev pub image_or_none : Option ImageValue → List ScannedImage
image_or_none None = []
image_or_none (Some image) = scanned_image_value image ∷ []

-- The image that was read of these bytes, which begin at this offset.
abbrev pub scanned_image_read : (offset : ℕ) → (bytes : List ℕ) → BootImage → ScannedImage
scanned_image_read offset bytes (Legacy parsed) =
    scanned_image offset (64 + u32_at bytes 12) (OfLegacy parsed.image)
scanned_image_read offset bytes (Fit content) =
    scanned_image offset (end_of_read_payloads content.blob.total_size content.images)
    (OfFit (tree_of content))

-- If it is a legacy image, these bytes have its whole header.
abbrev pub HasHeaderOf : (bytes : List ℕ) → BootImage → Type 0
HasHeaderOf bytes (Legacy parsed) = 64 ≤ length bytes
HasHeaderOf bytes (Fit content) = ⊤
