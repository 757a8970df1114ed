use Rattle.std.specs.Prelude.{⊤}
use Rattle.bi_fit.specs.Content.{IsHeld}
use Rattle.bi_norm.specs.declared.image.BootImage.{BootImage}
use Rattle.bi_norm.specs.declared.image.BootImage.TheVariants.{Legacy, Fit}

-- Boot images that were read.

-- A boot image that was read. The images of a flattened image tree are those of its blob.
abbrev pub IsHeldImage : BootImage → Type 0
IsHeldImage (Legacy image) = ⊤
IsHeldImage (Fit content) = IsHeld content
