use Rattle.std.proofs.Common.{refl}
use Rattle.bi_base.specs.Cells.{cell}
use Rattle.bi_base.specs.Crc.{crc32, crc_after, low_bits}
use Rattle.bi_legacy.specs.File.{header}
use Rattle.bi_legacy.specs.Text.{legacy_text}
use Rattle.bi_legacy.specs.KnownImages.{HasKernelText, HasMultiText, HasFirmwareText}

-- A kernel image, a multi-file image and a firmware image have known normal texts.

-- The normal text of a kernel image.
pub kernel_text : HasKernelText
unfolding legacy_text header cell crc32 crc_after low_bits
kernel_text = refl

-- The normal text of a multi-file image.
pub multi_text : HasMultiText
unfolding legacy_text header cell crc32 crc_after low_bits
multi_text = refl

-- The normal text of a firmware image.
pub firmware_text : HasFirmwareText
unfolding legacy_text header cell crc32 crc_after low_bits
firmware_text = refl
