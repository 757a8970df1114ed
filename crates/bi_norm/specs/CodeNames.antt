use Rattle.std.specs.Prelude.{◌≡◌}
use Rattle.bi_legacy.specs.Codes.{os_names, arch_names, compression_names}
use Rattle.bi_legacy.specs.Meaning.{LegacyImage}
use Rattle.bi_norm.specs.declared.converting.images.CodeNames.{CodeNames}
use Rattle.bi_norm.specs.Converting.{code_name}

-- The names of the codes of a legacy image (U-Boot, include/image.h).

-- These are the names of the operating system, the architecture and the compression. The type is
-- given by the keys.
pub record AreCodeNames (image : LegacyImage) (names : CodeNames) : Type 0 where
  pub os : names.os.now ≡ code_name os_names image.os
  pub arch : names.arch.now ≡ code_name arch_names image.arch
  pub compression : names.compression.now ≡ code_name compression_names image.compression
