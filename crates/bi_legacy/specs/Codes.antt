use Rattle.std.specs.Prelude.{ℕ, ◌==◌, List, [], ◌∷◌, Option, None, Some, codes, if◌then◌else◌}

-- The names of codes in a legacy header (U-Boot, include/image.h: IH_OS_*, IH_ARCH_*, IH_TYPE_*,
-- IH_COMP_*). Which codes have a name here is profile of this project.

-- A code and its name.
pub record CodeName : Type 0 where
  pub code : ℕ
  pub name : List ℕ

-- The operating systems with names (U-Boot, include/image.h: IH_OS_*).
abbrev pub os_names : List CodeName
os_names =
    record { code = 2; name = codes "netbsd" }
    ∷ record { code = 5; name = codes "linux" }
    ∷ record { code = 14; name = codes "vxworks" }
    ∷ record { code = 17; name = codes "u-boot" } ∷ []

-- The processor architectures with names (U-Boot, include/image.h: IH_ARCH_*).
abbrev pub arch_names : List CodeName
arch_names =
    record { code = 2; name = codes "arm" }
    ∷ record { code = 3; name = codes "x86" }
    ∷ record { code = 5; name = codes "mips" }
    ∷ record { code = 7; name = codes "ppc" }
    ∷ record { code = 22; name = codes "arm64" }
    ∷ record { code = 24; name = codes "x86_64" }
    ∷ record { code = 26; name = codes "riscv" } ∷ []

-- The image types with names (U-Boot, include/image.h: IH_TYPE_*).
abbrev pub type_names : List CodeName
type_names =
    record { code = 1; name = codes "standalone" }
    ∷ record { code = 2; name = codes "kernel" }
    ∷ record { code = 3; name = codes "ramdisk" }
    ∷ record { code = 4; name = codes "multi" }
    ∷ record { code = 5; name = codes "firmware" }
    ∷ record { code = 6; name = codes "script" }
    ∷ record { code = 8; name = codes "flat_dt" } ∷ []

-- The compressions with names (U-Boot, include/image.h: IH_COMP_*).
abbrev pub compression_names : List CodeName
compression_names =
    record { code = 0; name = codes "none" }
    ∷ record { code = 1; name = codes "gzip" }
    ∷ record { code = 2; name = codes "bzip2" }
    ∷ record { code = 3; name = codes "lzma" }
    ∷ record { code = 4; name = codes "lzo" }
    ∷ record { code = 5; name = codes "lz4" }
    ∷ record { code = 6; name = codes "zstd" } ∷ []

-- The name of a code in such a list, or None if it has none.
abbrev pub name_of_code : List CodeName → ℕ → Option (List ℕ)
name_of_code [] code = None
name_of_code (entry ∷ later) code =
    if entry.code == code then Some entry.name else name_of_code later code
