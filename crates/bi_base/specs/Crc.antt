use Rattle.std.specs.Prelude.{◌≡◌, ℕ, ◌-◌, ◌/◌, ◌%◌, ◌==◌, if◌then◌else◌, zero, suc}
use Rattle.std.specs.Prelude.{List, [], ◌∷◌, ◌++◌, fold}
use Rattle.std.specs.Int.Bits.{bit_xor}
use Rattle.std.specs.List.{flat_map}

-- CRC-32 in U-Boot's images: the reflected form of the polynomial 0x04C11DB7 (ISO/IEC 3309,
-- RFC 1952, chapter 8).

-- The register after one more message bit.
abbrev pub crc_bit : ℕ → ℕ → ℕ
crc_bit register bit =
    if register % 2 == bit then register / 2 else bit_xor (register / 2) 0xEDB88320

-- The `n` lowest bits of a number, the lowest first.
unfoldable pub low_bits : ℕ → ℕ → List ℕ
low_bits zero number = []
low_bits (suc n) number = number % 2 ∷ low_bits n (number / 2)

-- The message bits of these bytes: bytes in order, the lowest bit of each first.
abbrev pub message_bits : List ℕ → List ℕ
message_bits bytes = flat_map (low_bits 8) bytes

-- The register after these bytes, from this register.
unfoldable pub crc_after : ℕ → List ℕ → ℕ
crc_after register bytes = fold crc_bit register (message_bits bytes)

-- The CRC-32 of these bytes: the register begins with all bits set, and the result is its
-- complement.
unfoldable pub crc32 : List ℕ → ℕ
crc32 bytes = 0xFFFFFFFF - crc_after 0xFFFFFFFF bytes

-- The law that the register after one piece and then another is the register after both together.
abbrev pub SameForEveryCut : Type 0
SameForEveryCut =
    (register : ℕ) (first second : List ℕ)
    → crc_after register (first ++ second) ≡ crc_after (crc_after register first) second
