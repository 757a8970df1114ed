use Rattle.std.proofs.Common.{◌≡◌, ℕ, ◌/◌, ◌%◌, ◌<◌, suc, false, List, [], ◌∷◌, get_or, refl, ap₂, arith}
use Rattle.std.specs.Fmt.{digit_glyph}
use Rattle.std.specs.List.{flat_map, slice_index}
use Rattle.std.proofs.lemmas.List.FromFn.{get_or-map-range_with_len}
use Rattle.hex.specs.Hex.{encode_lower, encode_with, lower_digits}
use Rattle.bi_common.specs.Shown.{digits_of_byte}

-- Hexadecimal digits, as the crate `hex` gives them.

-- The digit of a number below 16 in a table.
digit_in_table : (d : ℕ) → d < 16 → slice_index lower_digits d ≡ digit_glyph false d
digit_in_table d small = get_or-map-range_with_len (digit_glyph false) 0 16 d d 0 small (omega arith)

-- The hexadecimal digits of bytes, as the crate `hex` gives them.
pub hex_of_bytes : (bytes : List ℕ) → ((k : ℕ) → get_or bytes k 0 < 256) → encode_lower bytes ≡ flat_map (digits_of_byte false) bytes
unfolding encode_with
hex_of_bytes [] are_bytes = refl
hex_of_bytes (byte ∷ later) are_bytes =
    let small : byte < 256 = are_bytes 0 in
    let high = digit_in_table (byte / 16) (omega arith) in
    let low = digit_in_table (byte % 16) (omega arith) in
    ap₂ (λ a bs. a ∷ bs) high (ap₂ (λ a bs. a ∷ bs) low (hex_of_bytes later (λ k. are_bytes (suc k))))
