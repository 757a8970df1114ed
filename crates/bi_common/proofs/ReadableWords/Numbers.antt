use Rattle.std.proofs.Common.{◌≡◌, ℕ, zero, suc, ◌+◌, ◌/◌, ◌%◌, ◌<◌, ◌^◌, Bool, true, false, cond, eqb, ltb, List, [], ◌∷◌, ◌++◌, refl, sym}
use Rattle.std.proofs.Common.{ap, ◌∙◌, arith, codes, rules}
use Rattle.std.specs.Int.{from_be_bytes, w32}
use Rattle.std.specs.Fmt.{decimal, digits, digits_onto, digit_glyph}
use Rattle.std.specs.List.{AllByRecursion, flat_map, list_all}
use Rattle.std.proofs.lemmas.Bool.{lt-leb, ltb-true, and_parts, cond-true, lt-ltb}
use Rattle.std.proofs.lemmas.List.{append_cancel_left}
use Rattle.std.proofs.lemmas.Nat.{from_be_bytes-to_be_bytes_4}
use Rattle.bi_base.specs.Cells.{cell}
use Rattle.bi_blob.proofs.Blobs.Cells.{cell8_agree}
use Rattle.bi_common.specs.Shown.{digits_of_byte, hexadecimal}
use Rattle.bi_common.specs.Shown.{hexadecimal_64}
use Rattle.bi_common.proofs.ReadableWords.ShownNames.{glyph_above, same_digits}
use Rattle.bi_common.proofs.ReadableWords.WordLines.{IsBare, IsLaterWord}

-- Words of digits have no blank and no quote, and numbers are read back from their hexadecimal digits.

-- Each byte of this word is above the slash, as digits and letters are.
abbrev pub IsAbove : List ℕ → Type 0
IsAbove word = AllByRecursion (λ byte. 47 < byte) word

-- Bytes that pass the test.
pub above : (word : List ℕ) → list_all (λ byte. ltb 47 byte) word ≡ true → IsAbove word
above [] passes = tt
above (byte ∷ later) passes =
    let both = and_parts (ltb 47 byte) (list_all (λ byte. ltb 47 byte) later) passes in
    (ltb-true 47 byte both.0, above later both.1)

-- Such a word has no blank.
pub above_bare : (word : List ℕ) → IsAbove word → IsBare word
above_bare [] are = tt
above_bare (byte ∷ later) are = (let high = are.0 in lt-leb byte 32 (omega (arith, high)), above_bare later are.1)

-- It does not begin with a quote, so it may come after the first three.
pub above_later : (word : List ℕ) → IsAbove word → IsLaterWord word
above_later word are = search (rules, above_bare)

-- Two such words, one after the other.
pub above-append : (one other : List ℕ) → IsAbove one → IsAbove other → IsAbove (one ++ other)
above-append [] other are also = also
above-append (byte ∷ later) other are also = (are.0, above-append later other are.1 also)

-- Digits of a number before others.
digits_above : (count base n : ℕ) (upper : Bool) (later : List ℕ) → IsAbove later → IsAbove (digits_onto count base upper n later)
digits_above zero base n upper later are = are
digits_above (suc count) base n upper later are =
    where_last (eqb (n / base) 0)
    (digits_above count base (n / base) upper (digit_glyph upper (n % base) ∷ later) (glyph_above upper (n % base), are))
  where
    where_last : (b : Bool) → IsAbove (digits_onto count base upper (n / base) (digit_glyph upper (n % base) ∷ later)) →
        IsAbove (cond b (digit_glyph upper (n % base) ∷ later)
        (digits_onto count base upper (n / base) (digit_glyph upper (n % base) ∷ later)))
    where_last true others = (glyph_above upper (n % base), are)
    where_last false others = others

-- A decimal number.
pub decimal_above : (n : ℕ) → IsAbove (decimal n)
unfolding digits
decimal_above n = digits_above 64 10 n false [] tt

-- No byte of this word is after the digits.
abbrev pub AreDigits : List ℕ → Type 0
AreDigits word = AllByRecursion (λ byte. byte < 58) word

-- Decimal digits of a number before others.
digits_below : (count n : ℕ) (later : List ℕ) → AreDigits later → AreDigits (digits_onto count 10 false n later)
digits_below zero n later are = are
digits_below (suc count) n later are =
    where_last (eqb (n / 10) 0) (digits_below count (n / 10) (digit_glyph false (n % 10) ∷ later) (low (n % 10) (omega arith), are))
  where
    low : (d : ℕ) → d < 10 → digit_glyph false d < 58
    low d small =
        let is : digit_glyph false d ≡ 48 + d = cond-true (ltb d 10) (48 + d) (87 + d) (lt-ltb d 10 small) in omega (arith, is, small)

    where_last : (b : Bool) → AreDigits (digits_onto count 10 false (n / 10) (digit_glyph false (n % 10) ∷ later)) →
        AreDigits (cond b (digit_glyph false (n % 10) ∷ later) (digits_onto count 10 false (n / 10) (digit_glyph false (n % 10) ∷ later)))
    where_last true others = (low (n % 10) (omega arith), are)
    where_last false others = others

-- A decimal number.
pub decimal_below : (n : ℕ) → AreDigits (decimal n)
unfolding digits
decimal_below n = digits_below 64 n [] tt

-- The hexadecimal digits of bytes.
pub digits_of_bytes_above : (bytes : List ℕ) → IsAbove (flat_map (digits_of_byte false) bytes)
digits_of_bytes_above [] = tt
digits_of_bytes_above (byte ∷ later) = (glyph_above false (byte / 16), (glyph_above false (byte % 16), digits_of_bytes_above later))

-- The hexadecimal digits of bytes after `0x`.
pub prefixed_above : (bytes : List ℕ) → IsAbove (codes "0x" ++ flat_map (digits_of_byte false) bytes)
prefixed_above bytes =
    above-append (codes "0x") (flat_map (digits_of_byte false) bytes) (above (codes "0x") refl) (digits_of_bytes_above bytes)

-- Numbers of 32 bits with one cell are one number.
cell_agree : (m n : ℕ) → m < 2 ^ 32 → n < 2 ^ 32 → cell m ≡ cell n → m ≡ n
unfolding cell
cell_agree m n fits also same =
    sym (from_be_bytes-to_be_bytes_4 m fits) ∙ ap (from_be_bytes w32) same ∙ from_be_bytes-to_be_bytes_4 n also

-- A number of 32 bits is read back.
pub same_hexadecimal : (m n : ℕ) → m < 2 ^ 32 → n < 2 ^ 32 → hexadecimal m ≡ hexadecimal n → m ≡ n
same_hexadecimal m n fits also same = search (rules, cell_agree, same_digits, append_cancel_left)

-- A number of 64 bits is read back.
pub same_hexadecimal_64 : (m n : ℕ) → m < 2 ^ 64 → n < 2 ^ 64 → hexadecimal_64 m ≡ hexadecimal_64 n → m ≡ n
same_hexadecimal_64 m n fits also same = search (rules, cell8_agree, same_digits, append_cancel_left)
