use Rattle.std.proofs.Common.{◌≡◌, ℕ, zero, suc, ◌+◌, ◌-◌, ◌*◌, ◌/◌, ◌%◌, ◌^◌, ◌<◌, ◌==◌, Bool, true, false, cond, if◌then◌else◌, List, []}
use Rattle.std.proofs.Common.{◌∷◌, length, get_or, replicate, take, drop, take-add, fold, slice_index, refl, sym, ap, ◌∙◌, arith}
use Rattle.std.proofs.Common.{append-nil, bit_xor}
use native.Mathlib.Nat.{pow-suc, div-one, div-div-eq-div-mul}
use lib.Bits.{xor_assoc, xor_comm, xor_zero_r, xor_shr, xor_mod, xor_shifted, shifted_half, shifted_even}
use Rattle.std.specs.Int.{w128, from_le_bytes, byte_at, bytes_low_first}
use Rattle.std.proofs.lemmas.Nat.{pow-add}
use Rattle.std.proofs.lemmas.List.Sums.{fold-append}
use Rattle.std.proofs.lemmas.List.{replicate-append-replicate, take-append-drop}
use Rattle.std.specs.Simd.{first_chunks}
use Rattle.bi_base.specs.Crc.{crc_bit, crc_after, low_bits}
use Rattle.bi_base.specs.CrcTables.{after_zeros, table_entry}
use Rattle.bi_base.proofs.CrcLaws.{crc_after-append}

-- Proves that the register after bytes is what the sixteen tables compute: for sixteen bytes at a time, and for one byte.

-- The xor of two pairs is the xor of their first numbers with the xor of their second numbers.
xor_swap : (a b c d : ℕ) → bit_xor (bit_xor a b) (bit_xor c d) ≡ bit_xor (bit_xor a c) (bit_xor b d)
xor_swap a b c d =
    xor_assoc a b (bit_xor c d)
    ∙ ap (bit_xor a) (sym (xor_assoc b c d) ∙ ap (λ (x : ℕ). bit_xor x d) (xor_comm b c) ∙ xor_assoc c b d)
    ∙ sym (xor_assoc a c (bit_xor b d))

-- The feedback of the register's lowest bit.
abbrev feedback : ℕ → ℕ
feedback bit = if bit == 0 then 0 else 0xEDB88320

-- The step of a message bit 0: half of the register, xored with the feedback of its lowest bit.
chosen : (b : Bool) (n : ℕ) → cond b n (bit_xor n 0xEDB88320) ≡ bit_xor n (cond b 0 0xEDB88320)
chosen true n = sym (xor_zero_r n)
chosen false n = refl

crc_bit-sum : (register : ℕ) → crc_bit register 0 ≡ bit_xor (register / 2) (feedback (register % 2))
crc_bit-sum register = chosen (register % 2 == 0) (register / 2)

feedback-xor : (a b : ℕ) → a < 2 → b < 2 → feedback (bit_xor a b) ≡ bit_xor (feedback a) (feedback b)
feedback-xor zero zero p q = refl
feedback-xor zero (suc zero) p q = refl
feedback-xor (suc zero) zero p q = refl
feedback-xor (suc zero) (suc zero) p q = refl
feedback-xor zero (suc (suc b)) p q = omega arith
feedback-xor (suc zero) (suc (suc b)) p q = omega arith
feedback-xor (suc (suc a)) b p q = omega arith

-- The step of a message bit 0 is linear.
crc_bit-xor : (a b : ℕ) → crc_bit (bit_xor a b) 0 ≡ bit_xor (crc_bit a 0) (crc_bit b 0)
crc_bit-xor a b =
    crc_bit-sum (bit_xor a b)
    ∙ ap (λ (n : ℕ). bit_xor n (feedback (bit_xor a b % 2))) (xor_shr a b 1)
    ∙ ap (bit_xor (bit_xor (a / 2) (b / 2))) (ap feedback (xor_mod a b 1) ∙ feedback-xor (a % 2) (b % 2) (omega arith) (omega arith))
    ∙ xor_swap (a / 2) (b / 2) (feedback (a % 2)) (feedback (b % 2))
    ∙ ap (λ (n : ℕ). bit_xor n (bit_xor (b / 2) (feedback (b % 2)))) (sym (crc_bit-sum a))
    ∙ ap (bit_xor (crc_bit a 0)) (sym (crc_bit-sum b))

-- A message bit equals the register's lowest bit if and only if their xor is 0.
bit_matches : (low bit : ℕ) → low < 2 → bit < 2 → (low == bit) ≡ (bit_xor low bit == 0)
bit_matches zero zero p q = refl
bit_matches zero (suc zero) p q = refl
bit_matches (suc zero) zero p q = refl
bit_matches (suc zero) (suc zero) p q = refl
bit_matches zero (suc (suc b)) p q = let no : ⊥ = omega arith in absurd no
bit_matches (suc zero) (suc (suc b)) p q = let no : ⊥ = omega arith in absurd no
bit_matches (suc (suc a)) b p q = let no : ⊥ = omega arith in absurd no

-- The step of a message bit is that of a message bit 0, after the bit is xored into the register.
crc_bit-added : (register bit : ℕ) → bit < 2 → crc_bit register bit ≡ crc_bit (bit_xor register bit) 0
crc_bit-added register bit small =
    let none : bit / 2 ≡ 0 = omega arith in
    let all : bit % 2 ≡ bit = omega arith in
    let high : bit_xor register bit / 2 ≡ register / 2 =
    xor_shr register bit 1 ∙ ap (bit_xor (register / 2)) none ∙ xor_zero_r (register / 2) in
    let low : bit_xor register bit % 2 ≡ bit_xor (register % 2) bit =
    xor_mod register bit 1 ∙ ap (bit_xor (register % 2)) all in
    let test : (register % 2 == bit) ≡ (bit_xor register bit % 2 == 0) =
    bit_matches (register % 2) bit (omega arith) small ∙ ap (λ (n : ℕ). n == 0) (sym low) in
    λ i. cond (test i) (sym high i) (bit_xor (sym high i) 0xEDB88320)

-- The steps of several message bits 0 are linear.
zeros-xor : (n a b : ℕ) → after_zeros n (bit_xor a b) ≡ bit_xor (after_zeros n a) (after_zeros n b)
unfolding after_zeros
zeros-xor zero a b = refl
zeros-xor (suc n) a b = ap (after_zeros n) (crc_bit-xor a b) ∙ zeros-xor n (crc_bit a 0) (crc_bit b 0)

-- The step of a message bit 0 halves an even register.
crc_bit-even : (n k : ℕ) → crc_bit (n * 2 ^ suc k) 0 ≡ n * 2 ^ k
crc_bit-even n k =
    let test : (n * 2 ^ suc k % 2 == 0) ≡ true = ap (λ (low : ℕ). low == 0) (shifted_even n k) in
    ap (λ (b : Bool). cond b (n * 2 ^ suc k / 2) (bit_xor (n * 2 ^ suc k / 2) 0xEDB88320)) test ∙ shifted_half n k

-- Where the `k` lowest bits of the register are 0, the steps of `k` message bits 0 shift it right.
zeros-shift : (n k : ℕ) → after_zeros k (n * 2 ^ k) ≡ n
unfolding after_zeros
zeros-shift n zero = omega arith
zeros-shift n (suc k) = ap (after_zeros k) (crc_bit-even n k) ∙ zeros-shift n k

-- The steps of message bits are those of message bits 0, after the bits are xored into the register.
low_bits-added : (n register number : ℕ) → number < 2 ^ n
    → fold crc_bit register (low_bits n number) ≡ after_zeros n (bit_xor register number)
unfolding after_zeros low_bits
low_bits-added zero register number small =
    let none : number ≡ 0 = omega arith in sym (ap (bit_xor register) none ∙ xor_zero_r register)
low_bits-added (suc n) register number small =
    let low = number % 2 in
    let high = number / 2 in
    let lead : crc_bit (high * 2 ^ 1) 0 ≡ high = crc_bit-even high 0 ∙ omega arith in
    let parts : bit_xor (bit_xor register low) (high * 2 ^ 1) ≡ bit_xor register number =
    xor_assoc register low (high * 2 ^ 1)
    ∙ ap (bit_xor register) (xor_comm low (high * 2 ^ 1) ∙ xor_shifted high 1 low (omega arith) ∙ omega arith) in
    let first : bit_xor (crc_bit register low) high ≡ crc_bit (bit_xor register number) 0 =
    (λ i. bit_xor (crc_bit-added register low (omega arith) i) (sym lead i))
    ∙ sym (crc_bit-xor (bit_xor register low) (high * 2 ^ 1)) ∙ ap (λ (r : ℕ). crc_bit r 0) parts in
    low_bits-added n (crc_bit register low) high (omega (arith, pow-suc 2 n)) ∙ ap (after_zeros n) first

-- The register after one byte, and after one byte and others.
crc_after-byte : (register byte : ℕ) → byte < 2 ^ 8 → crc_after register (byte ∷ []) ≡ after_zeros 8 (bit_xor register byte)
unfolding crc_after
crc_after-byte register byte small =
    ap (fold crc_bit register) (append-nil (low_bits 8 byte)) ∙ low_bits-added 8 register byte small

crc_after-cons : (register byte : ℕ) (bytes : List ℕ) → byte < 2 ^ 8
    → crc_after register (byte ∷ bytes) ≡ crc_after (after_zeros 8 (bit_xor register byte)) bytes
crc_after-cons register byte bytes small =
    crc_after-append register (byte ∷ []) bytes ∙ ap (λ (r : ℕ). crc_after r bytes) (crc_after-byte register byte small)

-- The steps of eight message bits 0, by those from only the lowest byte.
zeros-byte : (register : ℕ) → after_zeros 8 register ≡ bit_xor (register / 256) (after_zeros 8 (register % 256))
zeros-byte register =
    let parts : register ≡ bit_xor (register / 256 * 2 ^ 8) (register % 256) =
    sym (xor_shifted (register / 256) 8 (register % 256) (omega arith) ∙ omega arith) in
    ap (after_zeros 8) parts
    ∙ zeros-xor 8 (register / 256 * 2 ^ 8) (register % 256)
    ∙ ap (λ (n : ℕ). bit_xor n (after_zeros 8 (register % 256))) (zeros-shift (register / 256) 8)

-- The steps of `m` and then `n` message bits 0.
zeros-add : (m n register : ℕ) → after_zeros n (after_zeros m register) ≡ after_zeros (m + n) register
unfolding after_zeros
zeros-add m n register =
    sym (fold-append crc_bit register (replicate m 0) (replicate n 0))
    ∙ ap (fold crc_bit register) (replicate-append-replicate m n 0)

-- Entry `i` of table `k` is the register `i` after eight message bits 0, and `8 * k` more.
table_entry-zeros : (k i : ℕ) → table_entry k i ≡ after_zeros (8 * k) (after_zeros 8 i)
unfolding table_entry after_zeros
table_entry-zeros zero i = refl
table_entry-zeros (suc k) i =
    sym (zeros-byte (table_entry k i))
    ∙ ap (after_zeros 8) (table_entry-zeros k i)
    ∙ zeros-add (8 * k) 8 (after_zeros 8 i)
    ∙ (let steps : 8 * k + 8 ≡ 8 * suc k = omega arith in ap (λ (n : ℕ). after_zeros n (after_zeros 8 i)) steps)

-- The steps of `8 * (k + 1)` message bits 0: the lowest byte selects an entry of table `k`, and `8 * k` are left for the others.
zeros-entry : (k register : ℕ)
    → after_zeros (8 * suc k) register ≡ bit_xor (table_entry k (register % 256)) (after_zeros (8 * k) (register / 256))
zeros-entry k register =
    let high = register / 256 in
    let low = register % 256 in
    ap (λ (n : ℕ). after_zeros n register) (omega arith)
    ∙ sym (zeros-add 8 (8 * k) register)
    ∙ ap (after_zeros (8 * k)) (zeros-byte register)
    ∙ zeros-xor (8 * k) high (after_zeros 8 low)
    ∙ ap (bit_xor (after_zeros (8 * k) high)) (sym (table_entry-zeros k low))
    ∙ xor_comm (after_zeros (8 * k) high) (table_entry k low)

-- Byte `i` of a number, and of its bytes in order.
byte_at-quotient : (i number : ℕ) → byte_at i number ≡ number / 256 ^ i % 256
byte_at-quotient zero number = ap (λ (n : ℕ). n % 256) (sym (div-one number))
byte_at-quotient (suc i) number = refl

pub get_or-bytes : (first count number i place : ℕ) → i < count → place ≡ first + i
    → get_or (bytes_low_first first count number) i 0 ≡ number / 256 ^ place % 256
get_or-bytes first zero number i place small at = let no : ⊥ = omega arith in absurd no
get_or-bytes first (suc count) number zero place small at =
    let same : first ≡ place = omega arith in byte_at-quotient first number ∙ ap (λ (n : ℕ). number / 256 ^ n % 256) same
get_or-bytes first (suc count) number (suc i) place small at = get_or-bytes (suc first) count number i place (omega arith) (omega arith)

-- The xor of the entries of `i` bytes of a number, with the register that the other bytes give.
abbrev pub with_rest : ℕ → ℕ → ℕ → ℕ
with_rest number i entries = bit_xor entries (after_zeros (8 * (16 - i)) (number / 256 ^ i))

-- With no entries it is the register after all 128 message bits 0.
pub with_rest-first : (number : ℕ) → with_rest number 0 0 ≡ after_zeros 128 number
with_rest-first number = xor_comm 0 (after_zeros 128 (number / 1)) ∙ xor_zero_r (after_zeros 128 (number / 1))
    ∙ ap (after_zeros 128) (div-one number)

-- It stays the same when the entry of the next byte is added.
pub with_rest-next : (number i entries : ℕ) → i < 16
    → with_rest number (i + 1) (bit_xor entries (table_entry (15 - i) (number / 256 ^ i % 256))) ≡ with_rest number i entries
with_rest-next number i entries small =
    let high = number / 256 ^ i in
    let entry = table_entry (15 - i) (high % 256) in
    let rest : number / 256 ^ (i + 1) ≡ high / 256 =
    ap (λ (n : ℕ). number / n) (pow-add 256 i 1) ∙ sym (div-div-eq-div-mul number (256 ^ i) 256) in
    let fewer : 8 * (16 - (i + 1)) ≡ 8 * (15 - i) = omega arith in
    let more : 8 * suc (15 - i) ≡ 8 * (16 - i) = omega arith in
    xor_assoc entries entry (after_zeros (8 * (16 - (i + 1))) (number / 256 ^ (i + 1)))
    ∙ ap (bit_xor entries) ((λ j. bit_xor entry (after_zeros (fewer j) (rest j))) ∙ sym (zeros-entry (15 - i) high)
    ∙ ap (λ (n : ℕ). after_zeros n high) more)

-- With the entries of all bytes, no register is left.
pub with_rest-last : (number entries : ℕ) → number < 2 ^ 128 → with_rest number 16 entries ≡ entries
unfolding after_zeros
with_rest-last number entries small =
    let none : number / 256 ^ 16 ≡ 0 = omega arith in ap (bit_xor entries) none ∙ xor_zero_r entries

-- A number that is xored into the register after `n` steps can be xored in before them, shifted left.
zeros-added : (n register number : ℕ) → bit_xor (after_zeros n register) number ≡ after_zeros n (bit_xor register (number * 2 ^ n))
zeros-added n register number =
    ap (bit_xor (after_zeros n register)) (sym (zeros-shift number n)) ∙ sym (zeros-xor n register (number * 2 ^ n))

-- The number of `n` bytes, the lowest first.
abbrev number_of : ℕ → (ℕ → ℕ) → ℕ
number_of zero byte = 0
number_of (suc n) byte = number_of n (λ i. byte (suc i)) * 2 ^ 8 + byte 0

-- The register after bytes: their number is xored into the register, and eight message bits 0 follow for each byte.
crc_after-zeros : (register : ℕ) (bytes : List ℕ) → ((i : ℕ) → get_or bytes i 0 < 2 ^ 8)
    → crc_after register bytes ≡ after_zeros (8 * length bytes) (bit_xor register (number_of (length bytes) (slice_index bytes)))
unfolding crc_after after_zeros
crc_after-zeros register [] small = sym (xor_zero_r register)
crc_after-zeros register (byte ∷ bytes) small =
    let high = number_of (length bytes) (slice_index bytes) in
    let count = 8 * length bytes in
    let first = bit_xor register byte in
    let steps : 8 + count ≡ 8 * suc (length bytes) = omega arith in
    let sum : bit_xor first (high * 2 ^ 8) ≡ bit_xor register (high * 2 ^ 8 + byte) =
    xor_assoc register byte (high * 2 ^ 8) ∙ ap (bit_xor register) (xor_comm byte (high * 2 ^ 8) ∙ xor_shifted high 8 byte (small 0)) in
    crc_after-cons register byte bytes (small 0)
    ∙ crc_after-zeros (after_zeros 8 first) bytes (λ i. small (suc i))
    ∙ ap (after_zeros count) (zeros-added 8 first high)
    ∙ zeros-add 8 count (bit_xor first (high * 2 ^ 8))
    ∙ (λ i. after_zeros (steps i) (sum i))

-- The register after sixteen bytes, by their number.
pub crc_after-sixteen : (register : ℕ) (bytes : List ℕ) → length bytes ≡ 16 → ((i : ℕ) → get_or bytes i 0 < 2 ^ 8)
    → crc_after register bytes ≡ after_zeros 128 (bit_xor register (from_le_bytes w128 bytes))
crc_after-sixteen register bytes sixteen small =
    let number : number_of 16 (slice_index bytes) ≡ from_le_bytes w128 bytes = omega arith in
    crc_after-zeros register bytes small
    ∙ ap (λ (n : ℕ). after_zeros (8 * n) (bit_xor register (number_of n (slice_index bytes)))) sixteen
    ∙ ap (λ (n : ℕ). after_zeros 128 (bit_xor register n)) number

-- The register after one byte, by the first table.
pub byte_by_table : (register byte : ℕ) → byte < 2 ^ 8
    → bit_xor (register / 256) (table_entry 0 (bit_xor (register % 256) byte)) ≡ crc_after register (byte ∷ [])
unfolding after_zeros
byte_by_table register byte small =
    let none : byte / 256 ≡ 0 = omega arith in
    let all : byte % 256 ≡ byte = omega arith in
    let high : bit_xor register byte / 256 ≡ register / 256 =
    xor_shr register byte 8 ∙ ap (bit_xor (register / 256)) none ∙ xor_zero_r (register / 256) in
    let low : bit_xor register byte % 256 ≡ bit_xor (register % 256) byte =
    xor_mod register byte 8 ∙ ap (bit_xor (register % 256)) all in
    ap (bit_xor (register / 256)) (table_entry-zeros 0 (bit_xor (register % 256) byte))
    ∙ (λ i. bit_xor (sym high i) (after_zeros 8 (sym low i)))
    ∙ sym (crc_after-byte register byte small ∙ zeros-byte (bit_xor register byte))

-- The register after groups of sixteen bytes is the register after their bytes.
crc_after-chunks : (k register : ℕ) (bytes : List ℕ)
    → fold crc_after register (first_chunks 16 k bytes) ≡ crc_after register (take (k * 16) bytes)
unfolding crc_after
crc_after-chunks zero register bytes = refl
crc_after-chunks (suc k) register bytes =
    crc_after-chunks k (crc_after register (take 16 bytes)) (drop 16 bytes)
    ∙ sym (crc_after-append register (take 16 bytes) (take (k * 16) (drop 16 bytes)))
    ∙ ap (crc_after register) (sym (take-add 16 (k * 16) bytes) ∙ ap (λ (n : ℕ). take n bytes) (omega arith))

-- The register after groups of sixteen bytes and then the rest is the register after all bytes.
pub crc_after-groups : (k register : ℕ) (bytes : List ℕ)
    → crc_after (fold crc_after register (first_chunks 16 k bytes)) (drop (k * 16) bytes) ≡ crc_after register bytes
crc_after-groups k register bytes =
    ap (λ (r : ℕ). crc_after r (drop (k * 16) bytes)) (crc_after-chunks k register bytes)
    ∙ sym (crc_after-append register (take (k * 16) bytes) (drop (k * 16) bytes))
    ∙ ap (crc_after register) (take-append-drop (k * 16) bytes)
