use Rattle.std.proofs.Common.{ℕ, ◌<◌, ◌^◌, ◌%◌, List, ◌∷◌, arith, rules}
use Rattle.std.specs.Int.{to_be_bytes, to_le_bytes, w32, w64}
use Rattle.bi_base.specs.Cells.{AreBytes}
use Rattle.bi_base.proofs.ByteLists.{AreBytes-none, AreBytes-cons}

-- Proves that the bytes of a word are bytes.

-- A remainder by 256 before bytes makes bytes.
AreBytes-remainder : (n : ℕ) (bytes : List ℕ) → AreBytes bytes → AreBytes (n % 256 ∷ bytes)
AreBytes-remainder n bytes later = let small : n % 256 < 2 ^ 8 = omega arith in AreBytes-cons (n % 256) bytes small later

-- The four bytes of a word, the highest first.
pub AreBytes-be_word : (n : ℕ) → AreBytes (to_be_bytes w32 n)
AreBytes-be_word n = search (rules, AreBytes-remainder, AreBytes-none)

-- The four bytes of a word, the lowest first.
pub AreBytes-le_word : (n : ℕ) → AreBytes (to_le_bytes w32 n)
AreBytes-le_word n = search (rules, AreBytes-remainder, AreBytes-none)

-- The eight bytes of a word of 64 bits, the highest first.
pub AreBytes-be_long : (n : ℕ) → AreBytes (to_be_bytes w64 n)
AreBytes-be_long n = search (rules, AreBytes-remainder, AreBytes-be_word)
