use Rattle.std.proofs.Common.{◌≡◌, ℕ, suc, ◌+◌, ◌-◌, ◌<◌, ◌≤◌, cond, List, [], ◌∷◌, ◌++◌, length, drop, refl}
use Rattle.std.proofs.Common.{sym, ap, subst, ◌∙◌, arith, rules}
use Rattle.std.specs.Prelude.{◌==◌}
use Rattle.std.specs.List.{before_first}
use Rattle.std.proofs.Math.Numerals.{one-add}
use Rattle.std.proofs.lemmas.Bool.{eqb-true, eqb-false, ne_eqb}
use Rattle.std.proofs.lemmas.List.{length-append, length-drop}
use Rattle.bi_blob.specs.Tree.{HasNoZero}
use Rattle.bi_blob.specs.Tokens.{IsNameAt, name_from}
use Rattle.bi_blob.specs.BlobFaults.{HasName}

-- Proves that at most one name is at an offset, and that it is the one that is read there.

-- The bytes before the first zero byte.
abbrev pub before_zero : List ℕ → List ℕ
before_zero bytes = before_first (λ byte. byte == 0) bytes

-- They are none where the first byte is zero, and else the first byte and those before the first zero of the rest.
pub before_zero-cons : (byte : ℕ) (rest : List ℕ) → before_zero (byte ∷ rest) ≡ cond (byte == 0) [] (byte ∷ before_zero rest)
before_zero-cons byte rest = search (rules, one-add)

-- A name is the bytes before the zero byte that ends it.
pub before_zero-name : (name rest : List ℕ) → HasNoZero name → before_zero (name ++ 0 ∷ rest) ≡ name
before_zero-name [] rest no_zero = refl
before_zero-name (byte ∷ name) rest no_zero = search (rules, before_zero-cons, ne_eqb, before_zero-name name rest no_zero.1)

-- The bytes before the first zero byte have none.
pub HasNoZero-before_zero : (bytes : List ℕ) → HasNoZero (before_zero bytes)
HasNoZero-before_zero [] = tt
HasNoZero-before_zero (byte ∷ rest) = search (rules, before_zero-cons, eqb-false, HasNoZero-before_zero rest)

-- Where these are not all bytes, a zero byte follows.
pub zero_after : (bytes : List ℕ) → length (before_zero bytes) < length bytes →
    bytes ≡ before_zero bytes ++ 0 ∷ drop (suc (length (before_zero bytes))) bytes
zero_after [] shorter = absurd (omega arith)
zero_after (byte ∷ rest) shorter = search (rules, before_zero-cons, eqb-true, zero_after rest)

-- The bytes before the first zero byte are at most all bytes.
pub length_before_zero : (bytes : List ℕ) → length (before_zero bytes) ≤ length bytes
length_before_zero [] = omega arith
length_before_zero (byte ∷ rest) = search (rules, before_zero-cons, length_before_zero rest)

-- Two names that end at a zero byte in one list are one name.
pub names_agree : (m n x y : List ℕ) → HasNoZero m → HasNoZero n → m ++ 0 ∷ x ≡ n ++ 0 ∷ y → m ≡ n
names_agree m n x y m_name n_name e = sym (before_zero-name m x m_name) ∙ ap before_zero e ∙ before_zero-name n y n_name

-- At most one name is at an offset.
pub one_name : (strings : List ℕ) (offset : ℕ) (m n : List ℕ) → IsNameAt strings offset m → IsNameAt strings offset n → m ≡ n
one_name strings offset m n one other = search (rules, names_agree)

-- A name at an offset is the one that is read there.
pub name_from-IsNameAt : (strings : List ℕ) (offset : ℕ) (name : List ℕ) → IsNameAt strings offset name → name_from strings offset ≡ name
name_from-IsNameAt strings offset name at = ap before_zero at.is_at ∙ before_zero-name name at.trailing at.no_zero

-- The zero byte of a name at an offset is before the end.
pub IsNameAt-within : (strings : List ℕ) (offset : ℕ) (name : List ℕ) → IsNameAt strings offset name → offset + length name < length strings
IsNameAt-within strings offset name at =
    let long : length (drop offset strings) ≡ length name + suc (length at.trailing) = ap length at.is_at ∙ simp length-append refl in
    search (rules, length-drop)

pub IsNameAt-HasName : (strings : List ℕ) (offset : ℕ) (name : List ℕ) → IsNameAt strings offset name →
    HasName strings offset (length strings)
IsNameAt-HasName strings offset name at =
    subst (λ read. offset + length read < length strings) (sym (name_from-IsNameAt strings offset name at))
    (IsNameAt-within strings offset name at)

-- A name is at an offset that a zero byte before an end follows.
pub HasName-IsNameAt : (bytes : List ℕ) (offset end : ℕ) → end ≤ length bytes → HasName bytes offset end →
    IsNameAt bytes offset (name_from bytes offset)
HasName-IsNameAt bytes offset end within has = record {
  no_zero = HasNoZero-before_zero (drop offset bytes);
  trailing = drop (suc (length (name_from bytes offset))) (drop offset bytes);
  is_at = zero_after (drop offset bytes) (rw (length-drop offset bytes) (omega arith));
}
