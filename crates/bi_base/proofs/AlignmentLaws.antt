use Rattle.std.proofs.Common.{◌≡◌, ℕ, ◌+◌, ◌-◌, ◌*◌, ◌/◌, ◌%◌, ◌^◌, ◌<◌, ◌≤◌, refl, ap, ◌∙◌, arith}
use Rattle.std.proofs.Math.Nat.{mul-mod_left, mul-mod_right}
use Rattle.std.proofs.Math.Pow.{pow_mono}
use Rattle.std.proofs.lemmas.Nat.{div-add-mod', mod_below, pow-add}
use Rattle.bi_base.specs.Cells.{up_to}
use Rattle.bi_base.specs.Alignments.{IsAlignment}

-- What alignments are, and where what is aligned begins.

-- Four is an alignment.
pub IsAlignment-four : IsAlignment 4
IsAlignment-four = record { exponent = 2; least = omega arith; most = omega arith; is_power = refl }

-- An alignment is at least 4 and at most 1048576.
pub alignment-positive : (align : ℕ) → IsAlignment align → 4 ≤ align
alignment-positive align is = let least : 2 ^ 2 ≤ 2 ^ is.exponent = pow_mono is.least in omega (arith, is.is_power)

pub alignment-small : (align : ℕ) → IsAlignment align → align ≤ 0x100000
alignment-small align is = let most : 2 ^ is.exponent ≤ 2 ^ 20 = pow_mono is.most in omega (arith, is.is_power)

-- What is aligned begins no earlier,
pub up_to-le : (align n : ℕ) → 0 < align → n ≤ up_to align n
up_to-le align n positive =
    omega (arith, div-add-mod' (n + (align - 1)) align, mod_below (n + (align - 1)) align positive)

-- and less than the alignment later.
pub up_to-near : (align n : ℕ) → 0 < align → up_to align n < n + align
up_to-near align n positive = omega (arith, div-add-mod' (n + (align - 1)) align)

-- It begins at a multiple.
pub up_to-whole : (align n : ℕ) → up_to align n % align ≡ 0
up_to-whole align n = mul-mod_right align ((n + (align - 1)) / align)

-- A multiple of an alignment is a multiple of four.
pub whole-four : (align n : ℕ) → IsAlignment align → n % align ≡ 0 → n % 4 ≡ 0
whole-four align n is whole = ap (λ n. n % 4) by_four ∙ mul-mod_left (n / align * power) 4
  where
    power : ℕ
    power = 2 ^ (is.exponent - 2)

    same : is.exponent ≡ is.exponent - 2 + 2
    same = omega (arith, is.least)

    split : align ≡ power * 4
    split = is.is_power ∙ ap (λ k. 2 ^ k) same ∙ pow-add 2 (is.exponent - 2) 2

    times : n ≡ n / align * align
    times = omega (arith, div-add-mod' n align, whole)

    by_four : n ≡ n / align * power * 4
    by_four = times ∙ ap (λ m. n / align * m) split ∙ omega arith
