use Rattle.std.proofs.Common.{◌≡◌, ◌≢◌, ℕ, ◌+◌, ◌-◌, ◌*◌, ◌/◌, ◌%◌, ◌^◌, ◌<◌, ◌≤◌, zero, suc, sym, ap, ◌∙◌, add-one, arith, rules}
use Rattle.std.proofs.Math.Nat.{mul-mod_left, mod-one}
use Rattle.std.proofs.Math.Pow.{pow_mono}
use Rattle.std.proofs.lemmas.Nat.{div-add-mod', pow-add, pow_below, pow_pos}
use Rattle.bi_fit.specs.Kept.{IsPower}

-- Powers of two up to 1048576, and the numbers that they divide.

-- A power of two is at most 1048576.
pub power-small : (a : ℕ) → IsPower a → a ≤ 0x100000
power-small a is = let most : 2 ^ is.exponent ≤ 2 ^ 20 = pow_mono is.most in omega (arith, is.is_power)

-- The order of powers is that of their exponents.
exponent-le : (i j : ℕ) → 2 ^ i ≤ 2 ^ j → i ≤ j
exponent-le i j le = grind (arith, pow_below)

-- What a power divides, a smaller one divides.
power-divides : (i j n : ℕ) → i ≤ j → n % 2 ^ j ≡ 0 → n % 2 ^ i ≡ 0
power-divides i j n le whole = ap (λ n. n % 2 ^ i) by_smaller ∙ mul-mod_left (n / 2 ^ j * 2 ^ (j - i)) (2 ^ i)
  where
    same : j ≡ j - i + i
    same = omega (arith, le)

    split : 2 ^ j ≡ 2 ^ (j - i) * 2 ^ i
    split = ap (λ k. 2 ^ k) same ∙ pow-add 2 (j - i) i

    times : n ≡ n / 2 ^ j * 2 ^ j
    times = omega (arith, div-add-mod' n (2 ^ j), whole)

    by_smaller : n ≡ n / 2 ^ j * 2 ^ (j - i) * 2 ^ i
    by_smaller = times ∙ ap (λ m. n / 2 ^ j * m) split ∙ omega arith

pub smaller_divides : (a b n : ℕ) → IsPower a → IsPower b → a ≤ b → n % b ≡ 0 → n % a ≡ 0
smaller_divides a b n one other le whole = search (rules, power-divides, exponent-le)

-- The half of a power other than 1 is one.
half : (k : ℕ) → 2 ^ (k + 1) / 2 ≡ 2 ^ k
half k = omega (arith, pow-add 2 k 1)

half-suc : (k : ℕ) → 2 ^ suc k / 2 ≡ 2 ^ k
half-suc k = ap (λ n. 2 ^ n / 2) (sym (add-one k)) ∙ half k

pub half-power : (a n : ℕ) → IsPower a → n % a ≢ 0 → IsPower (a / 2)
half-power a n is not_whole = by is.exponent is.is_power is.most
  where
    by : (e : ℕ) → a ≡ 2 ^ e → e ≤ 20 → IsPower (a / 2)
    by zero same most = absurd (not_whole (ap (λ a. n % a) same ∙ mod-one n))
    by (suc k) same most = record { exponent = k; most = omega arith; is_power = ap (λ a. a / 2) same ∙ half-suc k }

-- A smaller power is at most the half.
half-le : (i j : ℕ) → 2 ^ i < 2 ^ j → 2 ^ i ≤ 2 ^ j / 2
half-le i zero less = absurd (omega (arith, less, pow_pos i))
half-le i (suc k) less = search (rules, pow_mono, half-suc)

pub less-half : (a b : ℕ) → IsPower a → IsPower b → a < b → a ≤ b / 2
less-half a b one other less = search (rules, half-le)

-- A power that divides a number is at most the half of one that does not, if it is at most that.
pub le-half : (a b n : ℕ) → IsPower a → IsPower b → n % b ≢ 0 → a ≤ b → n % a ≡ 0 → a ≤ b / 2
le-half a b n one other not_whole le whole = search (rules, less-half)
