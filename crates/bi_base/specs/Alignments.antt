use Rattle.std.specs.Prelude.{◌≡◌, ℕ, ◌≤◌, ◌^◌}
use Rattle.std.specs.Coded.{le_prop}
use Rattle.std.proofs.Common.{sym, ◌∙◌, arith}
use Rattle.std.proofs.lemmas.Nat.{pow_below}
use Rattle.std.proofs.Math.Nat.{ℕ_set}
use mathlib.Core.HLevel.{is_prop→PathP}

-- Alignments of payloads that follow the blob of a flattened image tree.

-- A power of two from 4 to 1048576 (profile of this project).
pub record IsAlignment (bytes : ℕ) : Type 0 where
  pub exponent : ℕ
  pub least : 2 ≤ exponent
  pub most : exponent ≤ 20
  pub is_power : bytes ≡ 2 ^ exponent

-- A power of two has one exponent.
same_exponent : (i j : ℕ) → 2 ^ i ≡ 2 ^ j → i ≡ j
same_exponent i j same = grind (arith, pow_below)

-- A number is a power of two in at most one way.
pub IsAlignment-prop : (bytes : ℕ) → IsProp (IsAlignment bytes)
IsAlignment-prop bytes one other =
    λ i. record {
      exponent = same i;
      least = is_prop→PathP (λ i. 2 ≤ same i) (λ i. le_prop) one.least other.least i;
      most = is_prop→PathP (λ i. same i ≤ 20) (λ i. le_prop) one.most other.most i;
      is_power = is_prop→PathP (λ i. bytes ≡ 2 ^ same i) (λ i. ℕ_set bytes (2 ^ same i))
          one.is_power other.is_power i;
    }
  where
    same : one.exponent ≡ other.exponent
    same = same_exponent one.exponent other.exponent (sym one.is_power ∙ other.is_power)
