use Rattle.std.specs.Prelude.{ℕ, ◌<◌, ◌^◌, ◌≡◌, ◌⊎◌, List, ◌++◌, codes}
use Rattle.std.specs.Str.Parse.{IsNumeral, digits_value}

-- Numbers on the command line (profile of this project).

-- One or more digits are this number in this base, the most significant first.
pub record AreDigitsOf (base number : ℕ) (digits : List ℕ) : Type 0 where
  pub each : IsNumeral base digits
  pub value : digits_value base digits ≡ number

-- The text is this number, of at most 32 bits: decimal digits, or `0x` and hexadecimal digits of
-- either case.
pub record IsNumber (argument : List ℕ) (number : ℕ) : Type 0 where
  pub written : AreDigitsOf 10 number argument
      ⊎ ((digits : List ℕ) × (argument ≡ codes "0x" ++ digits) × AreDigitsOf 16 number digits)
  pub fits : number < 2 ^ 32
