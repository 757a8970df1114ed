use Rattle.std.specs.Prelude.{ℕ, ◌≡◌, ◌==◌, List, [], ◌∷◌, Option, Some, None, if◌then◌else◌}
use Rattle.std.specs.List.{before_first, list_any}

-- NUL-terminated strings.

-- The bytes before the first zero byte, or all of them if none is zero.
abbrev pub before_nul : List ℕ → List ℕ
before_nul bytes = before_first (λ byte. byte == 0) bytes

-- The bytes before the first zero byte. None if none is zero (Devicetree Specification, 2.2.4.2: a
-- string is NUL-terminated).
unfoldable pub text_before_nul : List ℕ → Option (List ℕ)
text_before_nul value =
    if list_any (λ byte. byte == 0) value
    then Some (before_nul value)
    else None

-- No bytes, or bytes that begin with a zero.
abbrev pub IsEmptyOrBeginsWithNul : List ℕ → Type 0
IsEmptyOrBeginsWithNul [] = Unit {0}
IsEmptyOrBeginsWithNul (byte ∷ bytes) = byte ≡ 0
