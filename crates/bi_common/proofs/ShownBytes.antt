use Rattle.std.proofs.Common.{◌≡◌, ℕ, ◌-◌, ◌^◌, ◌<◌, Bool, true, false, List, [], ◌++◌, Some, codes, Result, OnOk, rules}
use Rattle.std.specs.Fmt.{AppendsText, ◌++?◌, digits, digits_output, styled_digits_output, format_spec, padded_integral}
use Rattle.std.proofs.lemmas.Fmt.{hex_byte}
use Rattle.bi_common.specs.Shown.{is_plain, shown_byte}

-- Proves that formatting writes a byte that is not printed unchanged as its escape.

-- What a placeholder for hexadecimal digits without `#` writes, by how the digits are padded.
styled_hex : (d : _) (s : _) (upper : Bool) (n width : ℕ) (out : List ℕ) → digits_output d ≡ Some (digits 16 upper n) →
    s ≡ format_spec 32 0 4 width (2 ^ 64 - 1) →
    padded_integral (format_spec 32 0 4 width (2 ^ 64 - 1)) false [] (digits 16 upper n) ≡ out →
    styled_digits_output d s ≡ Some out
styled_hex d s upper n width out digits_are style_is padded_is = search rules

-- What `%{:02X}` appends for a byte that is not printed unchanged.
pub appended_escape : {E : Type 0} (result : Result (Unit {0}) E) (d : _) (s : _) (old new : List ℕ) (byte : ℕ) → byte < 256 →
    is_plain byte ≡ false → digits_output d ≡ Some (digits 16 true byte) → s ≡ format_spec 32 0 4 2 (2 ^ 64 - 1) →
    OnOk result (AppendsText old new (Some (codes "%") ++? styled_digits_output d s)) →
    OnOk result (new ≡ old ++ shown_byte byte)
appended_escape result d s old new byte small escaped digits_are style_is appended = search (rules, styled_hex, hex_byte)
