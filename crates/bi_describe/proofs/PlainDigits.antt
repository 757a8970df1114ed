use Rattle.std.proofs.Common.{◌≡◌, ◌+◌, ◌/◌, ◌%◌, ◌<◌, ℕ, Bool, true, false, cond, ltb, List, [], ◌∷◌, arith, flat_map, refl}
use Rattle.std.specs.List.{list_all}
use Rattle.std.proofs.lemmas.Bool.{le-leb, ltb-false, ne_eqb}
use Rattle.bi_base.specs.Cells.{AreBytes}
use Rattle.bi_base.proofs.ByteLists.{AreBytes-right}
use Rattle.bi_hash.specs.declared.algo.Algo.TheVariants.{Sha256}
use Rattle.bi_hash.specs.Digests.{digest_of}
use Rattle.bi_hash.proofs.DigestBytes.{AreBytes-digest_of}
use Rattle.bi_common.specs.Json.{is_plain_byte, string_byte}
use Rattle.bi_common.specs.ValueTexts.{hexadecimal_digits}
use Rattle.bi_common.proofs.StringBytes.{plain_bytes}

-- The digits of a digest are written as they are in a string of JSON.

glyph_plain : (d : ℕ) (b : Bool) → ltb d 10 ≡ b → d < 16 → is_plain_byte (cond b (48 + d) (87 + d)) ≡ true
glyph_plain d true is small =
    rw (
      le-leb 32 (48 + d) (omega arith),
      le-leb (48 + d) 126 (omega (arith, small)),
      ne_eqb (48 + d) 34 (λ e. omega (arith, e)),
      ne_eqb (48 + d) 92 (λ e. omega (arith, small, e)),
    ) refl
glyph_plain d false is small =
    let above = ltb-false d 10 is in
    rw (
      le-leb 32 (87 + d) (omega arith),
      le-leb (87 + d) 126 (omega (arith, small)),
      ne_eqb (87 + d) 34 (λ e. omega (arith, e)),
      ne_eqb (87 + d) 92 (λ e. omega (arith, above, e)),
    ) refl

digits_plain : (bytes : List ℕ) → AreBytes bytes → list_all is_plain_byte (hexadecimal_digits bytes) ≡ true
digits_plain [] are = refl
digits_plain (byte ∷ later) are =
    rw (
      glyph_plain (byte / 16) (ltb (byte / 16) 10) refl (omega (arith, are.each 0)),
      glyph_plain (byte % 16) (ltb (byte % 16) 10) refl (omega arith),
      digits_plain later (AreBytes-right (byte ∷ []) later are),
    ) refl

pub digest_written : (payload : List ℕ) → flat_map string_byte (hexadecimal_digits (digest_of Sha256 payload))
    ≡ hexadecimal_digits (digest_of Sha256 payload)
digest_written payload =
    plain_bytes (hexadecimal_digits (digest_of Sha256 payload))
    (digits_plain (digest_of Sha256 payload) (AreBytes-digest_of Sha256 payload))
