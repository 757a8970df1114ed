use Rattle.std.proofs.Common.{◌≡◌, ◌%◌, ℕ, Bool, true, cond, List, [], ◌∷◌, ◌++◌, codes, flat_map, refl, ap, subst, ◌∙◌}
use Rattle.std.specs.List.{list_all}
use Rattle.bi_base.specs.Sinks.{AppendsInTurn}
use Rattle.std.proofs.lemmas.Bool.{and_parts}
use Rattle.bi_common.specs.Json.{is_plain_byte, string_byte}
use Rattle.bi_common.specs.Shown.{digits_of_byte}
use Rattle.bi_common.specs.ValueTexts.{needs_backslash}

-- Bytes of a string that are written as they are, and what is put for a string.

pub plain_bytes : (bytes : List ℕ) → list_all is_plain_byte bytes ≡ true → flat_map string_byte bytes ≡ bytes
plain_bytes [] are = refl
plain_bytes (byte ∷ later) are =
    let both = and_parts (is_plain_byte byte) (list_all is_plain_byte later) are in
    ap (λ (b : Bool). cond b (byte ∷ []) (cond (needs_backslash byte) (92 ∷ byte ∷ []) (codes "\\u00" ++ digits_of_byte true (byte % 256)))
    ++ flat_map string_byte later) both.0
    ∙ ap (λ (l : List ℕ). byte ∷ l) (plain_bytes later both.1)

-- A quote, the bytes of a string and a quote are put.
pub string_put : {P : Type 0} (puts : P → List ℕ → P → Type 0) → AppendsInTurn puts → (a b begin end c d : P) (text : List ℕ) →
    puts a (34 ∷ []) b → begin ≡ b → puts begin text end → end ≡ c → puts c (34 ∷ []) d → puts a (34 ∷ (text ++ 34 ∷ [])) d
string_put puts in_turn a b begin end c d text first begins inside ends last =
    in_turn a b d (34 ∷ []) (text ++ 34 ∷ []) first
    (in_turn b c d text (34 ∷ []) (subst (λ old. puts old text c) begins (subst (puts begin text) ends inside)) last)
