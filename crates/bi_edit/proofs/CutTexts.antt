use Rattle.std.proofs.Common.{◌≡◌, ℕ, leb, eqb, Bool, List, [], ◌∷◌, ◌++◌, refl, sym, ap, ◌∙◌, true≢false}
use Rattle.std.proofs.Common.{Option, Some, None}
use Rattle.std.proofs.lemmas.Bool.{ne_eqb, eq-eqb}
use Rattle.bi_common.proofs.ReadableWords.Cuts.{HasNoEnd, Ends, cut_agrees}
use Rattle.bi_common.proofs.ReadableWords.ShownNames.{is_blank}
use Rattle.bi_edit.specs.Cuts.{from_byte, IsCutAt, LacksByte}

-- A text that is cut at a byte is cut in one way.

-- A byte that ends a text, as a test.
abbrev pub is_byte : (byte : ℕ) → ℕ → Bool
is_byte byte other = eqb other byte

pub no_end : (byte : ℕ) (bytes : List ℕ) → LacksByte byte bytes → HasNoEnd (is_byte byte) bytes
no_end byte [] lacks = tt
no_end byte (first ∷ later) lacks = (ne_eqb first byte lacks.0, no_end byte later lacks.1)

pub ends-from_byte : (byte : ℕ) (after : Option (List ℕ)) → Ends (is_byte byte) (from_byte byte after)
ends-from_byte byte None = tt
ends-from_byte byte (Some after) = eq-eqb byte byte refl

same_after : (byte : ℕ) (one other : Option (List ℕ)) → from_byte byte one ≡ from_byte byte other → one ≡ other
same_after byte None None same = refl
same_after byte None (Some after) same = absurd cc
same_after byte (Some after) None same = absurd cc
same_after byte (Some one) (Some other) same = let is : one ≡ other = cc in ap Some is

-- Bytes without the byte, and what is from it on, are the two parts.
pub cut_is : (byte : ℕ) (text before : List ℕ) (after : Option (List ℕ)) → IsCutAt byte text before after →
    (first : List ℕ) (rest : Option (List ℕ)) → LacksByte byte first → first ++ from_byte byte rest ≡ text →
    (first ≡ before) × (rest ≡ after)
cut_is byte text before after cut first rest lacks same =
    let parts = cut_agrees (is_byte byte) first before (from_byte byte rest) (from_byte byte after)
    (no_end byte first lacks) (no_end byte before cut.first) (ends-from_byte byte rest) (ends-from_byte byte after)
    (same ∙ cut.is) in
    (parts.0, same_after byte rest after parts.1)

-- Bytes none of which is blank have no space.
pub no_space : (bytes : List ℕ) → HasNoEnd is_blank bytes → LacksByte 32 bytes
no_space [] bare = tt
no_space (byte ∷ later) bare =
    (λ is. true≢false (sym (ap (λ b. leb b 32) is) ∙ bare.0), no_space later bare.1)
