use Rattle.std.proofs.Common.{rules}
use Rattle.std.proofs.Common.{◌≡◌, ◌≢◌, ℕ, ◌+◌, ◌-◌, ◌≤◌, List, [], ◌∷◌, ◌++◌, length, take, drop, refl, sym, ap, subst, ◌∙◌, arith}
use Rattle.std.specs.List.{AllByRecursion}
use Rattle.std.proofs.lemmas.List.{length-take, length-drop, append_assoc, take-append-drop, drop-append-le, drop-drop}
use Rattle.bi_blob.specs.Tokens.{Token, End, width, IsEncoding, AreEncodings, IsTokenAt}
use Rattle.bi_blob.proofs.Blobs.Cells.{BytesAt-from}
use Rattle.bi_blob.proofs.Blobs.Tokens.{one_token}

-- Proves that tokens are one after the other in a file where their encodings are, and that at most one list of tokens is at an offset.

-- The offset of the token after these. The first of them is at this offset.
abbrev pub place_after_all : ℕ → List Token → ℕ
place_after_all at [] = at
place_after_all at (token ∷ later) = place_after_all (at + width token) later

pub place_after_all-append : (at : ℕ) (a b : List Token) → place_after_all at (a ++ b) ≡ place_after_all (place_after_all at a) b
place_after_all-append at [] b = refl
place_after_all-append at (token ∷ a) b = place_after_all-append (at + width token) a b

-- These tokens are in a file one after the other, the first at this offset.
abbrev pub AllStand : List ℕ → ℕ → List Token → Type 0
AllStand file at [] = Unit {0}
AllStand file at (token ∷ later) = IsTokenAt file at token × AllStand file (at + width token) later

-- A token is at the offset that its encoding follows.
IsEncoding-is_at : (file : List ℕ) (at : ℕ) (token : Token) (bytes rest : List ℕ) → IsEncoding token bytes → drop at file ≡ bytes ++ rest →
    IsTokenAt file at token
IsEncoding-is_at file at token bytes rest is_padded_encoding e = search (rules, BytesAt-from, append_assoc)

-- The encodings of tokens are at least as long as the first token.
AreEncodings-first : (token : Token) (bytes : List ℕ) → IsEncoding token (take (width token) bytes) → width token ≤ length bytes
AreEncodings-first token bytes is_padded_encoding = search (rules, length-take)

-- Tokens are at the offset that their encodings follow.
pub AreEncodings-stand : (file : List ℕ) (at : ℕ) (tokens : List Token) (bytes rest : List ℕ) → AreEncodings tokens bytes →
    drop at file ≡ bytes ++ rest → AllStand file at tokens
AreEncodings-stand file at [] bytes rest is_encoded e = tt
AreEncodings-stand file at (token ∷ later) bytes rest is_encoded e = (
  IsEncoding-is_at file at token (take (width token) bytes) (drop (width token) bytes ++ rest) is_encoded.0
      (e ∙ ap (λ l. l ++ rest) (sym (take-append-drop (width token) bytes))
      ∙ append_assoc (take (width token) bytes) (drop (width token) bytes) rest),
  AreEncodings-stand file (at + width token) later (drop (width token) bytes) rest is_encoded.1
      (sym (drop-drop (width token) at file) ∙ ap (drop (width token)) e
      ∙ drop-append-le (width token) bytes rest (AreEncodings-first token bytes is_encoded.0)),
)

-- The encodings of tokens are as long as the tokens.
pub AreEncodings-length : (at : ℕ) (tokens : List Token) (bytes : List ℕ) → AreEncodings tokens bytes →
    at + length bytes ≡ place_after_all at tokens
AreEncodings-length at [] bytes is_encoded = let none : length bytes ≡ 0 = ap length is_encoded in omega arith
AreEncodings-length at (token ∷ later) bytes is_encoded =
    search (rules, length-drop, AreEncodings-first, AreEncodings-length (at + width token) later (drop (width token) bytes) is_encoded.1)

-- At most one list of tokens that has one FDT_END, at its end, is at an offset.
pub one_token_list : (file : List ℕ) (at : ℕ) (ts us : List Token) → AllByRecursion (λ t. t ≢ End) ts → AllByRecursion (λ t. t ≢ End) us →
    AllStand file at (ts ++ End ∷ []) → AllStand file at (us ++ End ∷ []) → ts ≡ us
one_token_list file at [] [] no_end_ts no_end_us one other = refl
one_token_list file at [] (u ∷ us) no_end_ts no_end_us one other = absurd (no_end_us.0 (one_token file at u End other.0 one.0))
one_token_list file at (t ∷ ts) [] no_end_ts no_end_us one other = absurd (no_end_ts.0 (one_token file at t End one.0 other.0))
one_token_list file at (t ∷ ts) (u ∷ us) no_end_ts no_end_us one other =
    let same : t ≡ u = one_token file at t u one.0 other.0 in
    let rest : ts ≡ us = one_token_list file (at + width t) ts us no_end_ts.1 no_end_us.1 one.1
    (subst (λ v. AllStand file (at + width v) (us ++ End ∷ [])) (sym same) other.1) in
    λ i. same i ∷ rest i
