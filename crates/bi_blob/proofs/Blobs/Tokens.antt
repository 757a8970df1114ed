use Rattle.std.proofs.Common.{rules}
use Rattle.std.proofs.Common.{◌≡◌, ℕ, ◌+◌, ◌<◌, ◌≤◌, ◌^◌, List, [], ◌∷◌, ◌++◌, length, drop, refl, sym, ap, subst, ◌∙◌, arith, lit<}
use Rattle.std.proofs.lemmas.List.{length-append, append-nil, append_assoc}
use Rattle.bi_base.specs.Cells.{cell, slice, u32_at, AreBytes}
use Rattle.bi_blob.specs.Tokens.{Token, BeginNode, EndNode, Prop, Nop, End, token_bytes, width, IsTokenAt, IsNameAt, begin_node_number}
use Rattle.bi_blob.specs.Tokens.{end_node_number, prop_number, nop_number, end_number}
use Rattle.bi_base.proofs.CellLaws.{length-cell, length-slice}
use Rattle.bi_blob.proofs.Blobs.BytesBeforeZero.{one_name}
use Rattle.bi_blob.proofs.Blobs.Cells.{BytesAt, BytesAt-from, BytesAt-drop, BytesAt-within, BytesAt-left, BytesAt-right, BytesAt-join}
use Rattle.bi_blob.proofs.Blobs.Cells.{BytesAt-cell, u32_at-BytesAt}
use Rattle.bi_base.proofs.CellLaws.{u32_at-fits}

-- Proves that at most one token is at an offset, and that its parts are read there.

-- The number of a token.
abbrev pub number : Token → ℕ
number (BeginNode name) = begin_node_number
number EndNode = end_node_number
number (Prop name_offset value) = prop_number
number Nop = nop_number
number End = end_number

-- What follows the number of a token, but for the padding.
abbrev pub operands : Token → List ℕ
operands (BeginNode name) = name ++ 0 ∷ []
operands (Prop name_offset value) = cell (length value) ++ (cell name_offset ++ value)
operands token = []

pub token_bytes-number : (token : Token) → token_bytes token ≡ cell (number token) ++ operands token
token_bytes-number (BeginNode name) = refl
token_bytes-number (Prop name_offset value) = refl
token_bytes-number EndNode = sym (append-nil (cell end_node_number))
token_bytes-number Nop = sym (append-nil (cell nop_number))
token_bytes-number End = sym (append-nil (cell end_number))

number_fits : (token : Token) → number token < 2 ^ 32
number_fits (BeginNode name) = lit< tt
number_fits EndNode = lit< tt
number_fits (Prop name_offset value) = lit< tt
number_fits Nop = lit< tt
number_fits End = lit< tt

-- How long a token is without its padding.
pub length-token_bytes : (token : Token) → length (token_bytes token) ≡ 4 + length (operands token)
length-token_bytes token = ap length (token_bytes-number token) ∙ simp (length-append, length-cell) refl

-- The bytes after the number of a token.
pub IsTokenAt-bytes : (file : List ℕ) (at : ℕ) (token : Token) → IsTokenAt file at token →
    BytesAt file at (cell (number token) ++ operands token)
IsTokenAt-bytes file at token is_at = subst (BytesAt file at) (token_bytes-number token) is_at.is_at

-- Its number is read there.
pub IsTokenAt-number : (file : List ℕ) (at : ℕ) (token : Token) → IsTokenAt file at token → u32_at file at ≡ number token
IsTokenAt-number file at token is_at = search (rules, u32_at-BytesAt, number_fits, BytesAt-left, IsTokenAt-bytes)

-- It is within the file, but for its padding.
pub IsTokenAt-within : (file : List ℕ) (at : ℕ) (token : Token) → IsTokenAt file at token → at + length (token_bytes token) ≤ length file
IsTokenAt-within file at token is_at = search (rules, length-token_bytes, BytesAt-within)

-- A token at an offset has these bytes after its number.
pub IsTokenAt-operands : (file : List ℕ) (at : ℕ) (token : Token) → IsTokenAt file at token → BytesAt file (at + 4) (operands token)
IsTokenAt-operands file at token is_at =
    subst (λ n. BytesAt file (at + n) (operands token)) (length-cell (number token))
    (BytesAt-right file at (cell (number token)) (operands token) (IsTokenAt-bytes file at token is_at))

-- The name of a node is after the number of its token.
pub BeginNode-name : (file : List ℕ) (at : ℕ) (name : List ℕ) → IsTokenAt file at (BeginNode name) → IsNameAt file (at + 4) name
BeginNode-name file at name is_at = record {
  no_zero = is_at.is_token;
  trailing = drop (at + 4 + length (name ++ 0 ∷ [])) file;
  is_at = BytesAt-drop file (at + 4) (name ++ 0 ∷ []) (IsTokenAt-operands file at (BeginNode name) is_at) ∙ append_assoc name (0 ∷ []) _;
}

-- What follows the number of a property at an offset: the length of its value, the offset of its name, and its value.
pub record IsPropAt (file : List ℕ) (at name_offset : ℕ) (value : List ℕ) : Type 0 where
  pub is_length : u32_at file (at + 4) ≡ length value
  pub is_offset : u32_at file (at + 8) ≡ name_offset
  pub is_value : BytesAt file (at + 12) value

pub Prop-parts : (file : List ℕ) (at name_offset : ℕ) (value : List ℕ) → IsTokenAt file at (Prop name_offset value) →
    IsPropAt file at name_offset value
Prop-parts file at name_offset value is_at =
    let all : BytesAt file (at + 4) (cell (length value) ++ (cell name_offset ++ value)) =
    IsTokenAt-operands file at (Prop name_offset value) is_at in
    let trailing : BytesAt file (at + 4 + length (cell (length value))) (cell name_offset ++ value) =
    BytesAt-right file (at + 4) (cell (length value)) (cell name_offset ++ value) all in
    let second : at + 4 + length (cell (length value)) ≡ at + 8 = omega (arith, length-cell (length value)) in
    let two : BytesAt file (at + 8) (cell name_offset ++ value) = subst (λ p. BytesAt file p (cell name_offset ++ value)) second trailing in
    let third : at + 8 + length (cell name_offset) ≡ at + 12 = omega (arith, length-cell name_offset) in
    record {
      is_length = u32_at-BytesAt file (at + 4) (length value) is_at.is_token.1
          (BytesAt-left file (at + 4) (cell (length value)) (cell name_offset ++ value) all);
      is_offset = u32_at-BytesAt file (at + 8) name_offset is_at.is_token.0 (BytesAt-left file (at + 8) (cell name_offset) value two);
      is_value = subst (λ p. BytesAt file p value) third (BytesAt-right file (at + 8) (cell name_offset) value two);
    }

-- At most one property is at an offset.
one_prop : (file : List ℕ) (at o p : ℕ) (v w : List ℕ) → IsPropAt file at o v → IsPropAt file at p w → Prop o v ≡ Prop p w
one_prop file at o p v w one other = search rules

-- At most one token is at an offset.
pub one_token : (file : List ℕ) (at : ℕ) (t u : Token) → IsTokenAt file at t → IsTokenAt file at u → t ≡ u
one_token file at (BeginNode m) (BeginNode n) one other = search (rules, one_name, BeginNode-name)
one_token file at (Prop o v) (Prop p w) one other =
    one_prop file at o p v w (Prop-parts file at o v one) (Prop-parts file at p w other)
one_token file at EndNode EndNode one other = refl
one_token file at Nop Nop one other = refl
one_token file at End End one other = refl
one_token file at t u one other = let same : number t ≡ number u = search (rules, IsTokenAt-number) in absurd (omega arith)

-- A token that is only its number is where its number is read.
token_is_there : (file : List ℕ) (at n : ℕ) → AreBytes file → at + 4 ≤ length file → u32_at file at ≡ n → BytesAt file at (cell n)
token_is_there file at n bytes within e = subst (λ m. BytesAt file at (cell m)) e (BytesAt-cell file at bytes within)

pub EndNode-is_at : (file : List ℕ) (at : ℕ) → AreBytes file → at + 4 ≤ length file → u32_at file at ≡ end_node_number →
    IsTokenAt file at EndNode
EndNode-is_at file at bytes within e = record { is_token = tt; is_at = token_is_there file at end_node_number bytes within e }

pub Nop-is_at : (file : List ℕ) (at : ℕ) → AreBytes file → at + 4 ≤ length file → u32_at file at ≡ nop_number → IsTokenAt file at Nop
Nop-is_at file at bytes within e = record { is_token = tt; is_at = token_is_there file at nop_number bytes within e }

pub End-is_at : (file : List ℕ) (at : ℕ) → AreBytes file → at + 4 ≤ length file → u32_at file at ≡ end_number → IsTokenAt file at End
End-is_at file at bytes within e = record { is_token = tt; is_at = token_is_there file at end_number bytes within e }

-- FDT_BEGIN_NODE is where its number is read and a name follows.
pub BeginNode-is_at : (file : List ℕ) (at : ℕ) (name : List ℕ) → AreBytes file → at + 4 ≤ length file → u32_at file at ≡ begin_node_number →
    IsNameAt file (at + 4) name → IsTokenAt file at (BeginNode name)
BeginNode-is_at file at name bytes within e named = record {
  is_token = named.no_zero;
  is_at = BytesAt-join file at (cell begin_node_number) (name ++ 0 ∷ [])
      (token_is_there file at begin_node_number bytes within e)
      (subst (λ n. BytesAt file (at + n) (name ++ 0 ∷ [])) (sym (length-cell begin_node_number))
      (BytesAt-from file (at + 4) (name ++ 0 ∷ []) named.trailing (named.is_at ∙ sym (append_assoc name (0 ∷ []) named.trailing))));
}

-- FDT_PROP is where its number is read and the file has the value.
pub Prop-is_at : (file : List ℕ) (at : ℕ) → AreBytes file → at + 12 + u32_at file (at + 4) ≤ length file → u32_at file at ≡ prop_number →
    IsTokenAt file at (Prop (u32_at file (at + 8)) (slice file (at + 12) (u32_at file (at + 4))))
Prop-is_at file at bytes within e = search (rules, length-slice, u32_at-fits, BytesAt-join, token_is_there, length-cell, BytesAt-cell)

-- A token takes at least four bytes, and no fewer than it is long.
pub width-at_least : (token : Token) → (4 ≤ width token) × (length (token_bytes token) ≤ width token)
width-at_least token = search (rules, length-token_bytes)
