use Rattle.std.specs.Prelude.{◌≡◌, ℕ, ◌^◌, ◌<◌, List, [], ◌∷◌, ◌++◌, length, take, drop}
use Rattle.bi_base.specs.Strings.{before_nul}
use Rattle.bi_base.specs.Cells.{cell, slice, up4}
use Rattle.bi_blob.specs.Tree.{HasNoZero}

-- The tokens of the structure block, and their encoding (Devicetree Specification, 5.4.1).

-- A token with what follows its number.
pub data Token : Type 0 where
  BeginNode : (name : List ℕ) → Token
  EndNode : Token
  Prop : (name_offset : ℕ) → (value : List ℕ) → Token
  Nop : Token
  End : Token

-- The number of each token (5.4.1): FDT_BEGIN_NODE, FDT_END_NODE, FDT_PROP, FDT_NOP and FDT_END.
abbrev pub begin_node_number : ℕ
begin_node_number = 1

abbrev pub end_node_number : ℕ
end_node_number = 2

abbrev pub prop_number : ℕ
prop_number = 3

abbrev pub nop_number : ℕ
nop_number = 4

abbrev pub end_number : ℕ
end_number = 9

-- The bytes of a token without its padding.
abbrev pub token_bytes : Token → List ℕ
token_bytes (BeginNode name) = cell begin_node_number ++ (name ++ 0 ∷ [])
token_bytes EndNode = cell end_node_number
token_bytes (Prop name_offset value) =
    cell prop_number ++ (cell (length value) ++ (cell name_offset ++ value))
token_bytes Nop = cell nop_number
token_bytes End = cell end_number

-- The number of bytes of a token with its padding: the next token begins at a multiple of four.
abbrev pub width : Token → ℕ
width token = up4 (length (token_bytes token))

-- The numbers of a token fit in cells, and its name has no zero byte.
abbrev pub IsToken : Token → Type 0
IsToken (BeginNode name) = HasNoZero name
IsToken (Prop name_offset value) = (name_offset < 2 ^ 32) × (length value < 2 ^ 32)
IsToken token = Unit {0}

-- These bytes are a token with its padding (that padding may be any bytes is profile of this
-- project).
pub record IsEncoding (token : Token) (bytes : List ℕ) : Type 0 where
  pub is_token : IsToken token
  pub padding : List ℕ
  pub is_encoded : bytes ≡ token_bytes token ++ padding
  pub whole : length bytes ≡ width token

-- These bytes are these tokens, one after the other.
abbrev pub AreEncodings : List Token → List ℕ → Type 0
AreEncodings [] bytes = bytes ≡ []
AreEncodings (token ∷ later) bytes =
    IsEncoding token (take (width token) bytes) × AreEncodings later (drop (width token) bytes)

-- A token is at this offset of a file, whatever its padding is and whether or not the file has all
-- of its padding.
pub record IsTokenAt (file : List ℕ) (at : ℕ) (token : Token) : Type 0 where
  pub is_token : IsToken token
  pub is_at : slice file at (length (token_bytes token)) ≡ token_bytes token

-- This name is at this offset of the strings block, with a zero byte after it (5.5).
pub record IsNameAt (strings : List ℕ) (offset : ℕ) (name : List ℕ) : Type 0 where
  pub no_zero : HasNoZero name
  pub trailing : List ℕ
  pub is_at : drop offset strings ≡ name ++ 0 ∷ trailing

-- The bytes from this offset to the first zero byte, or all of them if none is zero: the name of a
-- node (5.4.1) or of a property (5.5).
abbrev pub name_from : List ℕ → ℕ → List ℕ
name_from bytes offset = before_nul (drop offset bytes)
