use Rattle.std.specs.Prelude.{ℕ, ◌≡◌, ◌==◌, ◌&&◌, ◌||◌, Bool, true, nat_le, List, [], ◌∷◌, ◌++◌}
use Rattle.std.specs.Prelude.{codes}
use Rattle.std.specs.List.{list_all}

-- The grammar of JSON (RFC 8259), rule by rule: `IsRule text rest` says that the text begins with
-- what the rule describes, and that `rest` comes after it. The characters are those of ASCII, each
-- of which is one byte of UTF-8 (RFC 8259, 8.1). The RFC allows more characters in strings.

-- ---- white space and structural characters (RFC 8259, 2)

-- A space, a tab, a line feed or a carriage return.
abbrev pub is_space : ℕ → Bool
is_space character = character == 0x20 || character == 9 || character == 10 || character == 13

-- ws = *( %x20 / %x09 / %x0A / %x0D )
pub data IsSpace : (text rest : List ℕ) → Type 0 where
  NoSpace : {rest : List ℕ} → IsSpace rest rest
  Space : {character : ℕ} {text rest : List ℕ} → is_space character ≡ true → IsSpace text rest
      → IsSpace (character ∷ text) rest

-- ws, a character, ws: begin-array, begin-object, end-array, end-object, name-separator and
-- value-separator, each by its character.
pub record IsStructural (character : ℕ) (text rest : List ℕ) : Type 0 where
  pub after : List ℕ
  pub space : IsSpace text (character ∷ after)
  pub later_space : IsSpace after rest

-- ---- numbers (RFC 8259, 6)

abbrev pub is_digit : ℕ → Bool
is_digit character = nat_le 0x30 character && nat_le character 0x39

-- 1*DIGIT
pub data IsDigits : (text rest : List ℕ) → Type 0 where
  Digit : {character : ℕ} {rest : List ℕ} → is_digit character ≡ true
      → IsDigits (character ∷ rest) rest
  Digits : {character : ℕ} {text rest : List ℕ} → is_digit character ≡ true
      → IsDigits text rest → IsDigits (character ∷ text) rest

-- digit1-9
abbrev pub is_first_digit : ℕ → Bool
is_first_digit character = nat_le 0x31 character && nat_le character 0x39

-- int = zero / ( digit1-9 *DIGIT )
pub data IsInteger : (text rest : List ℕ) → Type 0 where
  Zero : {rest : List ℕ} → IsInteger (0x30 ∷ rest) rest
  OneDigit : {character : ℕ} {rest : List ℕ} → is_first_digit character ≡ true
      → IsInteger (character ∷ rest) rest
  FirstDigit : {character : ℕ} {text rest : List ℕ} → is_first_digit character ≡ true
      → IsDigits text rest → IsInteger (character ∷ text) rest

-- [ minus ]
pub data IsSign : (text rest : List ℕ) → Type 0 where
  NoMinus : {rest : List ℕ} → IsSign rest rest
  Minus : {rest : List ℕ} → IsSign (0x2d ∷ rest) rest

-- [ frac ]; frac = decimal-point 1*DIGIT
pub data IsFraction : (text rest : List ℕ) → Type 0 where
  NoFraction : {rest : List ℕ} → IsFraction rest rest
  Fraction : {text rest : List ℕ} → IsDigits text rest → IsFraction (0x2e ∷ text) rest

-- [ minus / plus ]
pub data IsExponentSign : (text rest : List ℕ) → Type 0 where
  NoSign : {rest : List ℕ} → IsExponentSign rest rest
  PlusOrMinus : {character : ℕ} {rest : List ℕ} → (character == 0x2b || character == 0x2d) ≡ true
      → IsExponentSign (character ∷ rest) rest

-- [ exp ]; exp = e [ minus / plus ] 1*DIGIT; e = %x65 / %x45
pub data IsExponent : (text rest : List ℕ) → Type 0 where
  NoExponent : {rest : List ℕ} → IsExponent rest rest
  Exponent : {character : ℕ} {text digits rest : List ℕ}
      → (character == 0x65 || character == 0x45) ≡ true → IsExponentSign text digits
      → IsDigits digits rest → IsExponent (character ∷ text) rest

-- number = [ minus ] int [ frac ] [ exp ]
pub record IsJsonNumber (text rest : List ℕ) : Type 0 where
  pub after_sign : List ℕ
  pub sign : IsSign text after_sign
  pub after_integer : List ℕ
  pub integer : IsInteger after_sign after_integer
  pub after_fraction : List ℕ
  pub fraction : IsFraction after_integer after_fraction
  pub exponent : IsExponent after_fraction rest

-- ---- strings (RFC 8259, 7)

-- unescaped = %x20-21 / %x23-5B / %x5D-10FFFF, of which those of ASCII.
abbrev pub is_unescaped : ℕ → Bool
is_unescaped character =
    nat_le 0x20 character && nat_le character 0x21
    || nat_le 0x23 character && nat_le character 0x5b
    || nat_le 0x5d character && nat_le character 0x7f

-- What may follow a backslash: `"`, a backslash, `/`, `b`, `f`, `n`, `r` or `t`.
abbrev pub is_escaped : ℕ → Bool
is_escaped character =
    character == 0x22 || character == 0x5c || character == 0x2f || character == 0x62
    || character == 0x66 || character == 0x6e || character == 0x72 || character == 0x74

-- HEXDIG, in upper or lower case.
abbrev pub is_hexadecimal : ℕ → Bool
is_hexadecimal character =
    is_digit character || nat_le 0x41 character && nat_le character 0x46
    || nat_le 0x61 character && nat_le character 0x66

-- *char
pub data AreCharacters : (text rest : List ℕ) → Type 0 where
  NoCharacter : {rest : List ℕ} → AreCharacters rest rest
  Unescaped : {character : ℕ} {text rest : List ℕ} → is_unescaped character ≡ true
      → AreCharacters text rest → AreCharacters (character ∷ text) rest
  Escaped : {character : ℕ} {text rest : List ℕ} → is_escaped character ≡ true
      → AreCharacters text rest → AreCharacters (0x5c ∷ character ∷ text) rest
  ByNumber : {one two three four : ℕ} {text rest : List ℕ}
      → list_all is_hexadecimal (one ∷ two ∷ three ∷ four ∷ []) ≡ true → AreCharacters text rest
      → AreCharacters (0x5c ∷ 0x75 ∷ one ∷ two ∷ three ∷ four ∷ text) rest

-- string = quotation-mark *char quotation-mark
pub data IsJsonString : (text rest : List ℕ) → Type 0 where
  Quoted : {text rest : List ℕ} → AreCharacters text (0x22 ∷ rest) → IsJsonString (0x22 ∷ text) rest

-- ---- values (RFC 8259, 3 to 5)

mutual
  -- value = false / null / true / object / array / number / string
  pub data IsJsonValue : (text rest : List ℕ) → Type 0 where
    False : {rest : List ℕ} → IsJsonValue (codes "false" ++ rest) rest
    Null : {rest : List ℕ} → IsJsonValue (codes "null" ++ rest) rest
    True : {rest : List ℕ} → IsJsonValue (codes "true" ++ rest) rest
    Number : {text rest : List ℕ} → IsJsonNumber text rest → IsJsonValue text rest
    String : {text rest : List ℕ} → IsJsonString text rest → IsJsonValue text rest
    EmptyArray : {text end rest : List ℕ} → IsStructural 0x5b text end
        → IsStructural 0x5d end rest → IsJsonValue text rest
    Array : {text values end rest : List ℕ} → IsStructural 0x5b text values
        → AreJsonValues values end → IsStructural 0x5d end rest → IsJsonValue text rest
    EmptyObject : {text end rest : List ℕ} → IsStructural 0x7b text end
        → IsStructural 0x7d end rest → IsJsonValue text rest
    Object : {text members end rest : List ℕ} → IsStructural 0x7b text members
        → AreJsonMembers members end → IsStructural 0x7d end rest → IsJsonValue text rest

  -- value *( value-separator value )
  pub data AreJsonValues : (text rest : List ℕ) → Type 0 where
    LastValue : {text rest : List ℕ} → IsJsonValue text rest → AreJsonValues text rest
    NextValue : {text end later rest : List ℕ} → IsJsonValue text end → IsStructural 0x2c end later
        → AreJsonValues later rest → AreJsonValues text rest

  -- member *( value-separator member )
  pub data AreJsonMembers : (text rest : List ℕ) → Type 0 where
    LastMember : {text rest : List ℕ} → IsJsonMember text rest → AreJsonMembers text rest
    NextMember : {text end later rest : List ℕ} → IsJsonMember text end
        → IsStructural 0x2c end later → AreJsonMembers later rest → AreJsonMembers text rest

  -- member = string name-separator value
  pub data IsJsonMember : (text rest : List ℕ) → Type 0 where
    Named : {text end value rest : List ℕ} → IsJsonString text end → IsStructural 0x3a end value
        → IsJsonValue value rest → IsJsonMember text rest

-- JSON-text = ws value ws
pub record IsJson (text : List ℕ) : Type 0 where
  pub start : List ℕ
  pub space : IsSpace text start
  pub end : List ℕ
  pub value : IsJsonValue start end
  pub later_space : IsSpace end []

-- ---- what the commands write

-- The text is one line: a JSON text without a character below a space, so without a newline, and a
-- newline.
pub record IsJsonLine (text : List ℕ) : Type 0 where
  pub json : List ℕ
  pub is_json : IsJson json
  pub is_one_line : list_all (nat_le 0x20) json ≡ true
  pub is_line : text ≡ json ++ 10 ∷ []
