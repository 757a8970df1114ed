use Rattle.std.proofs.Common.{◌≡◌, ℕ, ◌+◌, ◌/◌, ◌%◌, ◌≤◌, ◌<◌, ◌&&◌, ◌==◌, not, Bool, true, false, cond, ltb, List}
use Rattle.std.proofs.Common.{[], ◌∷◌, ◌++◌, flat_map, codes, nat_le, refl, arith}
use Rattle.std.specs.Prelude.{IsAscii}
use Rattle.std.specs.Fmt.{decimal}
use Rattle.std.specs.List.{AllByRecursion, list_all}
use Rattle.std.proofs.lemmas.Bool.{and_parts, leb-true}
use Rattle.std.proofs.lemmas.Bool.Decides.{nat_tests}
use Rattle.std.proofs.lemmas.Str.Ascii.{IsAscii-nil, IsAscii-cons}
use Rattle.bi_base.specs.Cells.{AreBytes}
use Rattle.bi_base.proofs.ByteLists.{AreBytes-right}
use Rattle.bi_base.proofs.ListMembers.{each-append}
use Rattle.bi_common.specs.Json.{Json, JsonValues, JsonMembers, bool_text, comma, is_plain_byte, json_line, json_text, members_text}
use Rattle.bi_common.specs.Json.{string_byte, string_text, values_text}
use Rattle.bi_common.specs.Json.{json_null, json_bool, json_number, json_string, array_of}
use Rattle.bi_common.specs.Json.{object_of, no_value, next_value, no_member, next_member}
use Rattle.bi_common.specs.JsonLaws.{JsonLinesAreAscii}
use Rattle.bi_common.specs.Shown.{digits_of_byte, is_plain}
use Rattle.bi_common.specs.ValueTexts.{is_printable, needs_backslash}
use Rattle.bi_common.proofs.ReadableWords.Numbers.{AreDigits, IsAbove, decimal_above, decimal_below}

-- Digits, numbers and values of JSON are printed with printable characters of ASCII.

abbrev pub IsPrinted : ℕ → Type 0
IsPrinted byte = (32 ≤ byte) × (byte < 127)

abbrev pub ArePrinted : List ℕ → Type 0
ArePrinted text = AllByRecursion IsPrinted text

printable : (byte : ℕ) → is_printable byte ≡ true → IsPrinted byte
printable byte is =
    let range = and_parts (nat_le 0x20 byte) (nat_le byte 0x7e) is in
    (leb-true 0x20 byte range.0, omega (arith, leb-true byte 0x7e range.1))

-- A known text is tested.
pub known_printed : (text : List ℕ) → list_all is_printable text ≡ true → ArePrinted text
known_printed [] is = tt
known_printed (byte ∷ later) is =
    let both = and_parts (is_printable byte) (list_all is_printable later) is in
    (printable byte both.0, known_printed later both.1)

-- So is a byte that is printed unchanged in a name.
pub plain_printed : (byte : ℕ) → is_plain byte ≡ true → IsPrinted byte
plain_printed byte is =
    let graphic = and_parts (nat_le 0x21 byte && nat_le byte 0x7e) (not (byte == 37)) is in
    let range = and_parts (nat_le 0x21 byte) (nat_le byte 0x7e) graphic.0 in
    (omega (arith, leb-true 0x21 byte range.0), omega (arith, leb-true byte 0x7e range.1))

-- Two texts, and the texts of elements.
pub printed-append : (one other : List ℕ) → ArePrinted one → ArePrinted other → ArePrinted (one ++ other)
printed-append one other first second = each-append IsPrinted one other first second

pub printed-pieces : {X : Type 0} (f : X → List ℕ) → ((x : X) → ArePrinted (f x)) → (xs : List X) → ArePrinted (flat_map f xs)
printed-pieces f holds [] = tt
printed-pieces f holds (x ∷ xs) = printed-append (f x) (flat_map f xs) (holds x) (printed-pieces f holds xs)

pub printed-bytes : (f : ℕ → List ℕ) → ((byte : ℕ) → byte < 256 → ArePrinted (f byte)) → (bytes : List ℕ) → AreBytes bytes →
    ArePrinted (flat_map f bytes)
printed-bytes f holds [] are = tt
printed-bytes f holds (byte ∷ later) are = printed-append (f byte) (flat_map f later) (holds byte (are.each 0))
    (printed-bytes f holds later (AreBytes-right (byte ∷ []) later are))

-- ---- digits

glyph : (upper : Bool) (d : ℕ) (b : Bool) → d < 16 → IsPrinted (cond b (48 + d) (cond upper (55 + d) (87 + d)))
glyph upper d true small = (omega arith, omega (arith, small))
glyph true d false small = (omega arith, omega (arith, small))
glyph false d false small = (omega arith, omega (arith, small))

pub digits_printed : (upper : Bool) (byte : ℕ) → byte < 256 → ArePrinted (digits_of_byte upper byte)
digits_printed upper byte small =
    (glyph upper (byte / 16) (ltb (byte / 16) 10) (omega (arith, small)), (glyph upper (byte % 16) (ltb (byte % 16) 10) (omega arith), tt))

digits_between : (text : List ℕ) → IsAbove text → AreDigits text → ArePrinted text
digits_between [] low high = tt
digits_between (byte ∷ later) low high =
    let above = low.0 in
    let below = high.0 in
    ((omega (arith, above), omega (arith, below)), digits_between later low.1 high.1)

pub decimal_printed : (n : ℕ) → ArePrinted (decimal n)
decimal_printed n = digits_between (decimal n) (decimal_above n) (decimal_below n)

-- ---- JSON

byte_printed : (byte : ℕ) → ArePrinted (string_byte byte)
byte_printed byte = by (is_plain_byte byte) (needs_backslash byte) refl refl
  where
    by : (plain backslash : Bool) → is_plain_byte byte ≡ plain → needs_backslash byte ≡ backslash →
        ArePrinted (cond plain (byte ∷ []) (cond backslash (92 ∷ byte ∷ []) (codes "\\u00" ++ digits_of_byte true (byte % 256))))
    by true backslash is also = (printable byte (and_parts (is_printable byte) (not (needs_backslash byte)) is).0, tt)
    by false true is also = ((omega arith, omega arith), ((grind (arith, nat_tests, also), grind (arith, nat_tests, also)), tt))
    by false false is also =
        printed-append (codes "\\u00") (digits_of_byte true (byte % 256)) (known_printed (codes "\\u00") refl)
        (digits_printed true (byte % 256) (omega arith))

in_brackets : (one other : ℕ) (text : List ℕ) → IsPrinted one → IsPrinted other → ArePrinted text → ArePrinted (one ∷ (text ++ other ∷ []))
in_brackets one other text low high are = (low, printed-append text (other ∷ []) are (high, tt))

string_printed : (bytes : List ℕ) → ArePrinted (string_text bytes)
string_printed bytes =
    in_brackets 34 34 (flat_map string_byte bytes) (omega arith, omega arith) (omega arith, omega arith)
    (printed-pieces string_byte byte_printed bytes)

bool_printed : (value : Bool) → ArePrinted (bool_text value)
bool_printed true = known_printed (codes "true") refl
bool_printed false = known_printed (codes "false") refl

comma_printed : (is_later : Bool) → ArePrinted (comma is_later)
comma_printed true = known_printed (codes ",") refl
comma_printed false = tt

mutual
  pub json_printed : (value : Json) → ArePrinted (json_text value)
  json_printed json_null = known_printed (codes "null") refl
  json_printed (json_bool value) = bool_printed value
  json_printed (json_number number) = decimal_printed number
  json_printed (json_string bytes) = string_printed bytes
  json_printed (array_of values) =
      in_brackets 91 93 (values_text false values) (omega arith, omega arith) (omega arith, omega arith) (values_printed values false)
  json_printed (object_of members) =
      in_brackets 123 125 (members_text false members) (omega arith, omega arith) (omega arith, omega arith) (members_printed members false)

  values_printed : (values : JsonValues) (is_later : Bool) → ArePrinted (values_text is_later values)
  values_printed no_value is_later = tt
  values_printed (next_value value later) is_later =
      printed-append (comma is_later) (json_text value ++ values_text true later) (comma_printed is_later)
      (printed-append (json_text value) (values_text true later) (json_printed value) (values_printed later true))

  members_printed : (members : JsonMembers) (is_later : Bool) → ArePrinted (members_text is_later members)
  members_printed no_member is_later = tt
  members_printed (next_member name value later) is_later =
      printed-append (comma is_later) (string_text name ++ (58 ∷ (json_text value ++ members_text true later))) (comma_printed is_later)
      (printed-append (string_text name) (58 ∷ (json_text value ++ members_text true later)) (string_printed name) (
        (omega arith, omega arith),
        printed-append (json_text value) (members_text true later) (json_printed value)
            (members_printed later true),
      ))

-- ---- lines

-- Each byte of a text is below 128.
abbrev pub HasAscii : List ℕ → Type 0
HasAscii text = AllByRecursion (λ byte. byte < 128) text

-- Such a text is ASCII.
pub is_ascii : (text : List ℕ) → HasAscii text → IsAscii text
is_ascii [] are = IsAscii-nil
is_ascii (byte ∷ later) are = IsAscii-cons byte later are.0 (is_ascii later are.1)

-- Printed characters, and after them a text that is ASCII.
pub printed_before : (text later : List ℕ) → ArePrinted text → HasAscii later → HasAscii (text ++ later)
printed_before [] later are ascii = ascii
printed_before (byte ∷ text) later are ascii = (let low = are.0.1 in omega (arith, low), printed_before text later are.1 ascii)

pub json_lines_are_ascii : JsonLinesAreAscii
json_lines_are_ascii value =
    is_ascii (json_line value) (printed_before (json_text value) (10 ∷ []) (json_printed value) (omega arith, tt))
