use Rattle.std.proofs.Common.{◌≡◌, ℕ, zero, suc, ◌^◌, ◌+◌, ◌/◌, ◌%◌, ◌<◌, not, Bool, true, false, cond, ltb}
use Rattle.std.proofs.Common.{List, [], ◌∷◌, ◌++◌, append-nil, append_assoc, arith}
use Rattle.std.proofs.Common.{codes, flat_map, get_or, length, nat_le, refl, subst, sym, ◌∙◌}
use Rattle.std.specs.Fmt.{decimal}
use Rattle.std.specs.List.{AllByRecursion, list_all}
use Rattle.std.proofs.lemmas.Bool.{and_parts}
use Rattle.std.proofs.lemmas.Bool.Decides.{nat_tests}
use Rattle.std.proofs.lemmas.Fmt.{decimal_digit, decimal_nonempty, first_decimal}
use Rattle.bi_common.specs.Json.{Json, JsonValues, JsonMembers, bool_text, is_plain_byte, json_text, members_text, string_byte}
use Rattle.bi_common.specs.Json.{string_text, values_text, HasNumbers, HaveNumbers, MembersHaveNumbers, json_values}
use Rattle.bi_common.specs.Json.{json_null, json_bool, json_number, json_string, array_of}
use Rattle.bi_common.specs.Json.{object_of, no_value, next_value, no_member, next_member}
use Rattle.bi_common.specs.JsonGrammar.{AreCharacters, NoCharacter, Unescaped, Escaped, ByNumber, is_escaped, is_hexadecimal, is_unescaped}
use Rattle.bi_common.specs.JsonGrammar.{IsDigits, Digit, Digits, is_digit, IsInteger, Zero, OneDigit, FirstDigit, is_first_digit}
use Rattle.bi_common.specs.JsonGrammar.{NoMinus, NoFraction, NoExponent, IsJsonString, Quoted, IsStructural, NoSpace}
use Rattle.bi_common.specs.JsonGrammar.{IsJsonValue, Number, String, EmptyArray, Array, EmptyObject, Object, True, False, Null}
use Rattle.bi_common.specs.JsonGrammar.{AreJsonValues, LastValue, NextValue, AreJsonMembers, LastMember, NextMember, IsJsonMember, Named}
use Rattle.bi_common.specs.JsonLaws.{JsonLinesAreJson}
use Rattle.bi_common.specs.Shown.{digits_of_byte}
use Rattle.bi_common.specs.ValueTexts.{is_printable, needs_backslash}
use Rattle.bi_common.proofs.PrintedTexts.{ArePrinted, json_printed}
use Rattle.bi_common.proofs.ReadableWords.Numbers.{AreDigits, IsAbove, decimal_above, decimal_below}

-- The text of a value is JSON.

-- ---- strings

plain : (byte : ℕ) → is_plain_byte byte ≡ true → is_unescaped byte ≡ true
plain byte is =
    let both = and_parts (is_printable byte) (not (needs_backslash byte)) is in
    let printable = both.0 in
    let other = both.1 in
    grind (arith, nat_tests, printable, other)

escaped : (byte : ℕ) → needs_backslash byte ≡ true → is_escaped byte ≡ true
escaped byte is = grind (arith, nat_tests, is)

glyph : (d : ℕ) (b : Bool) → ltb d 10 ≡ b → d < 16 → is_hexadecimal (cond b (48 + d) (55 + d)) ≡ true
glyph d true is small = grind (arith, nat_tests, is)
glyph d false is small = grind (arith, nat_tests, is, small)

by_number : (byte : ℕ) → byte < 256 → list_all is_hexadecimal (0x30 ∷ 0x30 ∷ digits_of_byte true byte) ≡ true
by_number byte small =
    let high = glyph (byte / 16) (ltb (byte / 16) 10) refl (omega (arith, small)) in
    let low = glyph (byte % 16) (ltb (byte % 16) 10) refl (omega arith) in
    rw (high, low) refl

character : (byte : ℕ) (text rest : List ℕ) → AreCharacters text rest → AreCharacters (string_byte byte ++ text) rest
character byte text rest are = by (is_plain_byte byte) (needs_backslash byte) refl refl
  where
    by : (a b : Bool) → is_plain_byte byte ≡ a → needs_backslash byte ≡ b →
        AreCharacters (cond a (byte ∷ []) (cond b (92 ∷ byte ∷ []) (codes "\\u00" ++ digits_of_byte true (byte % 256))) ++ text) rest
    by true b is also = Unescaped (plain byte is) are
    by false true is also = Escaped (escaped byte also) are
    by false false is also = ByNumber (by_number (byte % 256) (omega arith)) are

characters : (bytes rest : List ℕ) → AreCharacters (flat_map string_byte bytes ++ rest) rest
characters [] rest = NoCharacter
characters (byte ∷ later) rest =
    subst (λ (text : List ℕ). AreCharacters text rest) (sym (append_assoc (string_byte byte) (flat_map string_byte later) rest))
    (character byte (flat_map string_byte later ++ rest) rest (characters later rest))

string : (bytes rest : List ℕ) → IsJsonString (string_text bytes ++ rest) rest
string bytes rest =
    Quoted (subst (λ (text : List ℕ). AreCharacters text (34 ∷ rest)) (sym (append_assoc (flat_map string_byte bytes) (34 ∷ []) rest))
    (characters bytes (34 ∷ rest)))

-- ---- numbers

digit : (byte : ℕ) → 47 < byte → byte < 58 → is_digit byte ≡ true
digit byte low high = grind (arith, nat_tests)

first_digit : (byte : ℕ) → 48 < byte → byte < 58 → is_first_digit byte ≡ true
first_digit byte low high = grind (arith, nat_tests)

digits : (byte : ℕ) (later rest : List ℕ) → IsAbove (byte ∷ later) → AreDigits (byte ∷ later) → IsDigits (byte ∷ later ++ rest) rest
digits byte [] rest low high = Digit (digit byte low.0 high.0)
digits byte (next ∷ later) rest low high = Digits (digit byte low.0 high.0) (digits next later rest low.1 high.1)

integer : (text rest : List ℕ) → IsAbove text → AreDigits text → 0 < length text → 48 < get_or text 0 0 → IsInteger (text ++ rest) rest
integer [] rest low high some first = absurd (omega arith)
integer (byte ∷ []) rest low high some first = OneDigit (first_digit byte first high.0)
integer (byte ∷ next ∷ later) rest low high some first =
    FirstDigit (first_digit byte first high.0) (digits next later rest low.1 high.1)

number : (n : ℕ) (rest : List ℕ) → n < 2 ^ 64 → IsInteger (decimal n ++ rest) rest
number zero rest small =
    subst (λ (text : List ℕ). IsInteger (text ++ rest) rest) (sym (decimal_digit 0 (omega arith))) Zero
number (suc n) rest small =
    integer (decimal (suc n)) rest (decimal_above (suc n)) (decimal_below (suc n)) (decimal_nonempty (suc n) small)
    (first_decimal (suc n) (omega arith) small)

-- ---- values

pub plain_structural : (character : ℕ) (rest : List ℕ) → IsStructural character (character ∷ rest) rest
plain_structural character rest = record { after = rest; space = NoSpace; later_space = NoSpace }

bool : (value : Bool) (rest : List ℕ) → IsJsonValue (bool_text value ++ rest) rest
bool true rest = True
bool false rest = False

-- The parts of a member and the text after it.
member_parts : (name value later rest : List ℕ) →
    (name ++ (58 ∷ (value ++ later))) ++ rest ≡ name ++ (58 ∷ (value ++ (later ++ rest)))
member_parts name value later rest = simp append_assoc refl

mutual
  value : (own : Json) → HasNumbers own → (rest : List ℕ) → IsJsonValue (json_text own ++ rest) rest
  value json_null has rest = Null
  value (json_bool own) has rest = bool own rest
  value (json_number n) has rest = Number (record {
    after_sign = decimal n ++ rest;
    sign = NoMinus;
    after_integer = rest;
    integer = number n rest has;
    after_fraction = rest;
    fraction = NoFraction;
    exponent = NoExponent;
  })
  value (json_string bytes) has rest = String (string bytes rest)
  value (array_of no_value) has rest = EmptyArray (plain_structural 91 (93 ∷ rest)) (plain_structural 93 rest)
  value (array_of (next_value first later)) has rest =
      simp append_assoc
      (Array (plain_structural 91 _)
      (later_values later has.1 _ (93 ∷ rest) (value first has.0 (values_text true later ++ (93 ∷ rest))))
      (plain_structural 93 rest))
  value (object_of no_member) has rest = EmptyObject (plain_structural 123 (125 ∷ rest)) (plain_structural 125 rest)
  value (object_of (next_member name first later)) has rest =
      let own : List ℕ = string_text name ++ (58 ∷ (json_text first ++ members_text true later)) in
      subst (λ (text : List ℕ). IsJsonValue (123 ∷ text) rest)
      (sym (append_assoc own (125 ∷ []) rest ∙ member_parts (string_text name) (json_text first) (members_text true later) (125 ∷ rest)))
      (Object (plain_structural 123 _)
      (later_members later has.1 _ (125 ∷ rest) (Named (string name _) (plain_structural 58 _)
      (value first has.0 (members_text true later ++ (125 ∷ rest)))))
      (plain_structural 125 rest))

  -- Values after one.
  later_values : (later : JsonValues) → HaveNumbers later → (text rest : List ℕ) → IsJsonValue text (values_text true later ++ rest) →
      AreJsonValues text rest
  later_values no_value has text rest is = LastValue is
  later_values (next_value next later) has text rest is =
      NextValue is (plain_structural 44 _)
      (subst (λ (own : List ℕ). AreJsonValues own rest) (sym (append_assoc (json_text next) (values_text true later) rest))
      (later_values later has.1 _ rest (value next has.0 (values_text true later ++ rest))))

  -- Members after one.
  later_members : (later : JsonMembers) → MembersHaveNumbers later → (text rest : List ℕ) →
      IsJsonMember text (members_text true later ++ rest) → AreJsonMembers text rest
  later_members no_member has text rest is = LastMember is
  later_members (next_member name next later) has text rest is =
      NextMember is (plain_structural 44 _)
      (subst (λ (own : List ℕ). AreJsonMembers own rest)
      (sym (member_parts (string_text name) (json_text next) (members_text true later) rest))
      (later_members later has.1 _ rest (Named (string name _) (plain_structural 58 _)
      (value next has.0 (members_text true later ++ rest)))))

-- The numbers of values are those of each.
pub have_numbers : (values : List Json) → AllByRecursion HasNumbers values → HaveNumbers (json_values values)
have_numbers [] have = tt
have_numbers (value ∷ later) have = (have.0, have_numbers later have.1)

-- ---- lines

one_line : (text : List ℕ) → ArePrinted text → list_all (nat_le 0x20) text ≡ true
one_line [] are = refl
one_line (byte ∷ later) are = let first = are.0.0 in let others = one_line later are.1 in grind (arith, nat_tests, first, others)

pub json_lines_are_json : JsonLinesAreJson
json_lines_are_json own has = record {
  json = json_text own;
  is_json = record {
    start = json_text own;
    space = NoSpace;
    end = [];
    value = subst (λ (text : List ℕ). IsJsonValue text []) (append-nil (json_text own)) (value own has []);
    later_space = NoSpace;
  };
  is_one_line = one_line (json_text own) (json_printed own);
  is_line = refl;
}
