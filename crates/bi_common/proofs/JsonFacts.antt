use Rattle.std.proofs.Common.{◌≡◌, ℕ, ◌==◌, ◌||◌, Bool, true, false, List, [], ◌∷◌, ◌++◌, ◌⊎◌, inl, inr, codes, refl, sym, ap, ap₂, subst}
use Rattle.std.proofs.Common.{arith}
use Rattle.std.proofs.Common.{◌∙◌, ◌&&◌}
use Rattle.std.proofs.lemmas.Bool.Decides.{nat_tests}
use Rattle.std.specs.Fmt.{digits}
use Rattle.bi_common.specs.JsonGrammar.{IsSpace, NoSpace, Space, is_space, IsStructural, is_unescaped, is_first_digit}
use Rattle.bi_common.specs.JsonGrammar.{AreCharacters, NoCharacter, Unescaped, Escaped, ByNumber}
use Rattle.bi_common.specs.JsonGrammar.{IsDigits, Digit, Digits, is_digit, IsInteger, Zero, OneDigit, FirstDigit}
use Rattle.bi_common.specs.JsonGrammar.{IsSign, NoMinus, Minus, IsFraction, NoFraction, Fraction, IsExponent, NoExponent, Exponent}
use Rattle.bi_common.specs.JsonGrammar.{PlusOrMinus, IsJsonNumber, Quoted, IsJson}
use Rattle.bi_common.specs.JsonGrammar.{IsJsonValue, Number, String, EmptyArray, Array, EmptyObject, Object, True, False, Null}
use Rattle.bi_common.specs.JsonGrammar.{LastValue, NextValue, AreJsonMembers, LastMember, NextMember, IsJsonMember, Named}
use Rattle.bi_common.specs.KnownJson.{JsonIsKnown, JsonTextsAreKnown, IsNoJson}
use Rattle.bi_common.proofs.JsonTexts.{plain_structural}

-- These lemmas prove the known facts on JSON.

-- ---- texts that are JSON

one_digit : (rest : List ℕ) → IsJsonValue (0x31 ∷ rest) rest
one_digit rest = Number (record {
  after_sign = 0x31 ∷ rest;
  sign = NoMinus;
  after_integer = rest;
  integer = OneDigit refl;
  after_fraction = rest;
  fraction = NoFraction;
  exponent = NoExponent;
})

whole : (text : List ℕ) → IsJsonValue text [] → IsJson text
whole text is = record { start = text; space = NoSpace; end = []; value = is; later_space = NoSpace }

array : (rest : List ℕ) → IsJsonValue (codes "[1,{}]" ++ rest) rest
array rest =
    Array (plain_structural 91 (codes "1,{}]" ++ rest))
    (NextValue (one_digit (codes ",{}]" ++ rest)) (plain_structural 44 (codes "{}]" ++ rest))
    (LastValue (EmptyObject (plain_structural 123 (codes "}]" ++ rest)) (plain_structural 125 (93 ∷ rest)))))
    (plain_structural 93 rest)

members : IsJsonValue (codes "{\"a\":[1,{}],\"b\":null}") []
members =
    Object (plain_structural 123 (codes "\"a\":[1,{}],\"b\":null}"))
    (NextMember
    (Named (Quoted (Unescaped refl NoCharacter)) (plain_structural 58 (codes "[1,{}],\"b\":null}")) (array (codes ",\"b\":null}")))
    (plain_structural 44 (codes "\"b\":null}"))
    (LastMember (Named (Quoted (Unescaped refl NoCharacter)) (plain_structural 58 (codes "null}")) Null)))
    (plain_structural 125 [])

spaced : (character : ℕ) (rest : List ℕ) → IsStructural character (32 ∷ character ∷ 32 ∷ rest) rest
spaced character rest = record { after = 32 ∷ rest; space = Space refl NoSpace; later_space = Space refl NoSpace }

spaces : IsJsonValue (codes " [ true , -0.5e+3 ] ") []
spaces =
    Array (spaced 91 (codes "true , -0.5e+3 ] "))
    (NextValue True (spaced 44 (codes "-0.5e+3 ] ")) (LastValue (Number (record {
      after_sign = codes "0.5e+3 ] ";
      sign = Minus;
      after_integer = codes ".5e+3 ] ";
      integer = Zero;
      after_fraction = codes "e+3 ] ";
      fraction = Fraction (Digit refl);
      exponent = Exponent refl (PlusOrMinus refl) (Digit refl);
    }))))
    (spaced 93 [])

escapes : IsJsonValue (codes "\"\\\"\\u00e9\\n\"") []
escapes = String (Quoted (Escaped refl (ByNumber refl (Escaped refl NoCharacter))))

-- ---- texts that are not

same_first : {one other : ℕ} {text later : List ℕ} → one ∷ text ≡ other ∷ later → one ≡ other
same_first is = cc

same_later : {one other : ℕ} {text later : List ℕ} → one ∷ text ≡ other ∷ later → text ≡ later
same_later is = cc

true_false : true ≡ false → ⊥
true_false is = absurd cc

differ : (one other : ℕ) → one == other ≡ false → one ≡ other → ⊥
differ one other fails same = absurd (grind (arith, nat_tests, fails, same))

-- A test cannot both accept and reject the first character.
both_ways : {one other : ℕ} {text later : List ℕ} (test : ℕ → Bool) → test one ≡ true → one ∷ text ≡ other ∷ later → test other ≡ false → ⊥
both_ways test passes is fails = let e = subst (λ (n : ℕ). test n ≡ true) (same_first is) passes in absurd cc

-- If the first character is not white space, no white space comes before it.
no_space : {text rest : List ℕ} (first : ℕ) (later : List ℕ) → IsSpace text rest → text ≡ first ∷ later → is_space first ≡ false →
    rest ≡ text
no_space first later NoSpace is fails = refl
no_space first later (Space passes more) is fails = absurd (both_ways is_space passes is fails)

-- A structural character is then the first character.
structural : {character : ℕ} {text rest : List ℕ} (first : ℕ) (later : List ℕ) → IsStructural character text rest →
    text ≡ first ∷ later → is_space first ≡ false → (character ≡ first) × IsSpace later rest
structural {rest = rest} first later found is fails =
    let e : _ ∷ found.after ≡ first ∷ later = no_space first later found.space is fails ∙ is in
    (same_first e, subst (λ (text : List ℕ). IsSpace text rest) (same_later e) found.later_space)

-- A number begins with a minus or a digit.
no_number : {text rest : List ℕ} (first : ℕ) (later : List ℕ) → IsJsonNumber text rest → text ≡ first ∷ later →
    first == 0x2d ≡ false → is_digit first ≡ false → ⊥
no_number first later found is no_minus no_digit = integer found.integer (sign found.sign is)
  where
    sign : {text rest : List ℕ} → IsSign text rest → text ≡ first ∷ later → rest ≡ first ∷ later
    sign NoMinus is = is
    sign Minus is = absurd (both_ways (λ (n : ℕ). n == 0x2d) refl is no_minus)

    digit : (character : ℕ) → is_first_digit character ≡ true → is_digit character ≡ true
    digit character passes = grind (arith, nat_tests, passes)

    integer : {text rest : List ℕ} → IsInteger text rest → text ≡ first ∷ later → ⊥
    integer Zero is = both_ways is_digit refl is no_digit
    integer (OneDigit {character = character} passes) is = both_ways is_digit (digit character passes) is no_digit
    integer (FirstDigit {character = character} passes more) is = both_ways is_digit (digit character passes) is no_digit

-- If the character after the first digit cannot be part of the number, the number ends before it.
number_end : {text rest : List ℕ} (first next : ℕ) (later : List ℕ) → IsJsonNumber text rest → text ≡ first ∷ next ∷ later →
    first == 0x2d ≡ false → (is_first_digit first && is_digit next) ≡ false → next == 0x2e ≡ false →
    (next == 0x65 || next == 0x45) ≡ false → rest ≡ next ∷ later
number_end first next later found is no_minus no_digit no_point no_exponent =
    exponent found.exponent (fraction found.fraction (integer found.integer (sign found.sign is)))
  where
    sign : {text rest : List ℕ} → IsSign text rest → text ≡ first ∷ next ∷ later → rest ≡ first ∷ next ∷ later
    sign NoMinus is = is
    sign Minus is = absurd (both_ways (λ (n : ℕ). n == 0x2d) refl is no_minus)

    digits : {text rest : List ℕ} → IsDigits text rest → text ≡ next ∷ later → is_digit next ≡ true
    digits (Digit passes) is = subst (λ (n : ℕ). is_digit n ≡ true) (same_first is) passes
    digits (Digits passes more) is = subst (λ (n : ℕ). is_digit n ≡ true) (same_first is) passes

    integer : {text rest : List ℕ} → IsInteger text rest → text ≡ first ∷ next ∷ later → rest ≡ next ∷ later
    integer Zero is = same_later is
    integer (OneDigit passes) is = same_later is
    integer (FirstDigit passes more) is =
        let one : is_first_digit first ≡ true = subst (λ (n : ℕ). is_first_digit n ≡ true) (same_first is) passes in
        let two : is_digit next ≡ true = digits more (same_later is) in
        absurd (true_false (sym (ap₂ (λ (a b : Bool). a && b) one two) ∙ no_digit))

    fraction : {text rest : List ℕ} → IsFraction text rest → text ≡ next ∷ later → rest ≡ next ∷ later
    fraction NoFraction is = is
    fraction (Fraction more) is = absurd (both_ways (λ (n : ℕ). n == 0x2e) refl is no_point)

    exponent : {text rest : List ℕ} → IsExponent text rest → text ≡ next ∷ later → rest ≡ next ∷ later
    exponent NoExponent is = is
    exponent (Exponent passes more after) is = absurd (both_ways (λ (n : ℕ). n == 0x65 || n == 0x45) passes is no_exponent)

-- A value that begins with a digit is a number.
begins_digit : {text rest : List ℕ} (first : ℕ) (later : List ℕ) → IsJsonValue text rest → text ≡ first ∷ later → is_digit first ≡ true →
    is_space first ≡ false → IsJsonNumber text rest
begins_digit first later False is passes fails = absurd (true_false (sym passes ∙ sym (ap is_digit (same_first is))))
begins_digit first later Null is passes fails = absurd (true_false (sym passes ∙ sym (ap is_digit (same_first is))))
begins_digit first later True is passes fails = absurd (true_false (sym passes ∙ sym (ap is_digit (same_first is))))
begins_digit first later (Number found) is passes fails = found
begins_digit first later (String (Quoted more)) is passes fails = absurd (true_false (sym passes ∙ sym (ap is_digit (same_first is))))
begins_digit first later (EmptyArray left right) is passes fails =
    absurd (true_false (sym passes ∙ sym (ap is_digit (structural first later left is fails).0)))
begins_digit first later (Array left more right) is passes fails =
    absurd (true_false (sym passes ∙ sym (ap is_digit (structural first later left is fails).0)))
begins_digit first later (EmptyObject left right) is passes fails =
    absurd (true_false (sym passes ∙ sym (ap is_digit (structural first later left is fails).0)))
begins_digit first later (Object left more right) is passes fails =
    absurd (true_false (sym passes ∙ sym (ap is_digit (structural first later left is fails).0)))

-- A value that begins with a quote is a string.
begins_quote : {text rest : List ℕ} (later : List ℕ) → IsJsonValue text rest → text ≡ 34 ∷ later → AreCharacters later (34 ∷ rest)
begins_quote later False is = absurd (both_ways (λ (n : ℕ). n == 102) refl is refl)
begins_quote later Null is = absurd (both_ways (λ (n : ℕ). n == 110) refl is refl)
begins_quote later True is = absurd (both_ways (λ (n : ℕ). n == 116) refl is refl)
begins_quote later (Number found) is = absurd (no_number 34 later found is refl refl)
begins_quote {rest = rest} later (String (Quoted more)) is = subst (λ (text : List ℕ). AreCharacters text (34 ∷ rest)) (same_later is) more
begins_quote later (EmptyArray left right) is = absurd (differ 91 34 refl (structural 34 later left is refl).0)
begins_quote later (Array left more right) is = absurd (differ 91 34 refl (structural 34 later left is refl).0)
begins_quote later (EmptyObject left right) is = absurd (differ 123 34 refl (structural 34 later left is refl).0)
begins_quote later (Object left more right) is = absurd (differ 123 34 refl (structural 34 later left is refl).0)

-- The characters of a string end before a character that must be escaped.
end_before : {text rest : List ℕ} (first : ℕ) (later : List ℕ) → AreCharacters text rest → text ≡ first ∷ later →
    is_unescaped first ≡ false → first == 92 ≡ false → rest ≡ first ∷ later
end_before first later NoCharacter is fails other = is
end_before first later (Unescaped passes more) is fails other = absurd (both_ways is_unescaped passes is fails)
end_before first later (Escaped passes more) is fails other = absurd (both_ways (λ (n : ℕ). n == 92) refl is other)
end_before first later (ByNumber passes more) is fails other = absurd (both_ways (λ (n : ℕ). n == 92) refl is other)

-- If a character is not a backslash, the string ends before it or goes on after it.
go_on : {text rest : List ℕ} (first : ℕ) (later : List ℕ) → AreCharacters text rest → text ≡ first ∷ later → first == 92 ≡ false →
    (rest ≡ first ∷ later) ⊎ AreCharacters later rest
go_on first later NoCharacter is other = inl is
go_on {rest = rest} first later (Unescaped passes more) is other =
    inr (subst (λ (text : List ℕ). AreCharacters text rest) (same_later is) more)
go_on first later (Escaped passes more) is other = absurd (both_ways (λ (n : ℕ). n == 92) refl is other)
go_on first later (ByNumber passes more) is other = absurd (both_ways (λ (n : ℕ). n == 92) refl is other)

-- A string of one letter ends at the first quote after it.
one_letter : {rest : List ℕ} (letter : ℕ) (later : List ℕ) → AreCharacters (letter ∷ 34 ∷ later) (34 ∷ rest) → letter == 92 ≡ false →
    letter == 34 ≡ false → rest ≡ later
one_letter {rest = rest} letter later are other no_quote = by (go_on letter (34 ∷ later) are refl other)
  where
    by : (34 ∷ rest ≡ letter ∷ 34 ∷ later) ⊎ AreCharacters (34 ∷ later) (34 ∷ rest) → rest ≡ later
    by (inl is) = absurd (both_ways (λ (n : ℕ). n == 34) refl is no_quote)
    by (inr more) = same_later (end_before 34 later more refl refl refl)

-- If a text of JSON does not begin with white space, it begins with its value.
value_of : (first : ℕ) (later : List ℕ) (is : IsJson (first ∷ later)) → is_space first ≡ false → IsJsonValue (first ∷ later) is.end
value_of first later is fails = subst (λ (text : List ℕ). IsJsonValue text is.end) (no_space first later is.space refl fails) is.value

-- Only white space comes after the value.
not_after : (first : ℕ) (later : List ℕ) {rest : List ℕ} → IsSpace rest [] → rest ≡ first ∷ later → is_space first ≡ false → ⊥
not_after first later space is fails = let e = no_space first later space is fails ∙ is in absurd cc

first_zero : IsNoJson (codes "01")
first_zero is =
    let found = begins_digit 48 (49 ∷ []) (value_of 48 (49 ∷ []) is refl) refl refl refl in
    not_after 49 [] is.later_space (number_end 48 49 [] found refl refl refl refl refl) refl

control_character : IsNoJson (34 ∷ 10 ∷ 34 ∷ [])
control_character is =
    let are = begins_quote (10 ∷ 34 ∷ []) (value_of 34 (10 ∷ 34 ∷ []) is refl) refl in
    both_ways (λ (n : ℕ). n == 34) refl (end_before 10 (34 ∷ []) are refl refl refl) refl

quote_inside : IsNoJson (codes "\"a\"b\"")
quote_inside is =
    let are = begins_quote (codes "a\"b\"") (value_of 34 (codes "a\"b\"") is refl) refl in
    not_after 98 (34 ∷ []) is.later_space (one_letter 97 (98 ∷ 34 ∷ []) are refl refl) refl

-- A text that begins with a closing brace does not begin with a member.
no_member : {text rest : List ℕ} (later : List ℕ) → IsJsonMember text rest → text ≡ 125 ∷ later → ⊥
no_member later (Named (Quoted more) colon value) is = both_ways (λ (n : ℕ). n == 34) refl is refl

no_members : {text rest : List ℕ} (later : List ℕ) → AreJsonMembers text rest → text ≡ 125 ∷ later → ⊥
no_members later (LastMember member) is = no_member later member is
no_members later (NextMember member comma more) is = no_member later member is

-- The member ends before the comma,
member_end : {text rest : List ℕ} → IsJsonMember text rest → text ≡ codes "\"a\":1,}" → rest ≡ codes ",}"
member_end (Named {end = end} {value = value} (Quoted more) colon found) is =
    let are : AreCharacters (codes "a\":1,}") (34 ∷ end) = subst (λ (text : List ℕ). AreCharacters text (34 ∷ end)) (same_later is) more in
    let at_colon : end ≡ codes ":1,}" = one_letter 97 (codes ":1,}") are refl refl in
    let start : value ≡ codes "1,}" = no_space 49 (codes ",}") (structural 58 (codes "1,}") colon at_colon refl).1 refl refl in
    number_end 49 44 (codes "}") (begins_digit 49 (codes ",}") found start refl refl) start refl refl refl refl

-- and no member comes after the comma.
members_end : {text rest : List ℕ} → AreJsonMembers text rest → text ≡ codes "\"a\":1,}" → rest ≡ codes ",}"
members_end (LastMember member) is = member_end member is
members_end (NextMember member comma more) is =
    absurd (no_members [] more (no_space 125 [] (structural 44 (codes "}") comma (member_end member is) refl).1 refl refl))

-- This is the text between the braces.
abbrev IsInBraces : (text rest : List ℕ) → Type 0
IsInBraces text rest =
    ((end : List ℕ) × IsSpace text end × IsStructural 125 end rest)
    ⊎ ((start end : List ℕ) × IsSpace text start × AreJsonMembers start end × IsStructural 125 end rest)

begins_brace : {text rest : List ℕ} (later : List ℕ) → IsJsonValue text rest → text ≡ 123 ∷ later → IsInBraces later rest
begins_brace later False is = absurd (both_ways (λ (n : ℕ). n == 102) refl is refl)
begins_brace later Null is = absurd (both_ways (λ (n : ℕ). n == 110) refl is refl)
begins_brace later True is = absurd (both_ways (λ (n : ℕ). n == 116) refl is refl)
begins_brace later (Number found) is = absurd (no_number 123 later found is refl refl)
begins_brace later (String (Quoted more)) is = absurd (both_ways (λ (n : ℕ). n == 34) refl is refl)
begins_brace later (EmptyArray left right) is = absurd (differ 91 123 refl (structural 123 later left is refl).0)
begins_brace later (Array left more right) is = absurd (differ 91 123 refl (structural 123 later left is refl).0)
begins_brace later (EmptyObject {end = end} left right) is = inl (end, (structural 123 later left is refl).1, right)
begins_brace later (Object {members = start} {end = end} left more right) is =
    inr (start, end, (structural 123 later left is refl).1, more, right)

last_comma : IsNoJson (codes "{\"a\":1,}")
last_comma is = by (begins_brace (codes "\"a\":1,}") (value_of 123 (codes "\"a\":1,}") is refl) refl)
  where
    by : IsInBraces (codes "\"a\":1,}") is.end → ⊥
    by (inl (end, space, right)) =
        differ 125 34 refl (structural 34 (codes "a\":1,}") right (no_space 34 (codes "a\":1,}") space refl refl) refl).0
    by (inr (start, end, space, more, right)) =
        differ 125 44 refl (structural 44 (codes "}") right (members_end more (no_space 34 (codes "a\":1,}") space refl refl)) refl).0

-- The empty text is not JSON.
no_spaces : {text rest : List ℕ} → IsSpace text rest → text ≡ [] → rest ≡ []
no_spaces NoSpace is = is
no_spaces (Space passes more) is = absurd cc

no_structural : {character : ℕ} {text rest : List ℕ} → IsStructural character text rest → text ≡ [] → ⊥
no_structural found is = let e = no_spaces found.space is in absurd cc

no_value : {text rest : List ℕ} → IsJsonValue text rest → text ≡ [] → ⊥
no_value False is = absurd cc
no_value Null is = absurd cc
no_value True is = absurd cc
no_value (Number found) is = integer found.integer (sign found.sign is)
  where
    sign : {text rest : List ℕ} → IsSign text rest → text ≡ [] → rest ≡ []
    sign NoMinus is = is
    sign Minus is = absurd cc

    integer : {text rest : List ℕ} → IsInteger text rest → text ≡ [] → ⊥
    integer Zero is = absurd cc
    integer (OneDigit passes) is = absurd cc
    integer (FirstDigit passes more) is = absurd cc
no_value (String (Quoted more)) is = absurd cc
no_value (EmptyArray left right) is = no_structural left is
no_value (Array left more right) is = no_structural left is
no_value (EmptyObject left right) is = no_structural left is
no_value (Object left more right) is = no_structural left is

nothing : IsNoJson []
nothing is = no_value is.value (no_spaces is.space refl)

pub json_is_known : JsonIsKnown
json_is_known = record {
  members = whole (codes "{\"a\":[1,{}],\"b\":null}") members;
  spaces = whole (codes " [ true , -0.5e+3 ] ") spaces;
  escapes = whole (codes "\"\\\"\\u00e9\\n\"") escapes;
  nothing = nothing;
  last_comma = last_comma;
  first_zero = first_zero;
  control_character = control_character;
  quote_inside = quote_inside;
}

-- Values have known texts.
pub json_texts_are_known : JsonTextsAreKnown
unfolding digits
json_texts_are_known = record { values = refl; escaped = refl; before_first = refl; after_last = refl }
