use Rattle.std.proofs.Common.{◌≡◌, ℕ, ◌<◌, ◌%◌, ◌^◌, ◌&&◌, ◌||◌, ◌==◌, not, Bool, true, false, ltb, List, [], ◌∷◌, ◌++◌, codes}
use Rattle.std.proofs.Common.{refl, sym}
use Rattle.std.proofs.Common.{ap, ap₂, ◌∙◌, append_assoc, arith, flat_map, length}
use Rattle.std.specs.Prelude.{⊤}
use Rattle.std.specs.Fmt.{decimal}
use Rattle.std.specs.List.{AllByRecursion, list_all}
use Rattle.std.proofs.lemmas.Bool.{and_parts, ltb-true}
use Rattle.std.proofs.lemmas.Bool.Decides.{nat_tests}
use Rattle.std.proofs.lemmas.Fmt.{decimal_injective, decimal_nonempty}
use Rattle.bi_common.specs.Json.{Json, JsonValues, JsonMembers, comma, is_plain_byte, json_text, members_text, string_byte}
use Rattle.bi_common.specs.Json.{string_text, values_text, HasNumbers, HaveNumbers, MembersHaveNumbers}
use Rattle.bi_common.specs.Json.{json_null, json_bool, json_number, json_string, array_of, object_of, no_value, next_value, no_member}
use Rattle.bi_common.specs.Json.{next_member}
use Rattle.bi_common.specs.Shown.{digits_of_byte}
use Rattle.bi_common.specs.ValueTexts.{is_printable, needs_backslash}
use Rattle.bi_common.proofs.ReadableWords.Cuts.{Ends, HasNoEnd, begin_apart, cut_agrees, first_same, later_same}
use Rattle.bi_common.proofs.ReadableWords.Numbers.{AreDigits, IsAbove, decimal_above, decimal_below}
use Rattle.bi_common.proofs.ReadableWords.ShownNames.{read_digits}

-- A value of JSON is read back from its text and what follows it, if its strings are bytes and its numbers have 64 bits.

-- Each element of a string is a byte.
abbrev pub AreSmall : List ℕ → Type 0
AreSmall bytes = AllByRecursion (λ byte. byte < 256) bytes

abbrev pub is_small : List ℕ → Bool
is_small bytes = list_all (λ byte. ltb byte 256) bytes

pub known_small : (bytes : List ℕ) → is_small bytes ≡ true → AreSmall bytes
known_small [] is = tt
known_small (byte ∷ later) is =
    let both = and_parts (ltb byte 256) (is_small later) is in
    (ltb-true byte 256 both.0, known_small later both.1)

abbrev mutual
  pub CanReadValue : Json → Type 0
  CanReadValue json_null = ⊤
  CanReadValue (json_bool value) = ⊤
  CanReadValue (json_number number) = number < 2 ^ 64
  CanReadValue (json_string bytes) = AreSmall bytes
  CanReadValue (array_of values) = CanReadValues values
  CanReadValue (object_of members) = CanReadMembers members

  pub CanReadValues : JsonValues → Type 0
  CanReadValues no_value = ⊤
  CanReadValues (next_value value later) = CanReadValue value × CanReadValues later

  pub CanReadMembers : JsonMembers → Type 0
  CanReadMembers no_member = ⊤
  CanReadMembers (next_member name value later) = (is_small name ≡ true) × (CanReadValue value × CanReadMembers later)

-- Its numbers have 64 bits.
mutual
  pub has_numbers : (value : Json) → CanReadValue value → HasNumbers value
  has_numbers json_null can = tt
  has_numbers (json_bool value) can = tt
  has_numbers (json_number number) can = can
  has_numbers (json_string bytes) can = tt
  has_numbers (array_of values) can = have_numbers values can
  has_numbers (object_of members) can = members_have_numbers members can

  have_numbers : (values : JsonValues) → CanReadValues values → HaveNumbers values
  have_numbers no_value can = tt
  have_numbers (next_value value later) can = (has_numbers value can.0, have_numbers later can.1)

  members_have_numbers : (members : JsonMembers) → CanReadMembers members → MembersHaveNumbers members
  members_have_numbers no_member can = tt
  members_have_numbers (next_member name value later) can = (has_numbers value can.1.0, members_have_numbers later can.1.1)

-- ---- strings

-- How a byte of a string is written.
data Written (byte : ℕ) : Type 0 where
  Plain : (byte ≡ 34 → ⊥) → (byte ≡ 92 → ⊥) → string_byte byte ≡ byte ∷ [] → Written byte
  Special : (byte ≡ 117 → ⊥) → string_byte byte ≡ 92 ∷ byte ∷ [] → Written byte
  Other : string_byte byte ≡ codes "\\u00" ++ digits_of_byte true (byte % 256) → Written byte

written : (byte : ℕ) → Written byte
written byte = by (is_plain_byte byte) (needs_backslash byte) refl refl
  where
    by : (p q : Bool) → is_plain_byte byte ≡ p → needs_backslash byte ≡ q → Written byte
    by true q is also =
        let parts = and_parts (is_printable byte) (not (needs_backslash byte)) is in
        Plain (grind (arith, nat_tests, parts)) (grind (arith, nat_tests, parts)) (rw is refl)
    by false true is also = Special (grind (arith, nat_tests, also)) (rw (is, also) refl)
    by false false is also = Other (rw (is, also) refl)

read_byte : (a b : ℕ) (x y : List ℕ) → a < 256 → b < 256 → string_byte a ++ x ≡ string_byte b ++ y → (a ≡ b) × (x ≡ y)
read_byte a b x y small also same = by (written a) (written b)
  where
    by : Written a → Written b → (a ≡ b) × (x ≡ y)
    by (Plain quote slash is) (Plain other_quote other_slash other) =
        let e : a ∷ x ≡ b ∷ y = rw (is, other) at same in (first_same e, later_same e)
    by (Plain quote slash is) (Special other_letter other) = let e : a ∷ x
        ≡ 92 ∷ b ∷ y = rw (is, other) at same in absurd (slash (first_same e))
    by (Plain quote slash is) (Other other) = let e = rw (is, other) at same in absurd (slash (first_same e))
    by (Special letter is) (Plain quote slash other) = let e : 92 ∷ a ∷ x
        ≡ b ∷ y = rw (is, other) at same in absurd (slash (sym (first_same e)))
    by (Special letter is) (Special other_letter other) =
        let e : 92 ∷ a ∷ x ≡ 92 ∷ b ∷ y = rw (is, other) at same in (first_same (later_same e), later_same (later_same e))
    by (Special letter is) (Other other) = let e = rw (is, other) at same in absurd (letter (first_same (later_same e)))
    by (Other is) (Plain quote slash other) = let e = rw (is, other) at same in absurd (slash (sym (first_same e)))
    by (Other is) (Special letter other) = let e = rw (is, other) at same in absurd (letter (sym (first_same (later_same e))))
    by (Other is) (Other other) =
        let e = rw (is, other) at same in
        let digits = read_digits true (a % 256) (b % 256) x y (later_same (later_same (later_same (later_same e)))) in
        let equal = digits.0 in
        (omega (arith, equal, small, also), digits.1)

no_quote : (byte : ℕ) (x y : List ℕ) → string_byte byte ++ x ≡ 34 ∷ y → ⊥
no_quote byte x y same = by (written byte)
  where
    by : Written byte → ⊥
    by (Plain quote slash is) = let e : byte ∷ x ≡ 34 ∷ y = rw is at same in quote (first_same e)
    by (Special letter is) = let e : 92 ∷ byte ∷ x ≡ 34 ∷ y = rw is at same in begin_apart 92 34 _ _ refl e
    by (Other is) = let e = rw is at same in begin_apart 92 34 _ _ refl e

read_bytes : (one other x y : List ℕ) → AreSmall one → AreSmall other →
    flat_map string_byte one ++ (34 ∷ x) ≡ flat_map string_byte other ++ (34 ∷ y) → (one ≡ other) × (x ≡ y)
read_bytes [] [] x y small also same = (refl, later_same same)
read_bytes [] (b ∷ other) x y small also same = absurd (no_quote b _ _ (sym (same ∙ append_assoc (string_byte b) _ _)))
read_bytes (a ∷ one) [] x y small also same = absurd (no_quote a _ _ (sym (append_assoc (string_byte a) _ _) ∙ same))
read_bytes (a ∷ one) (b ∷ other) x y small also same =
    let first = read_byte a b _ _ small.0 also.0 (sym (append_assoc (string_byte a) _ _) ∙ same ∙ append_assoc (string_byte b) _ _) in
    let rest = read_bytes one other x y small.1 also.1 first.1 in
    (ap₂ (λ (byte : ℕ) later. byte ∷ later) first.0 rest.0, rest.1)

read_string : (one other x y : List ℕ) → AreSmall one → AreSmall other → string_text one ++ x ≡ string_text other ++ y →
    (one ≡ other) × (x ≡ y)
read_string one other x y small also same =
    read_bytes one other x y small also
    (sym (append_assoc (flat_map string_byte one) (34 ∷ []) x) ∙ later_same same ∙ append_assoc (flat_map string_byte other) (34 ∷ []) y)

-- ---- numbers

-- What may follow a value: a comma, a bracket, a brace or a newline.
abbrev is_after : ℕ → Bool
is_after byte = byte == 44 || (byte == 93 || (byte == 125 || byte == 10))

digits_go_on : (word : List ℕ) → IsAbove word → AreDigits word → HasNoEnd is_after word
digits_go_on [] above below = tt
digits_go_on (byte ∷ later) above below =
    let low = above.0 in
    let high = below.0 in
    (grind (arith, nat_tests, low, high), digits_go_on later above.1 below.1)

read_number : (m n : ℕ) (x y : List ℕ) → m < 2 ^ 64 → n < 2 ^ 64 → Ends is_after x → Ends is_after y → decimal m ++ x ≡ decimal n ++ y →
    (m ≡ n) × (x ≡ y)
read_number m n x y small also end ending same =
    let cut = cut_agrees is_after (decimal m) (decimal n) x y (digits_go_on (decimal m) (decimal_above m) (decimal_below m))
    (digits_go_on (decimal n) (decimal_above n) (decimal_below n)) end ending same in
    (decimal_injective m n small also cut.0, cut.1)

-- A number does not begin with a character that is not a digit.
no_number : (n byte : ℕ) (x y : List ℕ) → n < 2 ^ 64 → ltb 47 byte && ltb byte 58 ≡ false → decimal n ++ x ≡ byte ∷ y → ⊥
no_number n byte x y small differs same = by (decimal n) (decimal_above n) (decimal_below n) (decimal_nonempty n small) same
  where
    by : (word : List ℕ) → IsAbove word → AreDigits word → 0 < length word → word ++ x ≡ byte ∷ y → ⊥
    by [] above below some same = omega (arith, some)
    by (first ∷ later) above below some same =
        let low = above.0 in
        let high = below.0 in
        let is = first_same same in
        grind (arith, nat_tests, low, high, is, differs)

-- ---- values

-- The first character of a value, or a digit.
abbrev first_of : Json → ℕ
first_of json_null = 110
first_of (json_bool true) = 116
first_of (json_bool false) = 102
first_of (json_number number) = 48
first_of (json_string bytes) = 34
first_of (array_of values) = 91
first_of (object_of members) = 123

no_bracket : (value : Json) (x y : List ℕ) → CanReadValue value → json_text value ++ x ≡ 93 ∷ y → ⊥
no_bracket json_null x y can same = begin_apart 110 93 _ _ refl same
no_bracket (json_bool true) x y can same = begin_apart 116 93 _ _ refl same
no_bracket (json_bool false) x y can same = begin_apart 102 93 _ _ refl same
no_bracket (json_number number) x y can same = no_number number 93 x y can refl same
no_bracket (json_string bytes) x y can same = begin_apart 34 93 _ _ refl same
no_bracket (array_of values) x y can same = begin_apart 91 93 _ _ refl same
no_bracket (object_of members) x y can same = begin_apart 123 93 _ _ refl same

values_end : (later : JsonValues) (x : List ℕ) → Ends is_after (values_text true later ++ (93 ∷ x))
values_end no_value x = refl
values_end (next_value value later) x = refl

members_end : (later : JsonMembers) (x : List ℕ) → Ends is_after (members_text true later ++ (125 ∷ x))
members_end no_member x = refl
members_end (next_member name value later) x = refl

without_comma : (is_later : Bool) (one other : List ℕ) → comma is_later ++ one ≡ comma is_later ++ other → one ≡ other
without_comma false one other same = same
without_comma true one other same = later_same same

member_parts : (before name value later rest : List ℕ) →
    (before ++ (name ++ (58 ∷ (value ++ later)))) ++ rest ≡ before ++ (name ++ (58 ∷ (value ++ (later ++ rest))))
member_parts before name value later rest = simp append_assoc refl

value_parts : (is_later : Bool) (value : Json) (later : JsonValues) (x : List ℕ) →
    values_text is_later (next_value value later) ++ (93 ∷ x) ≡ comma is_later ++ (json_text value ++ (values_text true later ++ (93 ∷ x)))
value_parts is_later value later x = simp append_assoc refl

not_at_end : (is_later : Bool) (value : Json) (later : JsonValues) (x y : List ℕ) → CanReadValue value →
    values_text is_later (next_value value later) ++ (93 ∷ x) ≡ 93 ∷ y → ⊥
not_at_end true value later x y can same = begin_apart 44 93 _ _ refl same
not_at_end false value later x y can same =
    no_bracket value _ y can (sym (append_assoc (json_text value) (values_text true later) (93 ∷ x)) ∙ same)

next_same : {a b : List ℕ} {c d : Json} {e f : JsonMembers} → a ≡ b → c ≡ d → e ≡ f → next_member a c e ≡ next_member b d f
next_same p q r = cc

mutual
  pub read_value : (one other : Json) (x y : List ℕ) → CanReadValue one → CanReadValue other → Ends is_after x → Ends is_after y →
      json_text one ++ x ≡ json_text other ++ y → (one ≡ other) × (x ≡ y)
  read_value json_null json_null x y can also end ending same = (refl, later_same (later_same (later_same (later_same same))))
  read_value (json_bool true) (json_bool true) x y can also end ending same = (refl, later_same (later_same (later_same (later_same same))))
  read_value (json_bool false) (json_bool false) x y can also end ending same =
      (refl, later_same (later_same (later_same (later_same (later_same same)))))
  read_value (json_number m) (json_number n) x y can also end ending same =
      let read = read_number m n x y can also end ending same in (ap json_number read.0, read.1)
  read_value (json_string one) (json_string other) x y can also end ending same =
      let read = read_string one other x y can also same in (ap json_string read.0, read.1)
  read_value (array_of one) (array_of other) x y can also end ending same =
      let read = read_values false one other x y can also
      (sym (append_assoc (values_text false one) (93 ∷ []) x) ∙ later_same same ∙ append_assoc (values_text false other) (93 ∷ []) y) in
      (ap array_of read.0, read.1)
  read_value (object_of one) (object_of other) x y can also end ending same =
      let read = read_members false one other x y can also
      (sym (append_assoc (members_text false one) (125 ∷ []) x) ∙ later_same same ∙ append_assoc (members_text false other) (125 ∷ []) y) in
      (ap object_of read.0, read.1)
  read_value (json_number m) (json_bool true) x y can also end ending same = absurd (no_number m 116 x _ can refl same)
  read_value (json_number m) (json_bool false) x y can also end ending same = absurd (no_number m 102 x _ can refl same)
  read_value (json_bool true) (json_number n) x y can also end ending same = absurd (no_number n 116 y _ also refl (sym same))
  read_value (json_bool false) (json_number n) x y can also end ending same = absurd (no_number n 102 y _ also refl (sym same))
  read_value (json_bool true) (json_bool false) x y can also end ending same = absurd (begin_apart 116 102 _ _ refl same)
  read_value (json_bool false) (json_bool true) x y can also end ending same = absurd (begin_apart 102 116 _ _ refl same)
  read_value (json_number m) other x y can also end ending same = absurd (no_number m (first_of other) x _ can refl same)
  read_value one (json_number n) x y can also end ending same = absurd (no_number n (first_of one) y _ also refl (sym same))
  read_value (json_bool true) other x y can also end ending same = absurd (begin_apart 116 (first_of other) _ _ refl same)
  read_value (json_bool false) other x y can also end ending same = absurd (begin_apart 102 (first_of other) _ _ refl same)
  read_value one (json_bool true) x y can also end ending same = absurd (begin_apart (first_of one) 116 _ _ refl same)
  read_value one (json_bool false) x y can also end ending same = absurd (begin_apart (first_of one) 102 _ _ refl same)
  read_value one other x y can also end ending same = absurd (begin_apart (first_of one) (first_of other) _ _ refl same)

  read_values : (is_later : Bool) (one other : JsonValues) (x y : List ℕ) → CanReadValues one → CanReadValues other →
      values_text is_later one ++ (93 ∷ x) ≡ values_text is_later other ++ (93 ∷ y) → (one ≡ other) × (x ≡ y)
  read_values is_later no_value no_value x y can also same = (refl, later_same same)
  read_values is_later no_value (next_value value later) x y can also same =
      absurd (not_at_end is_later value later y x also.0 (sym same))
  read_values is_later (next_value value later) no_value x y can also same = absurd (not_at_end is_later value later x y can.0 same)
  read_values is_later (next_value one later) (next_value other others) x y can also same =
      let first = read_value one other (values_text true later ++ (93 ∷ x)) (values_text true others ++ (93 ∷ y)) can.0 also.0
      (values_end later x) (values_end others y)
      (without_comma is_later _ _ (sym (value_parts is_later one later x) ∙ same ∙ value_parts is_later other others y)) in
      let rest = read_values true later others x y can.1 also.1 first.1 in
      (ap₂ next_value first.0 rest.0, rest.1)

  read_members : (is_later : Bool) (one other : JsonMembers) (x y : List ℕ) → CanReadMembers one → CanReadMembers other →
      members_text is_later one ++ (125 ∷ x) ≡ members_text is_later other ++ (125 ∷ y) → (one ≡ other) × (x ≡ y)
  read_members is_later no_member no_member x y can also same = (refl, later_same same)
  read_members true no_member (next_member name value later) x y can also same = absurd (begin_apart 125 44 _ _ refl same)
  read_members false no_member (next_member name value later) x y can also same = absurd (begin_apart 125 34 _ _ refl same)
  read_members true (next_member name value later) no_member x y can also same = absurd (begin_apart 44 125 _ _ refl same)
  read_members false (next_member name value later) no_member x y can also same = absurd (begin_apart 34 125 _ _ refl same)
  read_members is_later (next_member name one later) (next_member other_name other others) x y can also same =
      let names = read_string name other_name _ _ (known_small name can.0) (known_small other_name also.0)
      (without_comma is_later _ _ (sym (member_parts (comma is_later) (string_text name) (json_text one) (members_text true later)
      (125 ∷ x))
      ∙ same ∙ member_parts (comma is_later) (string_text other_name) (json_text other) (members_text true others) (125 ∷ y))) in
      let first = read_value one other (members_text true later ++ (125 ∷ x)) (members_text true others ++ (125 ∷ y)) can.1.0 also.1.0
      (members_end later x) (members_end others y) (later_same names.1) in
      let rest = read_members true later others x y can.1.1 also.1.1 first.1 in
      (next_same names.0 first.0 rest.0, rest.1)

-- Values with one text are the same.
pub same_json : (one other : Json) → CanReadValue one → CanReadValue other → json_text one ++ 10 ∷ [] ≡ json_text other ++ 10 ∷ [] →
    one ≡ other
same_json one other can also same = (read_value one other (10 ∷ []) (10 ∷ []) can also refl refl same).0
