use Rattle.std.specs.Prelude.{ℕ, ◌<◌, ◌^◌, ◌%◌, ◌&&◌, not, ⊤, Bool, true, false, List, [], ◌∷◌}
use Rattle.std.specs.Prelude.{◌++◌, Option, None, Some, codes, flat_map, if◌then◌else◌}
use Rattle.std.specs.Fmt.{decimal}
use Rattle.bi_common.specs.Shown.{digits_of_byte}
use Rattle.bi_common.specs.ValueTexts.{is_printable, needs_backslash}

-- Values of JSON (RFC 8259), and their texts, which have no spaces.

mutual
  -- A value (RFC 8259, 3). A string is given by its characters.
  pub data Json : Type 0 where
    json_null : Json
    json_bool : Bool → Json
    json_number : ℕ → Json
    json_string : List ℕ → Json
    array_of : JsonValues → Json
    object_of : JsonMembers → Json

  -- The values of an array.
  pub data JsonValues : Type 0 where
    no_value : JsonValues
    next_value : Json → JsonValues → JsonValues

  -- The members of an object, each with its name.
  pub data JsonMembers : Type 0 where
    no_member : JsonMembers
    next_member : (name : List ℕ) → Json → JsonMembers → JsonMembers

-- A member of an object: its name and its value.
abbrev pub Member : Type 0
Member = List ℕ × Json

-- An array of these values (RFC 8259, 5).
abbrev pub json_values : List Json → JsonValues
json_values [] = no_value
json_values (value ∷ later) = next_value value (json_values later)

abbrev pub json_array : List Json → Json
json_array values = array_of (json_values values)

-- An object of these members, in this order (RFC 8259, 4).
abbrev pub json_members : List Member → JsonMembers
json_members [] = no_member
json_members (member ∷ later) = next_member member.0 member.1 (json_members later)

abbrev pub json_object : List Member → Json
json_object members = object_of (json_members members)

-- A string of these bytes, or `null` if there are none.
abbrev pub string_or_null : Option (List ℕ) → Json
string_or_null None = json_null
string_or_null (Some bytes) = json_string bytes

-- ---- texts

-- Whether a string can hold a byte without an escape: it is printable, and neither `"` nor a
-- backslash.
abbrev pub is_plain_byte : ℕ → Bool
is_plain_byte byte = is_printable byte && not (needs_backslash byte)

-- A byte of a string (RFC 8259, 7): itself, or after a backslash, or as the character with its
-- number.
abbrev pub string_byte : ℕ → List ℕ
string_byte byte =
    if is_plain_byte byte then byte ∷ [] else
    if needs_backslash byte then 92 ∷ byte ∷ []
    else codes "\\u00" ++ digits_of_byte true (byte % 256)

-- A string of these bytes.
abbrev pub string_text : List ℕ → List ℕ
string_text bytes = 34 ∷ (flat_map string_byte bytes ++ 34 ∷ [])

-- `true` or `false` (RFC 8259, 3).
abbrev pub bool_text : Bool → List ℕ
bool_text true = codes "true"
bool_text false = codes "false"

-- What comes before a value of an array or a member of an object: a comma, if it is not the first.
abbrev pub comma : (is_later : Bool) → List ℕ
comma false = []
comma true = 44 ∷ []

abbrev mutual
  -- The text of a value.
  pub json_text : Json → List ℕ
  json_text json_null = codes "null"
  json_text (json_bool value) = bool_text value
  json_text (json_number number) = decimal number
  json_text (json_string bytes) = string_text bytes
  json_text (array_of values) = 91 ∷ (values_text false values ++ 93 ∷ [])
  json_text (object_of members) = 123 ∷ (members_text false members ++ 125 ∷ [])

  -- The texts of values. `is_later` is whether there is a value before the first of them.
  pub values_text : (is_later : Bool) → JsonValues → List ℕ
  values_text is_later no_value = []
  values_text is_later (next_value value later) =
      comma is_later ++ (json_text value ++ values_text true later)

  -- The texts of members.
  pub members_text : (is_later : Bool) → JsonMembers → List ℕ
  members_text is_later no_member = []
  members_text is_later (next_member name value later) =
      comma is_later ++ (string_text name ++ (58 ∷ (json_text value ++ members_text true later)))

-- The text that a command writes for a value: the value and a newline.
abbrev pub json_line : Json → List ℕ
json_line value = json_text value ++ 10 ∷ []

-- ---- numbers

abbrev mutual
  -- Each number of a value is below 2^64.
  pub HasNumbers : Json → Type 0
  HasNumbers json_null = ⊤
  HasNumbers (json_bool value) = ⊤
  HasNumbers (json_number number) = number < 2 ^ 64
  HasNumbers (json_string bytes) = ⊤
  HasNumbers (array_of values) = HaveNumbers values
  HasNumbers (object_of members) = MembersHaveNumbers members

  pub HaveNumbers : JsonValues → Type 0
  HaveNumbers no_value = ⊤
  HaveNumbers (next_value value later) = HasNumbers value × HaveNumbers later

  pub MembersHaveNumbers : JsonMembers → Type 0
  MembersHaveNumbers no_member = ⊤
  MembersHaveNumbers (next_member name value later) = HasNumbers value × MembersHaveNumbers later
