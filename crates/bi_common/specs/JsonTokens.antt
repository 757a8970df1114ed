use Rattle.std.specs.Prelude.{ℕ, Bool, true, false, List, [], ◌∷◌, ◌++◌, codes}
use Rattle.std.specs.Prelude.{if◌then◌else◌}
use Rattle.bi_common.specs.Json.{Json, JsonValues, JsonMembers, Member, comma, json_text}
use Rattle.bi_common.specs.Json.{string_text, json_values, json_members}
use Rattle.bi_common.specs.Json.{json_null, json_bool, json_number, json_string}
use Rattle.bi_common.specs.Json.{array_of, object_of, no_value, next_value, no_member, next_member}
use Rattle.bi_common.specs.Tokens.{Writing}

-- Values of JSON, token by token.

-- A token. A scalar is a value that is neither an array nor an object.
pub data JsonToken : Type 0 where
  BeginArray : JsonToken
  EndArray : JsonToken
  BeginObject : JsonToken
  EndObject : JsonToken
  MemberName : List ℕ → JsonToken
  Scalar : Json → JsonToken

-- One token. It is not unfolded, so that a list that is built of it keeps its pieces.
unfoldable pub one : JsonToken → List JsonToken
one token = token ∷ []

abbrev mutual
  -- The tokens of a value.
  pub json_tokens : Json → List JsonToken
  json_tokens json_null = one (Scalar json_null)
  json_tokens (json_bool value) = one (Scalar (json_bool value))
  json_tokens (json_number number) = one (Scalar (json_number number))
  json_tokens (json_string bytes) = one (Scalar (json_string bytes))
  json_tokens (array_of values) = one BeginArray ++ (tokens_of_values values ++ one EndArray)
  json_tokens (object_of members) =
      one BeginObject ++ (tokens_of_members members ++ one EndObject)

  pub tokens_of_values : JsonValues → List JsonToken
  tokens_of_values no_value = []
  tokens_of_values (next_value value later) = json_tokens value ++ tokens_of_values later

  pub tokens_of_members : JsonMembers → List JsonToken
  tokens_of_members no_member = []
  tokens_of_members (next_member name value later) =
      one (MemberName name) ++ (json_tokens value ++ tokens_of_members later)

-- The tokens of values in an array.
abbrev pub value_tokens : List Json → List JsonToken
value_tokens values = tokens_of_values (json_values values)

-- The tokens of members in an object.
abbrev pub member_tokens : List Member → List JsonToken
member_tokens members = tokens_of_members (json_members members)

-- ---- how they are written

-- Whether a token ends an array or an object.
abbrev pub is_end : JsonToken → Bool
is_end EndArray = true
is_end EndObject = true
is_end token = false

-- Whether a comma comes before what follows a token, if that is not an end.
abbrev pub needs_comma : JsonToken → Bool
needs_comma (Scalar value) = true
needs_comma token = is_end token

-- A token without a comma.
abbrev pub bare_text : JsonToken → List ℕ
bare_text BeginArray = codes "["
bare_text EndArray = codes "]"
bare_text BeginObject = codes "{"
bare_text EndObject = codes "}"
bare_text (MemberName name) = string_text name ++ codes ":"
bare_text (Scalar value) = json_text value

-- A token after others. `is_later` is whether a comma comes before it, if it is not an end.
abbrev pub token_text : (is_later : Bool) → JsonToken → List ℕ
token_text is_later token =
    (if is_end token then [] else comma is_later) ++ bare_text token

-- How tokens of JSON are written: the fact is whether a comma comes before the next token.
abbrev pub json_writing : Writing JsonToken
json_writing = record { text = token_text; next = λ is_later token. needs_comma token }
