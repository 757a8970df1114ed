use Rattle.std.specs.Prelude.{ℕ, List, map}
use Rattle.std.specs.Borrow.{Bor}
use Rattle.bi_common.specs.declared.fields.Field.{Field as MadeField}
use Rattle.bi_common.specs.declared.fields.Field.TheVariants as field
use Rattle.bi_common.specs.declared.json_writer.JsonToken.{JsonToken as MadeToken}
use Rattle.bi_common.specs.declared.json_writer.JsonToken.TheVariants as token
use Rattle.bi_common.specs.declared.json_writer.JsonValue.{JsonValue}
use Rattle.bi_common.specs.declared.json_writer.JsonValue.TheVariants as value
use Rattle.bi_common.specs.declared.json_writer.JsonWriter.{JsonWriter}
use Rattle.bi_common.specs.declared.lines.LineWriter.{LineWriter}
use Rattle.bi_common.specs.Json.{Json, Member, json_null, json_bool, json_number, json_string}
use Rattle.bi_common.specs.JsonTokens.{JsonToken, BeginArray, EndArray, BeginObject, EndObject}
use Rattle.bi_common.specs.JsonTokens.{MemberName, Scalar, json_writing}
use Rattle.bi_common.specs.LineTokens.{LineToken, line_writing}
use Rattle.bi_common.specs.Lines.{Field, Line, field_text}
use Rattle.bi_common.specs.Lines.{Text, Name, Decimal, Hexadecimal, Hexadecimal64, Digits, Path}
use Rattle.bi_common.specs.Lines.{Value}
use Rattle.bi_common.specs.Tokens.{PutsTokens}

-- Fields, values of JSON and what puts them, as the code has them.

-- The bytes of names.
abbrev pub bytes_of_names : List (Bor (List ℕ)) → List (List ℕ)
bytes_of_names names = map (λ name. name.now) names

-- A field.
abbrev pub field_of : MadeField → Field
field_of (field.Text text) = Text text.now
field_of (field.Shown name) = Name name.now
field_of (field.Decimal number) = Decimal number
field_of (field.Hexadecimal number) = Hexadecimal number
field_of (field.Hexadecimal64 number) = Hexadecimal64 number
field_of (field.Sha256 digest) = Digits digest
field_of (field.Digits bytes) = Digits bytes.now
field_of (field.Path names) = Path (bytes_of_names names.now)
field_of (field.Value value) = Value value.now

-- The words of a line.
abbrev pub words_of : List MadeField → Line
words_of fields = map field_of fields

-- A value of JSON.
abbrev pub value_json : JsonValue → Json
value_json (value.String field) = json_string (field_text (field_of field))
value_json (value.Number number) = json_number number
value_json (value.Bool bool) = json_bool bool
value_json value.Null = json_null

-- A member.
abbrev pub member_of : Bor (List ℕ) × JsonValue → Member
member_of member = (member.0.now, value_json member.1)

-- A token.
abbrev pub json_token_of : MadeToken → JsonToken
json_token_of token.BeginArray = BeginArray
json_token_of token.EndArray = EndArray
json_token_of token.BeginObject = BeginObject
json_token_of token.EndObject = EndObject
json_token_of (token.Name name) = MemberName name.now
json_token_of (token.Value value) = Scalar (value_json value)

-- What a pen for JSON puts to the pen that it borrows.
abbrev pub JsonPuts : {P : Type 0} → (P → List ℕ → P → Type 0) → JsonWriter P → List JsonToken
    → JsonWriter P → Type 0
JsonPuts puts old tokens new =
    PutsTokens puts json_writing old.pen old.needs_comma tokens new.pen new.needs_comma

-- What a pen for lines puts to the pen that it borrows.
abbrev pub LinePuts : {P : Type 0} → (P → List ℕ → P → Type 0) → LineWriter P → List LineToken
    → LineWriter P → Type 0
LinePuts puts old tokens new =
    PutsTokens puts line_writing old.pen old.has_word tokens new.pen new.has_word
