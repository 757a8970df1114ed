use Rattle.std.specs.Prelude.{ℕ, List, [], ◌∷◌, Option, flat_map, map}
use Rattle.std.specs.Option.{option_map}
use Rattle.bi_common.specs.Json.{Json, Member, json_array, json_number, json_object, json_string}
use Rattle.bi_common.specs.Json.{string_or_null}
use Rattle.bi_common.specs.Lines.{Field, Line, Text, Decimal, Path, digits_or_dash, name_or_dash}
use Rattle.bi_common.specs.Shown.{path, shown_text}
use Rattle.bi_common.specs.ValueTexts.{hexadecimal_digits}

-- Details of what is reported on a boot image: words of a line, and members of an object in JSON
-- (profile of this project).

-- A detail, with the name of its member in JSON.
pub data Detail : Type 0 where
  -- A name. If it is not there, the word is `-` and the value is `null`.
  NameDetail : (member : List ℕ) → Option (List ℕ) → Detail
  -- The path of a node, by the names of the nodes on the way to it.
  PathDetail : (member : List ℕ) → (names : List (List ℕ)) → Detail
  -- A word.
  WordDetail : (member : List ℕ) → (word : List ℕ) → Detail
  -- A number.
  NumberDetail : (member : List ℕ) → ℕ → Detail
  -- The digits of a value. If it is not there, the word is `-` and the value is `null`. If it is
  -- empty, the word is `-` too.
  DigitsDetail : (member : List ℕ) → Option (List ℕ) → Detail
  -- Names: a word for each, and an array.
  NamesDetail : (member : List ℕ) → List (Option (List ℕ)) → Detail

-- The words for a detail.
abbrev pub detail_words : Detail → List Field
detail_words (NameDetail member name) = name_or_dash name ∷ []
detail_words (PathDetail member names) = Path names ∷ []
detail_words (WordDetail member word) = Text word ∷ []
detail_words (NumberDetail member number) = Decimal number ∷ []
detail_words (DigitsDetail member value) = digits_or_dash value ∷ []
detail_words (NamesDetail member names) = map name_or_dash names

-- The line of details.
abbrev pub details_line : List Detail → Line
details_line details = flat_map detail_words details

-- A name as a string of JSON: `null` if it is not there.
abbrev pub name_json : Option (List ℕ) → Json
name_json name = string_or_null (option_map shown_text name)

-- The member for a detail.
abbrev pub detail_member : Detail → Member
detail_member (NameDetail member name) = (member, name_json name)
detail_member (PathDetail member names) = (member, json_string (path names))
detail_member (WordDetail member word) = (member, json_string word)
detail_member (NumberDetail member number) = (member, json_number number)
detail_member (DigitsDetail member value) =
    (member, string_or_null (option_map hexadecimal_digits value))
detail_member (NamesDetail member names) = (member, json_array (map name_json names))

-- The object of details.
abbrev pub details_object : List Detail → Json
details_object details = json_object (map detail_member details)
