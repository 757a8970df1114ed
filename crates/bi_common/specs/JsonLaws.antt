use Rattle.std.specs.Prelude.{IsAscii}
use Rattle.bi_common.specs.Json.{Json, HasNumbers, json_line}
use Rattle.bi_common.specs.JsonGrammar.{IsJsonLine}

-- The text of each value is one line of JSON in ASCII.

-- The text of a value is one line of JSON, if its numbers are below 2^64.
abbrev pub JsonLinesAreJson : Type 0
JsonLinesAreJson = (value : Json) → HasNumbers value → IsJsonLine (json_line value)

-- The text of a value is ASCII.
abbrev pub JsonLinesAreAscii : Type 0
JsonLinesAreAscii = (value : Json) → IsAscii (json_line value)
