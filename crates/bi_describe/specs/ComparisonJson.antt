use Rattle.std.specs.Prelude.{Bool, List, [], ◌∷◌, map, codes}
use Rattle.bi_common.specs.Json.{Json, json_array, json_bool, json_object, json_string}
use Rattle.bi_describe.specs.Differences.{SignedLine, sign_text}

-- The JSON that `compare` writes (profile of this project).

-- A line of the differences.
abbrev pub signed_object : SignedLine → Json
signed_object line =
    json_object
    ((codes "sign", json_string (sign_text line.sign)) ∷ (codes "line", json_string line.text)
    ∷ [])

-- Whether two meanings are the same, and the lines of their differences.
abbrev pub comparison_object : (same : Bool) → (differences : List SignedLine) → Json
comparison_object same differences =
    json_object
    ((codes "same", json_bool same)
    ∷ (codes "differences", json_array (map signed_object differences)) ∷ [])
