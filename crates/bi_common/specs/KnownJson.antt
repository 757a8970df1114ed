use Rattle.std.specs.Prelude.{ℕ, ◌≡◌, List, [], ◌∷◌, codes}
use Rattle.bi_common.specs.Json.{json_array, json_line, json_null, json_number, json_object}
use Rattle.bi_common.specs.Json.{json_string, json_text}
use Rattle.bi_common.specs.JsonGrammar.{IsJson}

-- What is known of JSON (RFC 8259): texts that are JSON, and texts that are not.

-- The text is not JSON.
abbrev pub IsNoJson : List ℕ → Type 0
IsNoJson text = ¬ (IsJson text)

pub record JsonIsKnown : Type 0 where
  pub members : IsJson (codes "{\"a\":[1,{}],\"b\":null}")
  pub spaces : IsJson (codes " [ true , -0.5e+3 ] ")
  pub escapes : IsJson (codes "\"\\\"\\u00e9\\n\"")
  pub nothing : IsNoJson []
  pub last_comma : IsNoJson (codes "{\"a\":1,}")
  pub first_zero : IsNoJson (codes "01")
  pub control_character : IsNoJson (34 ∷ 10 ∷ 34 ∷ [])
  pub quote_inside : IsNoJson (codes "\"a\"b\"")

-- The texts of values: arrays, objects and strings. In a string `"` and a backslash are escaped,
-- and so is each byte other than 0x20 to 0x7e.
pub record JsonTextsAreKnown : Type 0 where
  pub values : json_line (json_object
      ((codes "a", json_array (json_number 1 ∷ json_object [] ∷ [])) ∷ (codes "b", json_null) ∷ []))
      ≡ codes "{\"a\":[1,{}],\"b\":null}\n"
  pub escaped : json_text (json_string (codes "say \"hi\" in C:\\"))
      ≡ codes "\"say \\\"hi\\\" in C:\\\\\""
  pub before_first : json_text (json_string (0x1f ∷ [])) ≡ codes "\"\\u001F\""
  pub after_last : json_text (json_string (0x7f ∷ 0xff ∷ [])) ≡ codes "\"\\u007F\\u00FF\""
