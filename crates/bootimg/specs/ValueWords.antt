use Rattle.std.specs.Prelude.{◌≡◌, ◌++◌, ℕ, List, [], ◌∷◌, Option, None, Some, codes}
use Rattle.bi_values.specs.declared.value_form.ValueForm.{ValueForm}
use Rattle.bi_values.specs.declared.value_form.ValueForm.TheVariants.{Shown, Text, Number, Raw}
use Rattle.bootimg.specs.declared.command_line.values.ValueWords.{ValueWords}
use Rattle.bootimg.specs.declared.command_line.values.ValueWords.TheVariants.{Property, Field}

-- The words of the command `get` (profile of this project).

-- The value of `--as` for a form. The first form is that without the option.
abbrev pub form_argument : ValueForm → Option (List ℕ)
form_argument Shown = None
form_argument Text = Some (codes "text")
form_argument Number = Some (codes "number")
form_argument Raw = Some (codes "raw")

-- The words that name a value, in their order.
abbrev pub texts_of_value : ValueWords → List (List ℕ)
texts_of_value (Property path name) = path.now ∷ name.now ∷ []
texts_of_value (Field word) = word.now ∷ []

-- The same words in a line, with a space between two.
abbrev pub value_words_text : ValueWords → List ℕ
value_words_text (Property path name) = path.now ++ (codes " " ++ name.now)
value_words_text (Field word) = word.now

-- The words begin with these ones.
abbrev pub BeginWithWords : (words first : List (List ℕ)) → Type 0
BeginWithWords words first = (later : List (List ℕ)) × (words ≡ first ++ later)
