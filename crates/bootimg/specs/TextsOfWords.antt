use Rattle.std.specs.Prelude.{ℕ, List, Option, option_map}
use Rattle.bootimg.specs.declared.codes.CodeWord.{CodeWord}

-- The texts of code words of the command line (profile of this project).

-- The text that a word gives an image node, if its code has one.
abbrev pub text_of_word : CodeWord → Option (List ℕ)
text_of_word word = option_map (λ text. text.now) word.text
