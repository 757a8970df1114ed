use Rattle.std.specs.Prelude.{◌==◌, ℕ, List}
use Rattle.std.specs.List.{slice_split}

-- Words of the command line that have parts (profile of this project).

-- The words of a text, with a comma between each two.
abbrev pub listed_words : List ℕ → List (List ℕ)
listed_words text = slice_split (λ byte. byte == 44) text

-- The parts of a text between its colons.
abbrev pub parts_of : List ℕ → List (List ℕ)
parts_of argument = slice_split (λ byte. byte == 58) argument
