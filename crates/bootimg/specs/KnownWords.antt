use Rattle.std.specs.Prelude.{◌==◌, ℕ, List}
use Rattle.std.specs.List.{slice_split}

-- How known facts give a command line.

-- The words of a line: the pieces between its spaces.
abbrev pub words_of_line : List ℕ → List (List ℕ)
words_of_line line = slice_split (λ byte. byte == 32) line
