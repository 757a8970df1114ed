use Rattle.std.specs.Prelude.{ℕ, List, drop}

-- Images that begin at an offset of an input (profile of this project).

-- The image at an offset: the input from there on. If the input ends before, the image is empty.
abbrev pub input_from : (offset : ℕ) → (input : List ℕ) → List ℕ
input_from offset input = drop offset input
