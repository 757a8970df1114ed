use Rattle.std.specs.Prelude.{ℕ, ◌≡◌, ◌↔◌, ⊤, List, [], ◌∷◌, map}
use Rattle.std.specs.List.{AllZip}
use Rattle.bi_commands.specs.declared.parts.Part.{Part}
use Rattle.bi_commands.specs.declared.parts.Part.TheVariants.{Bytes, Length}
use Rattle.bi_norm.specs.Cutting.{IsCut}

-- The parts of an image to be built, whose bytes are given or are pieces of an input (profile of
-- this project).

-- The lengths of the parts that are pieces of the input, in their order.
abbrev pub lengths_of : List Part → List ℕ
lengths_of [] = []
lengths_of (Bytes bytes ∷ parts) = lengths_of parts
lengths_of (Length size ∷ parts) = size ∷ lengths_of parts

-- The contents of the parts that are pieces of the input, among the contents of all parts.
abbrev pub pieces_among : List Part → List (List ℕ) → List (List ℕ)
pieces_among (Bytes bytes ∷ parts) (content ∷ contents) = pieces_among parts contents
pieces_among (Length size ∷ parts) (content ∷ contents) = content ∷ pieces_among parts contents
pieces_among parts contents = []

-- A part whose bytes are given has these as its content.
abbrev pub HasGivenBytes : Part → List ℕ → Type 0
HasGivenBytes (Bytes bytes) content = content ≡ bytes.now
HasGivenBytes (Length size) content = ⊤

-- Each part has its content, in their order: the bytes that are given, and as the others the pieces
-- that the input is cut into.
pub record IsFilled (parts : List Part) (input : List ℕ) (contents : List (List ℕ)) : Type 0 where
  pub given : AllZip HasGivenBytes parts contents
  pub cut : IsCut input (lengths_of parts) (pieces_among parts contents)

-- The parts that are pieces of the input, of these lengths.
abbrev pub parts_of_lengths : List ℕ → List Part
parts_of_lengths lengths = map Length lengths

-- If each part is a piece of the input, their contents are the pieces that the input is cut into,
-- and the lengths of the parts that have one are those of the pieces.
pub record LengthsAreCut : Type 0 where
  pub contents : (lengths input : List ℕ) (contents : List (List ℕ))
      → IsFilled (parts_of_lengths lengths) input contents ↔ IsCut input lengths contents
  pub lengths : (lengths : List ℕ) → lengths_of (parts_of_lengths lengths) ≡ lengths

-- ---- what is computed of one part

-- How many bytes of the input a part is.
abbrev pub input_length_of : Part → ℕ
input_length_of (Bytes bytes) = 0
input_length_of (Length size) = size

-- The content of a part, if it is this piece of the input or bytes that are given.
abbrev pub content_of : Part → List ℕ → List ℕ
content_of (Bytes bytes) piece = bytes.now
content_of (Length size) piece = piece
