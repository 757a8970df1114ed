use Rattle.std.specs.Prelude.{ℕ, Bool, false, List, [], ◌∷◌, ◌++◌, Option, Some, None, bytes_eq}
use Rattle.std.specs.Prelude.{codes, flat_map, map, option_map, if◌then◌else◌}
use Rattle.bi_blob.specs.Blob.{Reservation}
use Rattle.bi_blob.specs.Tree.{with_each_node}
use Rattle.bi_common.specs.CommonLines.{reservation_line}
use Rattle.bi_common.specs.Lines.{Field, Line, Text, Decimal, Path, text_of_lines}
use Rattle.bi_describe.specs.ComparedNodes.{plain_compared}
use Rattle.bi_describe.specs.Descriptions.{description_lines}
use Rattle.bi_describe.specs.Devicetrees.{DeepMeaning, Devicetree, Insides}
use Rattle.bi_describe.specs.IgnoredWords.{inside_path, payload_path}
use Rattle.bi_describe.specs.Ignoring.{PayloadPlace, OfImageNamed, OfPart}
use Rattle.bi_describe.specs.ReducedMeanings.{ReducedTree, reduced_root_lines}

-- The deep description of what a boot image means: its description, and after the line of each
-- payload or part that is a devicetree the lines of that (profile of this project). The tree inside
-- is described as that of a flattened image tree without images, but for the paths of its nodes.

-- ---- a devicetree

-- A devicetree as it is described, if nothing is left out of it.
abbrev pub whole_devicetree : Devicetree → ReducedTree
whole_devicetree tree = record {
  cpu = tree.cpu;
  reservations = tree.reservations;
  root = Some (with_each_node plain_compared tree.root);
}

-- The line of its boot processor. The payload has this path.
abbrev pub inside_cpu_line : (payload : List ℕ) → (cpu : ℕ) → Line
inside_cpu_line payload cpu =
    Text (codes "inside") ∷ Text payload ∷ Text (codes "boot-cpu") ∷ Decimal cpu ∷ []

-- The line of a memory reservation: that of a reservation of the image itself after two words.
abbrev pub inside_reservation_line : (payload : List ℕ) → Reservation → Line
inside_reservation_line payload reservation =
    Text (codes "inside") ∷ Text payload ∷ reservation_line reservation

-- A word of a line, if its tree is inside the payload with this path: the path of a node is then a
-- path inside the payload.
abbrev pub word_of_inside : (payload : List ℕ) → Field → Field
word_of_inside payload (Path names) = Text (inside_path payload names)
word_of_inside payload word = word

abbrev pub line_inside : (payload : List ℕ) → Line → Line
line_inside payload words = map (word_of_inside payload) words

-- The lines of a devicetree inside the payload with this path. Those of the tree are none if its
-- root is left out.
abbrev pub inside_lines : (payload : List ℕ) → ReducedTree → List Line
inside_lines payload tree =
    inside_cpu_line payload tree.cpu
    ∷ (map (inside_reservation_line payload) tree.reservations
    ++ map (line_inside payload) (reduced_root_lines tree.root))

-- ---- descriptions

-- The last of these names. The root has none.
abbrev pub name_of_last : List (List ℕ) → List ℕ
name_of_last [] = []
name_of_last (name ∷ []) = name
name_of_last (name ∷ next ∷ later) = name_of_last (next ∷ later)

-- The place of the payload that a line is about: a line `payload` or `part` is about one.
abbrev pub place_of_line : Line → Option PayloadPlace
place_of_line (Text word ∷ Path names ∷ later) =
    if bytes_eq word (codes "payload") then Some (OfImageNamed (name_of_last names)) else None
place_of_line (Text word ∷ Decimal index ∷ later) =
    if bytes_eq word (codes "part") then Some (OfPart index) else None
place_of_line line = None

-- What is described of the devicetrees inside, and which payloads have no line of their own.
pub record InsidesShown : Type 0 where
  pub tree_at : PayloadPlace → Option ReducedTree
  pub is_left_out : PayloadPlace → Bool

-- All of them, and every payload has its line.
abbrev pub insides_shown : Insides → InsidesShown
insides_shown insides = record {
  tree_at = λ place. option_map whole_devicetree (insides place);
  is_left_out = λ place. false;
}

-- The lines of what is inside the payload at a place.
abbrev pub lines_at : PayloadPlace → Option ReducedTree → List Line
lines_at place None = []
lines_at place (Some tree) = inside_lines (payload_path place) tree

-- A line, if it stays, and the lines of what is inside the payload that it is about.
abbrev pub line_at : InsidesShown → Option PayloadPlace → Line → List Line
line_at shown None line = line ∷ []
line_at shown (Some place) line =
    (if shown.is_left_out place then [] else line ∷ []) ++ lines_at place (shown.tree_at place)

-- Lines of a description, with those of what is inside the payloads.
abbrev pub lines_with_inside : InsidesShown → List Line → List Line
lines_with_inside shown lines = flat_map (λ line. line_at shown (place_of_line line) line) lines

-- The lines of a deep description.
abbrev pub deep_lines : DeepMeaning → List Line
deep_lines deep = lines_with_inside (insides_shown deep.insides) (description_lines deep.meaning)

-- The deep description: its lines, each ended by a newline.
abbrev pub deep_description : DeepMeaning → List ℕ
deep_description deep = text_of_lines (deep_lines deep)
