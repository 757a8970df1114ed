use Rattle.std.proofs.Common.{◌≡◌, ℕ, Bool, true, false, IsAscii, List, [], ◌∷◌, ◌++◌, Option, None, Some, arith, codes, map, flat_map}
use Rattle.std.proofs.Common.{refl, sym, subst}
use Rattle.std.proofs.Common.{bytes_eq, inl, inr}
use Rattle.std.specs.Prelude.{⊤, if◌then◌else◌}
use Rattle.std.specs.Fmt.{decimal}
use Rattle.std.specs.List.{AllByRecursion, list_all}
use Rattle.std.specs.Option.{option_map}
use Rattle.std.proofs.lemmas.Bool.{le-leb}
use Rattle.bi_base.specs.Cells.{AreBytes}
use Rattle.bi_base.specs.Limits.{Limits}
use Rattle.bi_base.proofs.ListMembers.{each-append}
use Rattle.bi_blob.specs.Blob.{Reservation}
use Rattle.bi_blob.specs.Tree.{with_each, with_each_node}
use Rattle.bi_fit.specs.Names.{images_name}
use Rattle.bi_norm.specs.Meaning.{Meaning}
use Rattle.bi_common.specs.declared.format.Format.{Format}
use Rattle.bi_common.specs.declared.format.Format.TheVariants.{Json, Lines}
use Rattle.bi_common.specs.Lines.{CanPrint, Decimal, Digits, Field, Hexadecimal, Hexadecimal64, Line, Name, Path, Text, Value}
use Rattle.bi_common.specs.Lines.{text_of_lines}
use Rattle.bi_common.specs.Shown.{path, shown_text}
use Rattle.bi_common.specs.ValueTexts.{is_printable}
use Rattle.bi_common.proofs.PrintedTexts.{ArePrinted, decimal_printed, json_lines_are_ascii, known_printed, printed-append}
use Rattle.bi_common.proofs.PrintedWords.{CanPrintLine, CanPrintLines, line_texts_are_ascii, name_printed}
use Rattle.bi_describe.specs.ComparedNodes.{described_node, plain_compared}
use Rattle.bi_describe.specs.DeepDescribing.{deep_text}
use Rattle.bi_describe.specs.DeepJson.{deep_object}
use Rattle.bi_describe.specs.DeepDescriptions.{InsidesShown, deep_lines, inside_reservation_line, insides_shown, line_at, line_inside}
use Rattle.bi_describe.specs.DeepDescriptions.{lines_at, lines_with_inside, name_of_last, place_of_line, whole_devicetree, word_of_inside}
use Rattle.bi_describe.specs.Descriptions.{description_lines, node_lines, own_lines, plain_node}
use Rattle.bi_describe.specs.Devicetrees.{AreInside, Devicetree, HasInside, Insides, IsDevicetree, payloads_at_places}
use Rattle.bi_describe.specs.IgnoredWords.{inside_path, payload_path}
use Rattle.bi_describe.specs.Ignoring.{Ignored, OfImageNamed, OfPart, PayloadPlace}
use Rattle.bi_describe.specs.OpenedPayloads.{deep_lines_without, shown_without, tree_without, words_inside}
use Rattle.bi_describe.specs.ReducedMeanings.{ReducedTree, meaning_without, reduced_lines, reduced_root_lines}
use Rattle.bi_describe.proofs.ComparedTrees.{as_described, plain_described}
use Rattle.bi_describe.proofs.LinesThatStay.{lines_stay, stays_of_root}
use Rattle.bi_describe.proofs.OneInside.{FoundAt, found_payload}
use Rattle.bi_describe.proofs.PrintedDescriptions.{nodes_can, own_can}
use Rattle.bi_describe.proofs.ShownDevicetrees.{root_shown}

-- The lines of a deep description can be printed, so it is ASCII.

-- ---- paths

all_printable : (text : List ℕ) → ArePrinted text → list_all is_printable text ≡ true
all_printable [] are = refl
all_printable (byte ∷ later) are =
    rw (le-leb 0x20 byte are.0.0, le-leb byte 0x7e (omega (arith, are.0.1))) (all_printable later are.1)

steps : (names : List (List ℕ)) → AllByRecursion AreBytes names → ArePrinted (flat_map (λ other. 47 ∷ shown_text other) names)
steps [] are = tt
steps (name ∷ names) are =
    printed-append (47 ∷ shown_text name) (flat_map (λ other. 47 ∷ shown_text other) names)
    ((omega arith, omega arith), name_printed name are.0) (steps names are.1)

path_printed : (names : List (List ℕ)) → AllByRecursion AreBytes names → ArePrinted (path names)
path_printed [] are = known_printed (codes "/") refl
path_printed (name ∷ names) are = steps (name ∷ names) are

-- The name of an image is bytes.
abbrev HasByteName : PayloadPlace → Type 0
HasByteName (OfImageNamed name) = AreBytes name
HasByteName (OfPart index) = ⊤

place_printed : (place : PayloadPlace) → HasByteName place → ArePrinted (payload_path place)
place_printed (OfImageNamed name) bytes =
    printed-append (47 ∷ shown_text images_name) (flat_map (λ other. 47 ∷ shown_text other) (name ∷ []))
    (known_printed (47 ∷ shown_text images_name) refl) (steps (name ∷ []) (bytes, tt))
place_printed (OfPart index) bytes =
    printed-append (codes "part-") (decimal index) (known_printed (codes "part-") refl) (decimal_printed index)

inside_printed : (payload : List ℕ) → ArePrinted payload → (names : List (List ℕ)) → AllByRecursion AreBytes names →
    ArePrinted (inside_path payload names)
inside_printed payload printed names are =
    printed-append payload (codes "/" ++ path names) printed
    (printed-append (codes "/") (path names) (known_printed (codes "/") refl) (path_printed names are))

-- ---- lines inside

word_can : (payload : List ℕ) → ArePrinted payload → (word : Field) → CanPrint word → CanPrint (word_of_inside payload word)
word_can payload printed (Text text) can = can
word_can payload printed (Name name) can = can
word_can payload printed (Decimal number) can = can
word_can payload printed (Hexadecimal number) can = can
word_can payload printed (Hexadecimal64 number) can = can
word_can payload printed (Digits bytes) can = can
word_can payload printed (Path names) can = all_printable (inside_path payload names) (inside_printed payload printed names can)
word_can payload printed (Value value) can = can

line_can : (payload : List ℕ) → ArePrinted payload → (words : Line) → CanPrintLine words → CanPrintLine (line_inside payload words)
line_can payload printed [] can = tt
line_can payload printed (word ∷ later) can = (word_can payload printed word can.0, line_can payload printed later can.1)

tree_can : (payload : List ℕ) → ArePrinted payload → (lines : List Line) → CanPrintLines lines →
    CanPrintLines (map (line_inside payload) lines)
tree_can payload printed [] can = tt
tree_can payload printed (line ∷ later) can = (line_can payload printed line can.0, tree_can payload printed later can.1)

reservations_inside : (payload : List ℕ) → ArePrinted payload → (reservations : List Reservation) → (later : List Line) →
    CanPrintLines later → CanPrintLines (map (inside_reservation_line payload) reservations ++ later)
reservations_inside payload printed [] later can = can
reservations_inside payload printed (reservation ∷ more) later can =
    ((refl, (all_printable payload printed, (refl, (tt, (tt, tt))))), reservations_inside payload printed more later can)

-- The lines of a tree can be printed, if there is one.
abbrev CanPrintTree : Option ReducedTree → Type 0
CanPrintTree None = ⊤
CanPrintTree (Some tree) = CanPrintLines (reduced_root_lines tree.root)

lines_at_can : (place : PayloadPlace) → HasByteName place → (tree : Option ReducedTree) → CanPrintTree tree →
    CanPrintLines (lines_at place tree)
lines_at_can place bytes None can = tt
lines_at_can place bytes (Some tree) can =
    let printed = place_printed place bytes in (
      (refl, (all_printable (payload_path place) printed, (refl, (tt, tt)))),
      reservations_inside (payload_path place) printed tree.reservations _
          (tree_can (payload_path place) printed (reduced_root_lines tree.root) can),
    )

-- ---- all lines

last_bytes : (names : List (List ℕ)) → AllByRecursion AreBytes names → AreBytes (name_of_last names)
last_bytes [] are = record { each = λ index. omega arith }
last_bytes (name ∷ []) are = are.0
last_bytes (name ∷ next ∷ later) are = last_bytes (next ∷ later) are.1

-- The place that a line is about, if it can be printed.
abbrev HasByteNameOrNone : Option PayloadPlace → Type 0
HasByteNameOrNone None = ⊤
HasByteNameOrNone (Some place) = HasByteName place

line_place : (line : Line) → CanPrintLine line → HasByteNameOrNone (place_of_line line)
line_place [] can = tt
line_place (Text word ∷ Path names ∷ later) can = by (bytes_eq word (codes "payload"))
  where
    by : (b : Bool) → HasByteNameOrNone (if b then Some (OfImageNamed (name_of_last names)) else None)
    by true = last_bytes names can.1.0
    by false = tt
line_place (Text word ∷ Decimal index ∷ later) can = by (bytes_eq word (codes "part"))
  where
    by : (b : Bool) → HasByteNameOrNone (if b then Some (OfPart index) else None)
    by true = tt
    by false = tt
line_place line can = tt

module _ (shown : InsidesShown) (trees_can : (place : PayloadPlace) → CanPrintTree (shown.tree_at place)) where
  line_with_can : (place : Option PayloadPlace) (line : Line) → HasByteNameOrNone place → CanPrintLine line →
      CanPrintLines (line_at shown place line)
  line_with_can None line bytes can = (can, tt)
  line_with_can (Some place) line bytes can =
      each-append CanPrintLine (if shown.is_left_out place then [] else line ∷ []) _ (by (shown.is_left_out place))
      (lines_at_can place bytes (shown.tree_at place) (trees_can place))
    where
      by : (b : Bool) → CanPrintLines (if b then [] else line ∷ [])
      by true = tt
      by false = (can, tt)

  all_can : (lines : List Line) → CanPrintLines lines → CanPrintLines (lines_with_inside shown lines)
  all_can [] can = tt
  all_can (line ∷ later) can =
      each-append CanPrintLine (line_at shown (place_of_line line) line) (lines_with_inside shown later)
      (line_with_can (place_of_line line) line (line_place line can.0) can.0) (all_can later can.1)

-- ---- devicetrees

-- The lines of a whole devicetree.
devicetree_can : (limits : Limits) (payload : List ℕ) (tree : Devicetree) → IsDevicetree limits payload tree →
    CanPrintLines (reduced_root_lines (whole_devicetree tree).root)
devicetree_can limits payload tree is =
    let shown = root_shown limits payload tree is in
    let nodes = with_each plain_node tree.root.children in
    subst (λ nodes. CanPrintLines (own_lines [] (plain_node tree.root.own) ++ node_lines [] nodes))
    (sym (plain_described tree.root.children))
    (each-append CanPrintLine (own_lines [] (plain_node tree.root.own)) (node_lines [] nodes)
    (own_can [] tt (plain_node tree.root.own) shown.properties tt) (nodes_can [] tt nodes shown.nodes))

-- What holds of what is inside each payload.
all_inside : (limits : Limits) (meaning : Meaning) (insides : Insides) → AreInside limits meaning insides →
    (trees : PayloadPlace → Devicetree → ReducedTree) → ((payload : List ℕ) (place : PayloadPlace) (tree : Devicetree) →
    IsDevicetree limits payload tree → CanPrintLines (reduced_root_lines (trees place tree).root)) → (place : PayloadPlace) →
    CanPrintTree (option_map (trees place) (insides place))
all_inside limits meaning insides are trees can place = by (found_payload (payloads_at_places meaning) place)
  where
    found : (payload : List ℕ) (tree : Option Devicetree) → HasInside limits payload tree → CanPrintTree (option_map (trees place) tree)
    found payload None has = tt
    found payload (Some tree) has = can payload place tree has

    by : FoundAt (payloads_at_places meaning) place → CanPrintTree (option_map (trees place) (insides place))
    by (inl (payload, has)) = found payload (insides place) (are.each place payload has)
    by (inr nothing) = rw (are.other place nothing) tt

-- The deep description is ASCII, in each form.
pub deep_text_ascii : (format : Format) (limits : Limits) (meaning : Meaning) (insides : Insides) → AreInside limits meaning insides →
    CanPrintLines (description_lines meaning) → IsAscii (deep_text format (record { meaning = meaning; insides = insides }))
deep_text_ascii Json limits meaning insides are can = json_lines_are_ascii (deep_object (record { meaning = meaning; insides = insides }))
deep_text_ascii Lines limits meaning insides are can =
    line_texts_are_ascii (deep_lines (record { meaning = meaning; insides = insides }))
    (all_can (insides_shown insides)
    (all_inside limits meaning insides are (λ place. whole_devicetree) (λ payload place. devicetree_can limits payload))
    (description_lines meaning) can)

-- So are the lines that stay, whatever is left out and opened.
pub deep_lines_stay_ascii : (limits : Limits) (words : List Ignored) (is_opened : PayloadPlace → Bool) (meaning : Meaning)
    (insides : Insides) → AreInside limits meaning insides → CanPrintLines (description_lines meaning) →
    IsAscii (text_of_lines (deep_lines_without words is_opened (record { meaning = meaning; insides = insides })))
deep_lines_stay_ascii limits words is_opened meaning insides are can =
    line_texts_are_ascii (deep_lines_without words is_opened (record { meaning = meaning; insides = insides }))
    (all_can (shown_without words is_opened insides)
    (all_inside limits meaning insides are (tree_without words)
    (λ payload place tree is. stays_of_root CanPrintLine (words_inside place words) (with_each_node plain_compared tree.root)
    (devicetree_can limits payload tree is))) (reduced_lines (meaning_without words meaning))
    (lines_stay CanPrintLine words meaning can))
