use Rattle.std.proofs.Common.{◌≡◌, ℕ, List, [], ◌∷◌, ◌++◌, codes, map, append_assoc, refl, ◌∙◌, nat_cmp, rules}
use Rattle.std.specs.Cmp.Lexicographic.{slice_cmp}
use Rattle.std.specs.Fmt.{digits}
use Rattle.std.specs.FinMap.{entries-from_sorted}
use Rattle.bi_base.specs.Cells.{cell, cell8}
use Rattle.bi_fit.specs.ImageTree.{ImageTree}
use Rattle.bi_fit.specs.Names.{images_name}
use Rattle.bi_fit.proofs.FileFacts.{no_entries}
use Rattle.bi_norm.specs.Meaning.{OfFit}
use Rattle.bi_common.specs.KnownWords.{lines}
use Rattle.bi_common.specs.Lines.{Line, Text, Hexadecimal64, Path, text_of_lines}
use Rattle.bi_describe.specs.Comparing.{comparison, lines_or, reason}
use Rattle.bi_describe.specs.Descriptions.{description_lines, head_lines, node_line, property_line}
use Rattle.bi_describe.specs.Differences.{SignedLine, differences, line_bytes, line_to_compare, text_of_differences}
use Rattle.bi_describe.specs.KnownDifferences.{two_properties, bare_tree, tree_with_names, reserved_once, reserved_twice, images_in_order}
use Rattle.bi_describe.specs.KnownDifferences.{images_exchanged, DifferencesAreKnown, ComparisonsAreKnown, text_of_comparison}

-- Small lists of lines have known differences, and small boot images have known comparisons.

pub differences_are_known : DifferencesAreKnown
differences_are_known = search rules

-- The text of lines is their texts, each with a newline.
pub lines_of_texts : (words : List Line) → text_of_lines words ≡ lines (map line_bytes words)
lines_of_texts [] = refl
lines_of_texts (each ∷ later) = search (rules, append_assoc, lines_of_texts later)

-- What differs between two trees whose descriptions have these lines.
abbrev pub comparison_of_lines : (one other : List Line) → List SignedLine
comparison_of_lines one other =
    lines_or (differences (map line_to_compare one) (map line_to_compare other)) (reason (text_of_lines one) (text_of_lines other))

pub comparison_as : (one other : ImageTree) {lines others : List Line} → description_lines (OfFit one) ≡ lines →
    description_lines (OfFit other) ≡ others → comparison (OfFit one) (OfFit other) ≡ comparison_of_lines lines others
comparison_as one other has other_has = (λ i. comparison_of_lines (has i) (other_has i))

text_as : (one other : ImageTree) {lines others : List Line} → description_lines (OfFit one) ≡ lines →
    description_lines (OfFit other) ≡ others →
    text_of_comparison (OfFit one) (OfFit other) ≡ text_of_differences (comparison_of_lines lines others)
text_as one other has other_has = (λ i. text_of_differences (comparison_of_lines (has i) (other_has i)))

-- The lines of an image without a payload.
abbrev pub image_lines : (name : List ℕ) → List Line
image_lines name =
    node_line (images_name ∷ name ∷ []) ∷ (Text (codes "payload") ∷ Path (images_name ∷ name ∷ []) ∷ Text (codes "none") ∷ []) ∷ []

-- The lines of a tree with these images, with these lines after the boot processor and after the root.
abbrev pub tree_with : (reservations properties images : List Line) → List Line
tree_with reservations properties images =
    head_lines 0 ++ (reservations ++ (node_line [] ∷ (properties ++ (node_line (images_name ∷ []) ∷ images))))

abbrev reservation : Line
reservation = Text (codes "reservation") ∷ Hexadecimal64 0x1000 ∷ Hexadecimal64 0 ∷ []

abbrev no_lines : List Line
no_lines = []

plain_lines : description_lines (OfFit bare_tree) ≡ tree_with no_lines no_lines (image_lines (codes "a"))
plain_lines = rw no_entries refl

lines_with_properties : description_lines (OfFit tree_with_names)
    ≡ tree_with no_lines (map (property_line []) two_properties) (image_lines (codes "a"))
lines_with_properties = rw (entries-from_sorted (slice_cmp nat_cmp) two_properties tt, no_entries) refl

lines_with_reservation : description_lines (OfFit reserved_once) ≡ tree_with (reservation ∷ []) no_lines (image_lines (codes "a"))
lines_with_reservation = rw no_entries refl

lines_with_reservations : description_lines (OfFit reserved_twice)
    ≡ tree_with (reservation ∷ reservation ∷ []) no_lines (image_lines (codes "a"))
lines_with_reservations = rw no_entries refl

first_order : description_lines (OfFit images_in_order)
    ≡ tree_with no_lines no_lines (image_lines (codes "a") ++ image_lines (codes "b"))
first_order = rw no_entries refl

second_order : description_lines (OfFit images_exchanged)
    ≡ tree_with no_lines no_lines (image_lines (codes "b") ++ image_lines (codes "a"))
second_order = rw no_entries refl

pub comparisons_are_known : ComparisonsAreKnown
unfolding digits cell cell8
comparisons_are_known = record {
  legacy_and_fit = refl;
  fit_and_legacy = refl;
  fields = refl;
  properties = text_as bare_tree tree_with_names plain_lines lines_with_properties ∙ refl;
  reservations = text_as reserved_twice bare_tree lines_with_reservations plain_lines ∙ refl;
  other_number = text_as reserved_once reserved_twice lines_with_reservation lines_with_reservations ∙ refl;
  other_order = text_as images_in_order images_exchanged first_order second_order ∙ refl;
  other_parts = refl;
  other_payloads = text_as bare_tree bare_tree plain_lines plain_lines ∙ refl;
}
