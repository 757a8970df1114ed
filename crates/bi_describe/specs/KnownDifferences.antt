use Rattle.std.specs.Prelude.{◌≡◌, ℕ, ◌==◌, List, [], ◌∷◌, codes, map, None}
use Rattle.std.specs.FinMap.{empty, from_sorted}
use Rattle.std.specs.List.{slice_split}
use Rattle.bi_blob.specs.Blob.{Reservation}
use Rattle.bi_blob.specs.Tree.{none, node, Property, PropertyMap}
use Rattle.bi_fit.specs.ImageTree.{ImageTree}
use Rattle.bi_fit.specs.KnownFiles.{plain_tree}
use Rattle.bi_fit.specs.Names.{images_name}
use Rattle.bi_legacy.specs.KnownImages.{firmware_image}
use Rattle.bi_legacy.specs.Meaning.{LegacyImage}
use Rattle.bi_norm.specs.Meaning.{Meaning, OfLegacy, OfFit}
use Rattle.bi_common.specs.KnownWords.{lines}
use Rattle.bi_common.specs.Lines.{Text}
use Rattle.bi_describe.specs.Comparing.{comparison}
use Rattle.bi_describe.specs.Differences.{ComparedLine, differences, line_to_compare}
use Rattle.bi_describe.specs.Differences.{text_of_differences}

-- The differences of small lists of lines and of small boot images, by which a reader can judge the
-- definitions.

-- The line of this text, as it is compared. Its words are between the spaces.
abbrev pub line_of_text : List ℕ → ComparedLine
line_of_text text = line_to_compare (map Text (slice_split (λ byte. byte == 32) text))

-- The text of the differences of lines of these texts.
abbrev pub differences_of : (one other : List (List ℕ)) → List ℕ
differences_of one other =
    text_of_differences (differences (map line_of_text one) (map line_of_text other))

-- The text of what differs between two meanings that are not the same.
abbrev pub text_of_comparison : (one other : Meaning) → List ℕ
text_of_comparison one other = text_of_differences (comparison one other)

-- No lines.
abbrev pub no_lines : List (List ℕ)
no_lines = []

-- Properties of a node. The second list has another value of `a` and of `c`, no `b`, an empty `d`,
-- the same `e`, and a new `f`.
abbrev pub old_properties : List (List ℕ)
old_properties =
    codes "property / a 0x01"
    ∷ codes "property / b \"x\" \"y z\""
    ∷ codes "property / c \"x\" \"y\""
    ∷ codes "property / d 0x00"
    ∷ codes "property / e 0x01"
    ∷ []

abbrev pub new_properties : List (List ℕ)
new_properties =
    codes "property / a 0x02"
    ∷ codes "property / c \"x\" \"z\""
    ∷ codes "property / d"
    ∷ codes "property / e 0x01"
    ∷ codes "property / f 0x01"
    ∷ []

-- What the differences of two lists of lines are. A line of the first list that the second one has
-- not is written with `-`, and after it the line of the second list with its key, if there is one:
-- the first three words of a line of a property, the first two of a part, a payload or a node, the
-- first one of any other but a reservation, which has no counterpart. The other lines of the second
-- list are last.
pub record DifferencesAreKnown : Type 0 where
  pub same : differences_of old_properties old_properties ≡ []
  pub other_order : differences_of
      (codes "node /a" ∷ codes "node /b" ∷ [])
      (codes "node /b" ∷ codes "node /a" ∷ [])
      ≡ []
  pub properties : differences_of old_properties new_properties
      ≡ lines
      (codes "-property / a 0x01"
      ∷ codes "+property / a 0x02"
      ∷ codes "-property / b \"x\" \"y z\""
      ∷ codes "-property / c \"x\" \"y\""
      ∷ codes "+property / c \"x\" \"z\""
      ∷ codes "-property / d 0x00"
      ∷ codes "+property / d"
      ∷ codes "+property / f 0x01"
      ∷ [])
  pub payloads : differences_of
      (codes "payload /images/a none" ∷ codes "payload /images/b none" ∷ [])
      (codes "payload /images/a size 0 sha256 e3b0c442" ∷ [])
      ≡ lines
      (codes "-payload /images/a none"
      ∷ codes "+payload /images/a size 0 sha256 e3b0c442"
      ∷ codes "-payload /images/b none"
      ∷ [])
  pub parts : differences_of
      (codes "part 0 size 5 sha256 2cf24dba" ∷ codes "part 1 size 3 sha256 ba7816bf" ∷ [])
      (codes "part 0 size 3 sha256 ba7816bf" ∷ [])
      ≡ lines
      (codes "-part 0 size 5 sha256 2cf24dba"
      ∷ codes "+part 0 size 3 sha256 ba7816bf"
      ∷ codes "-part 1 size 3 sha256 ba7816bf"
      ∷ [])
  pub nodes : differences_of
      (codes "node /a" ∷ codes "node /c" ∷ [])
      (codes "node /b" ∷ codes "node /d" ∷ [])
      ≡ lines
      (codes "-node /a" ∷ codes "-node /c" ∷ codes "+node /b" ∷ codes "+node /d" ∷ [])
  pub reservations : differences_of
      (codes "reservation 0x1000 0x20" ∷ codes "reservation 0x1000 0x30" ∷ [])
      (codes "reservation 0x1000 0x40" ∷ [])
      ≡ lines
      (codes "-reservation 0x1000 0x20"
      ∷ codes "-reservation 0x1000 0x30"
      ∷ codes "+reservation 0x1000 0x40"
      ∷ [])
  pub line_twice : differences_of
      (codes "reservation 0x1000 0x0" ∷ codes "reservation 0x1000 0x0" ∷ [])
      no_lines
      ≡ lines
      (codes "-reservation 0x1000 0x0" ∷ codes "-reservation 0x1000 0x0" ∷ [])
  pub new_line_twice : differences_of
      no_lines
      (codes "reservation 0x1000 0x0" ∷ codes "reservation 0x1000 0x0" ∷ [])
      ≡ lines
      (codes "+reservation 0x1000 0x0" ∷ codes "+reservation 0x1000 0x0" ∷ [])
  pub other_number : differences_of
      (codes "reservation 0x1000 0x0" ∷ [])
      (codes "reservation 0x1000 0x0" ∷ codes "reservation 0x1000 0x0" ∷ [])
      ≡ []
  pub fields : differences_of
      (codes "time 0" ∷ codes "load 0x8000" ∷ codes "os linux" ∷ [])
      (codes "arch arm" ∷ codes "time 5" ∷ codes "load 0x9000" ∷ codes "type kernel" ∷ [])
      ≡ lines
      (codes "-time 0"
      ∷ codes "+time 5"
      ∷ codes "-load 0x8000"
      ∷ codes "+load 0x9000"
      ∷ codes "-os linux"
      ∷ codes "+arch arm"
      ∷ codes "+type kernel"
      ∷ [])

-- A tree with these memory reservations and these properties of the root. It has one image, `a`,
-- without a payload.
abbrev pub tree_to_compare : List Reservation → PropertyMap → ImageTree
tree_to_compare reservations properties = record {
  cpu = 0;
  reservations = reservations;
  root = record {
    own = properties;
    children = node images_name empty (node (codes "a") empty none none) none;
  };
  payloads = None ∷ [];
}

-- One without either, one with two properties, and two with a reservation, once and twice.
abbrev pub bare_tree : ImageTree
bare_tree = tree_to_compare [] empty

abbrev pub two_properties : List Property
two_properties = (codes "filename", 1 ∷ []) ∷ (codes "name", 2 ∷ []) ∷ []

abbrev pub tree_with_names : ImageTree
tree_with_names = tree_to_compare [] (from_sorted two_properties)

abbrev pub one_reservation : Reservation
one_reservation = record { address = 0x1000; size = 0 }

abbrev pub reserved_once : ImageTree
reserved_once = tree_to_compare (one_reservation ∷ []) empty

abbrev pub reserved_twice : ImageTree
reserved_twice = tree_to_compare (one_reservation ∷ one_reservation ∷ []) empty

-- Two trees with the same images in another order.
abbrev pub images_in_order : ImageTree
images_in_order = plain_tree (codes "a" ∷ codes "b" ∷ []) (None ∷ None ∷ [])

abbrev pub images_exchanged : ImageTree
images_exchanged = plain_tree (codes "b" ∷ codes "a" ∷ []) (None ∷ None ∷ [])

-- A multi-file image without parts.
abbrev pub image_without_parts : LegacyImage
image_without_parts = record firmware_image { image_type = 4; parts = [] }

-- What differs between two boot images that do not mean the same. If each line of one description
-- is a line of the other, there is one line with the reason: the images are in another order, or a
-- reservation is there once more. No two payloads are known that differ with the same size and
-- SHA-256, so the last two are those of an image beside itself.
pub record ComparisonsAreKnown : Type 0 where
  pub legacy_and_fit : text_of_comparison (OfLegacy image_without_parts) (OfFit bare_tree)
      ≡ lines (codes "-kind legacy" ∷ codes "+kind fit" ∷ [])
  pub fit_and_legacy : text_of_comparison (OfFit bare_tree) (OfLegacy image_without_parts)
      ≡ lines (codes "-kind fit" ∷ codes "+kind legacy" ∷ [])
  pub fields : text_of_comparison
      (OfLegacy image_without_parts)
      (OfLegacy (record image_without_parts { time = 5; entry = 0x8000 }))
      ≡ lines
      (codes "-time 1"
      ∷ codes "+time 5"
      ∷ codes "-entry 0x00008040"
      ∷ codes "+entry 0x00008000"
      ∷ [])
  pub properties : text_of_comparison (OfFit bare_tree) (OfFit tree_with_names)
      ≡ lines (codes "+property / filename 0x01" ∷ codes "+property / name 0x02" ∷ [])
  pub reservations : text_of_comparison (OfFit reserved_twice) (OfFit bare_tree)
      ≡ lines
      (codes "-reservation 0x0000000000001000 0x0000000000000000"
      ∷ codes "-reservation 0x0000000000001000 0x0000000000000000"
      ∷ [])
  pub other_number : text_of_comparison (OfFit reserved_once) (OfFit reserved_twice)
      ≡ lines (codes "the same lines in another order or number" ∷ [])
  pub other_order : text_of_comparison (OfFit images_in_order) (OfFit images_exchanged)
      ≡ lines (codes "the same lines in another order or number" ∷ [])
  pub other_parts : text_of_comparison (OfLegacy image_without_parts) (OfLegacy image_without_parts)
      ≡ lines (codes "payloads differ that have the same size and SHA-256" ∷ [])
  pub other_payloads : text_of_comparison (OfFit bare_tree) (OfFit bare_tree)
      ≡ lines (codes "payloads differ that have the same size and SHA-256" ∷ [])
