use Rattle.std.specs.Prelude.{◌≡◌, ℕ, List, [], ◌∷◌, ◌++◌, codes, map, Option, None, Some}
use Rattle.std.specs.FinMap.{empty, from_sorted}
use Rattle.bi_blob.specs.Tree.{none, node, Property}
use Rattle.bi_fit.specs.ImageTree.{ImageTree}
use Rattle.bi_fit.specs.Names.{images_name, configurations_name}
use Rattle.bi_legacy.specs.Meaning.{LegacyImage}
use Rattle.bi_norm.specs.Meaning.{Meaning, OfLegacy, OfFit}
use Rattle.bi_describe.specs.Differences.{line_bytes}
use Rattle.bi_describe.specs.IgnoredWords.{ignored_text, AreWordsOfValue, IsBadIgnoredValue}
use Rattle.bi_describe.specs.Ignoring.{Ignored, IgnoredTime, IgnoredSignatures, IgnoredNode}
use Rattle.bi_describe.specs.Ignoring.{IgnoredProperty, IgnoredPart, NodePlace, Itself, Inside}
use Rattle.bi_describe.specs.Ignoring.{OfImageNamed, OfPart}
use Rattle.bi_describe.specs.KnownDescriptions.{sha256_digits}
use Rattle.bi_describe.specs.ReducedMeanings.{AreSameWithout, meaning_without, reduced_lines}

-- What stays of small boot images once something is left out, and the words for it. A reader can
-- judge the definitions by them.

-- ---- what stays

abbrev pub timestamp_alone : List Property
timestamp_alone = (codes "timestamp", 0 ∷ 0 ∷ 0 ∷ 1 ∷ []) ∷ []

abbrev pub only_load : List Property
only_load = (codes "load", 0 ∷ 0 ∷ 0 ∷ 2 ∷ []) ∷ []

-- A tree with the image `a`, which has this payload, a property and a signature node; the image
-- `ab`, which has none of them; and the configuration `c` with a node `signature-1`, which has a
-- child.
abbrev pub tree_with_payload : (payload : List ℕ) → ImageTree
tree_with_payload payload = record {
  cpu = 0;
  reservations = [];
  root = record {
    own = from_sorted timestamp_alone;
    children = node images_name empty
        (node (codes "a") (from_sorted only_load) (node (codes "signature") empty none none)
        (node (codes "ab") empty none none))
        (node configurations_name empty
        (node (codes "c") empty
        (node (codes "signature-1") empty (node (codes "x") empty none none) none) none) none);
  };
  payloads = Some payload ∷ None ∷ [];
}

abbrev pub signed_images_tree : ImageTree
signed_images_tree = tree_with_payload (codes "abc")

-- The texts of the lines that stay.
abbrev pub texts_that_stay : List Ignored → Meaning → List (List ℕ)
texts_that_stay words meaning = map line_bytes (reduced_lines (meaning_without words meaning))

abbrev pub tree_texts : List Ignored → List (List ℕ)
tree_texts words = texts_that_stay words (OfFit signed_images_tree)

-- The node of the image itself with these names, and a node inside the payload of the image `a`.
abbrev pub own_node : List (List ℕ) → NodePlace
own_node names = record { tree = Itself; names = names }

abbrev pub inside_a : List (List ℕ) → NodePlace
inside_a names = record { tree = Inside (OfImageNamed (codes "a")); names = names }

abbrev pub image_a : NodePlace
image_a = own_node (images_name ∷ codes "a" ∷ [])

-- The lines of the tree.
abbrev pub head_texts : List (List ℕ)
head_texts = codes "kind fit" ∷ codes "boot-cpu 0" ∷ []

abbrev pub root_texts : List (List ℕ)
root_texts = codes "node /" ∷ codes "property / timestamp 0x00000001" ∷ []

abbrev pub payload_text : List ℕ
payload_text = codes "payload /images/a size 3 sha256 " ++ sha256_digits (codes "abc")

abbrev pub load_text : List ℕ
load_text = codes "property /images/a load 0x00000002"

abbrev pub ab_texts : List (List ℕ)
ab_texts = codes "node /images/ab" ∷ codes "payload /images/ab none" ∷ []

abbrev pub configuration_texts : List (List ℕ)
configuration_texts =
    codes "node /configurations" ∷ codes "node /configurations/c"
    ∷ codes "node /configurations/c/signature-1" ∷ codes "node /configurations/c/signature-1/x" ∷ []

abbrev pub all_texts : List (List ℕ)
all_texts =
    head_texts ++ (root_texts ++ (codes "node /images" ∷ codes "node /images/a" ∷ payload_text
    ∷ load_text ∷ codes "node /images/a/signature" ∷ (ab_texts ++ configuration_texts)))

pub record TreesThatStayAreKnown : Type 0 where
  pub all : tree_texts [] ≡ all_texts
  -- A node hides all that is below it, and not a node whose name begins in the same way.
  pub no_image : tree_texts (IgnoredNode image_a ∷ [])
      ≡ head_texts ++ (root_texts ++ (codes "node /images" ∷ (ab_texts ++ configuration_texts)))
  pub no_images : tree_texts (IgnoredNode (own_node (images_name ∷ [])) ∷ [])
      ≡ head_texts ++ (root_texts ++ configuration_texts)
  pub no_root : tree_texts (IgnoredNode (own_node []) ∷ []) ≡ head_texts
  pub no_property : tree_texts (IgnoredProperty image_a (codes "load") ∷ [])
      ≡ head_texts ++ (root_texts ++ (codes "node /images" ∷ codes "node /images/a" ∷ payload_text
      ∷ codes "node /images/a/signature" ∷ (ab_texts ++ configuration_texts)))
  pub no_time : tree_texts (IgnoredTime ∷ [])
      ≡ head_texts ++ (codes "node /" ∷ codes "node /images" ∷ codes "node /images/a" ∷ payload_text
      ∷ load_text ∷ codes "node /images/a/signature" ∷ (ab_texts ++ configuration_texts))
  pub no_signatures : tree_texts (IgnoredSignatures ∷ [])
      ≡ head_texts ++ (root_texts ++ (codes "node /images" ∷ codes "node /images/a" ∷ payload_text
      ∷ load_text ∷ (ab_texts ++ (codes "node /configurations" ∷ codes "node /configurations/c"
      ∷ []))))
  -- A word for what is inside a payload, or for a part of a legacy image, leaves out nothing.
  pub nothing : tree_texts (IgnoredNode (inside_a []) ∷ IgnoredPart 0 ∷ []) ≡ all_texts

-- A legacy image of the type multi with two parts, and the time 7.
abbrev pub known_legacy : (time : ℕ) → (first : List ℕ) → LegacyImage
known_legacy time first = record {
  time = time;
  load = 0;
  entry = 0;
  os = 5;
  arch = 2;
  image_type = 4;
  compression = 0;
  name = codes "k";
  parts = first ∷ codes "b" ∷ [];
}

abbrev pub legacy_texts : List Ignored → List (List ℕ)
legacy_texts words = texts_that_stay words (OfLegacy (known_legacy 7 (codes "a")))

-- The part with this index that has this one byte.
abbrev pub part_text : (index : List ℕ) → (bytes : List ℕ) → List ℕ
part_text index bytes =
    codes "part " ++ (index ++ (codes " size 1 sha256 " ++ sha256_digits bytes))

abbrev pub number_texts : List (List ℕ)
number_texts =
    codes "load 0x00000000" ∷ codes "entry 0x00000000" ∷ codes "os linux" ∷ codes "arch arm"
    ∷ codes "type multi" ∷ codes "compression none" ∷ []

pub record LegacyThatStaysIsKnown : Type 0 where
  pub all : legacy_texts []
      ≡ codes "kind legacy" ∷ codes "name k" ∷ codes "time 7"
      ∷ (number_texts
      ++ (part_text (codes "0") (codes "a") ∷ part_text (codes "1") (codes "b") ∷ []))
  pub no_time : legacy_texts (IgnoredTime ∷ [])
      ≡ codes "kind legacy" ∷ codes "name k"
      ∷ (number_texts
      ++ (part_text (codes "0") (codes "a") ∷ part_text (codes "1") (codes "b") ∷ []))
  -- The other part keeps its index.
  pub no_part : legacy_texts (IgnoredPart 0 ∷ [])
      ≡ codes "kind legacy" ∷ codes "name k" ∷ codes "time 7"
      ∷ (number_texts ++ (part_text (codes "1") (codes "b") ∷ []))

-- Meanings that are the same without something, or not.
pub record SameWithoutIsKnown : Type 0 where
  pub no_time : AreSameWithout (IgnoredTime ∷ []) (OfLegacy (known_legacy 7 (codes "a")))
      (OfLegacy (known_legacy 8 (codes "a")))
  pub no_part : AreSameWithout (IgnoredPart 0 ∷ []) (OfLegacy (known_legacy 7 (codes "a")))
      (OfLegacy (known_legacy 7 (codes "c")))
  pub other_part : AreSameWithout (IgnoredPart 1 ∷ []) (OfLegacy (known_legacy 7 (codes "a")))
      (OfLegacy (known_legacy 7 (codes "c"))) → ⊥
  -- A payload is left out with its image. One that stays is compared by its bytes.
  pub no_image : AreSameWithout (IgnoredNode image_a ∷ []) (OfFit signed_images_tree)
      (OfFit (tree_with_payload (codes "abd")))
  pub payload : AreSameWithout (IgnoredTime ∷ IgnoredSignatures ∷ []) (OfFit signed_images_tree)
      (OfFit (tree_with_payload (codes "abd"))) → ⊥
  -- Images of different kinds never are the same.
  pub kinds : AreSameWithout (IgnoredNode (own_node []) ∷ IgnoredTime ∷ [])
      (OfLegacy (known_legacy 7 (codes "a"))) (OfFit signed_images_tree) → ⊥

-- ---- words

pub record IgnoredWordsAreKnown : Type 0 where
  pub property : ignored_text (IgnoredProperty image_a (codes "p q"))
      ≡ codes "/images/a p%20q"
  pub inside : ignored_text (IgnoredProperty (inside_a (codes "chosen" ∷ [])) (codes "p"))
      ≡ codes "/images/a//chosen p"
  pub inside_root : ignored_text (IgnoredNode (inside_a [])) ≡ codes "/images/a//"
  pub inside_part : ignored_text
      (IgnoredNode (record { tree = Inside (OfPart 12); names = codes "x" ∷ [] }))
      ≡ codes "part-12//x"
  pub part : AreWordsOfValue (codes "part-0") (IgnoredPart 0 ∷ [])
  pub both : AreWordsOfValue (codes "time,signatures") (IgnoredTime ∷ IgnoredSignatures ∷ [])
  pub root : AreWordsOfValue (codes "/") (IgnoredNode (own_node []) ∷ [])
  -- A comma after a path belongs to a name.
  pub comma : AreWordsOfValue (codes "/a,b") (IgnoredNode (own_node (codes "a,b" ∷ [])) ∷ [])
  pub empty_value : IsBadIgnoredValue []
  pub other_word : IsBadIgnoredValue (codes "nothing")
  pub no_last : IsBadIgnoredValue (codes "time,")
  pub path_after : IsBadIgnoredValue (codes "time,/")
  pub two_slashes : IsBadIgnoredValue (codes "//")
