use Rattle.std.specs.Prelude.{◌≡◌, ℕ, ◌==◌, ◌&&◌, ◌||◌, Bool, false, IsTrue, not, List, [], ◌∷◌}
use Rattle.std.specs.Prelude.{None, Some, Option, bytes_eq, flat_map, is_some, map, option_map}
use Rattle.std.specs.Prelude.{if◌then◌else◌}
use Rattle.std.specs.List.{list_any}
use Rattle.bi_blob.specs.Tree.{Nodes, none, node, Root, with_each_node}
use Rattle.bi_fit.specs.Names.{images_name}
use Rattle.bi_common.specs.Lines.{Line}
use Rattle.bi_describe.specs.ComparedNodes.{ComparedNode, ComparedPayload, NoImage, ImageWith}
use Rattle.bi_describe.specs.ComparedNodes.{plain_compared}
use Rattle.bi_describe.specs.DeepDescriptions.{InsidesShown, lines_with_inside}
use Rattle.bi_describe.specs.Devicetrees.{DeepMeaning, Devicetree, Insides}
use Rattle.bi_describe.specs.Ignoring.{Ignored, IgnoredNode, IgnoredProperty, NodePlace}
use Rattle.bi_describe.specs.Ignoring.{PayloadPlace, OfImageNamed, OfPart, TreePlace, Itself}
use Rattle.bi_describe.specs.Ignoring.{Inside, is_node_ignored, is_part_ignored}
use Rattle.bi_describe.specs.ReducedMeanings.{ReducedMeaning, OfReducedLegacy, OfReducedTree}
use Rattle.bi_describe.specs.ReducedMeanings.{ReducedTree, kept_root, meaning_without}
use Rattle.bi_describe.specs.ReducedMeanings.{reduced_lines}

-- What is compared of a meaning and of the devicetrees inside its payloads once something is left
-- out of them (profile of this project). A word for something inside a payload opens it, if it is a
-- devicetree in both images: then it is compared by its tree, and any other payload by its bytes.

-- ---- words for something inside

-- Both are the same place of a payload.
abbrev pub is_same_payload : (one other : PayloadPlace) → Bool
is_same_payload (OfImageNamed name) (OfImageNamed other) = bytes_eq name other
is_same_payload (OfPart index) (OfPart other) = index == other
is_same_payload one other = false

-- The tree is the one inside the payload at this place.
abbrev pub is_tree_inside : PayloadPlace → TreePlace → Bool
is_tree_inside payload Itself = false
is_tree_inside payload (Inside other) = is_same_payload payload other

-- The word is for something inside the payload at this place, whether or not that is there.
abbrev pub is_word_inside : PayloadPlace → Ignored → Bool
is_word_inside payload (IgnoredNode place) = is_tree_inside payload place.tree
is_word_inside payload (IgnoredProperty place name) = is_tree_inside payload place.tree
is_word_inside payload word = false

-- The node with the same path in its own tree.
abbrev pub own_place : NodePlace → NodePlace
own_place place = record { tree = Itself; names = place.names }

-- A word for something inside a payload, as one for the tree that is there.
abbrev pub as_own_word : Ignored → Ignored
as_own_word (IgnoredNode place) = IgnoredNode (own_place place)
as_own_word (IgnoredProperty place name) = IgnoredProperty (own_place place) name
as_own_word word = word

-- What words leave out of the tree inside the payload at this place.
abbrev pub word_inside : PayloadPlace → Ignored → List Ignored
word_inside payload word = if is_word_inside payload word then as_own_word word ∷ [] else []

abbrev pub words_inside : PayloadPlace → List Ignored → List Ignored
words_inside payload words = flat_map (word_inside payload) words

-- What stays of it. The boot processor and the memory reservations stay.
abbrev pub tree_without : List Ignored → PayloadPlace → Devicetree → ReducedTree
tree_without words payload tree = record {
  cpu = tree.cpu;
  reservations = tree.reservations;
  root = kept_root (words_inside payload words) (with_each_node plain_compared tree.root);
}

-- ---- payloads that are opened

-- The payload is left out, as a whole: its image is, or its part.
abbrev pub is_payload_ignored : List Ignored → PayloadPlace → Bool
is_payload_ignored words (OfImageNamed name) =
    is_node_ignored words []
    || (is_node_ignored words (images_name ∷ [])
    || is_node_ignored words (images_name ∷ name ∷ []))
is_payload_ignored words (OfPart index) = is_part_ignored words index

-- The payload may be opened: it stays, and is a devicetree in both images.
abbrev pub can_open : List Ignored → (one other : Insides) → PayloadPlace → Bool
can_open words one other payload =
    not (is_payload_ignored words payload) && (is_some (one payload) && is_some (other payload))

-- Which payloads are opened: those of them that have a word for something inside.
abbrev pub is_opened : List Ignored → (one other : Insides) → PayloadPlace → Bool
is_opened words one other payload =
    list_any (is_word_inside payload) words && can_open words one other payload

-- The payload of a node, without its bytes if it is opened. Only image nodes have one.
abbrev pub payload_unless : (is_out : Bool) → ComparedPayload → ComparedPayload
payload_unless is_out NoImage = NoImage
payload_unless is_out (ImageWith payload) =
    if is_out then ImageWith None else ImageWith payload

-- The node with this name, without its payload if that is opened.
abbrev pub own_unless_opened : (is_opened : PayloadPlace → Bool) → (name : List ℕ) → ComparedNode
    → ComparedNode
own_unless_opened is_opened name own = record {
  properties = own.properties;
  payload = payload_unless (is_opened (OfImageNamed name)) own.payload;
}

-- Nodes, of which the image nodes that are opened are left without a payload.
abbrev pub nodes_unless_opened : (is_opened : PayloadPlace → Bool) → Nodes ComparedNode
    → Nodes ComparedNode
nodes_unless_opened is_opened none = none
nodes_unless_opened is_opened (node name own children later) =
    node name (own_unless_opened is_opened name own) (nodes_unless_opened is_opened children)
    (nodes_unless_opened is_opened later)

-- A tree of such nodes. The root has no name.
abbrev pub root_unless_opened : (is_opened : PayloadPlace → Bool) → Root ComparedNode
    → Root ComparedNode
root_unless_opened is_opened root = record {
  own = own_unless_opened is_opened [] root.own;
  children = nodes_unless_opened is_opened root.children;
}

-- A part, without its bytes if it is opened.
abbrev pub part_unless_opened : (is_opened : PayloadPlace → Bool) → ℕ × List ℕ → ℕ × List ℕ
part_unless_opened is_opened part = if is_opened (OfPart part.0) then (part.0, []) else part

-- What is compared but for the payloads that are opened.
abbrev pub unless_opened : (is_opened : PayloadPlace → Bool) → ReducedMeaning → ReducedMeaning
unless_opened is_opened (OfReducedLegacy image) = OfReducedLegacy (record {
  fields = image.fields;
  time = image.time;
  parts = map (part_unless_opened is_opened) image.parts;
})
unless_opened is_opened (OfReducedTree tree) = OfReducedTree (record {
  cpu = tree.cpu;
  reservations = tree.reservations;
  root = option_map (root_unless_opened is_opened) tree.root;
})

-- ---- comparing

-- What stays of the devicetree inside the payload at a place, if one is there.
abbrev pub tree_at_without : List Ignored → Insides → PayloadPlace → Option ReducedTree
tree_at_without words insides payload = option_map (tree_without words payload) (insides payload)

-- Two meanings are the same once what the words leave out is taken out of both: all but the
-- payloads that are opened, and the devicetree in each of these.
pub record AreSameDeep (words : List Ignored) (one other : DeepMeaning) : Type 0 where
  pub rest : unless_opened (is_opened words one.insides other.insides)
      (meaning_without words one.meaning)
      ≡ unless_opened (is_opened words one.insides other.insides)
      (meaning_without words other.meaning)
  pub trees : (payload : PayloadPlace)
      → IsTrue (is_opened words one.insides other.insides payload)
      → tree_at_without words one.insides payload ≡ tree_at_without words other.insides payload

-- What stays of the devicetrees inside, and that a payload that is opened has no line of its own.
abbrev pub shown_without : List Ignored → (is_opened : PayloadPlace → Bool) → Insides
    → InsidesShown
shown_without words is_opened insides = record {
  tree_at = tree_at_without words insides;
  is_left_out = is_opened;
}

-- The lines of a deep description that stay.
abbrev pub deep_lines_without : List Ignored → (is_opened : PayloadPlace → Bool) → DeepMeaning
    → List Line
deep_lines_without words is_opened deep =
    lines_with_inside (shown_without words is_opened deep.insides)
    (reduced_lines (meaning_without words deep.meaning))
