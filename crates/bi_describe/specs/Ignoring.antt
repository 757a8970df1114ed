use Rattle.std.specs.Prelude.{ℕ, ◌==◌, ◌&&◌, ◌||◌, Bool, true, false, List, []}
use Rattle.std.specs.Prelude.{◌∷◌, codes, bytes_eq}
use Rattle.std.specs.Cmp.Lexicographic.{pointwise}
use Rattle.std.specs.List.{list_any}
use Rattle.bi_fit.specs.Names.{images_name, configurations_name, is_signature_name}

-- What `compare` leaves out of two images (profile of this project).

-- A devicetree that is inside an image: in the payload of the image with this name, or in the part
-- of a legacy image with this index.
pub data PayloadPlace : Type 0 where
  OfImageNamed : (name : List ℕ) → PayloadPlace
  OfPart : (index : ℕ) → PayloadPlace

-- The tree that a node is in: that of the image itself, or one inside.
pub data TreePlace : Type 0 where
  Itself : TreePlace
  Inside : (payload : PayloadPlace) → TreePlace

-- A node: the tree that it is in, and the names of the nodes on the way to it. The root has none.
pub record NodePlace : Type 0 where
  pub tree : TreePlace
  pub names : List (List ℕ)

-- What a word leaves out: the time, the signatures, a node and all that is below it, a property of
-- a node, or a part of a legacy image.
pub data Ignored : Type 0 where
  IgnoredTime : Ignored
  IgnoredSignatures : Ignored
  IgnoredNode : NodePlace → Ignored
  IgnoredProperty : NodePlace → (name : List ℕ) → Ignored
  IgnoredPart : (index : ℕ) → Ignored

-- These are the same names, one after the other.
abbrev pub are_names_equal : (one other : List (List ℕ)) → Bool
are_names_equal one other = pointwise bytes_eq one other

-- The place is that of the node with these names, of the tree of the image itself. A word for
-- something inside a payload leaves out nothing of that tree.
abbrev pub is_place_of_in : TreePlace → (one other : List (List ℕ)) → Bool
is_place_of_in Itself one other = are_names_equal one other
is_place_of_in (Inside payload) one other = false

abbrev pub is_place_of : NodePlace → (names : List (List ℕ)) → Bool
is_place_of place names = is_place_of_in place.tree place.names names

-- The child of the root with this name has images or configurations.
abbrev pub may_have_signatures : (name : List ℕ) → Bool
may_have_signatures name = bytes_eq name images_name || bytes_eq name configurations_name

-- The node with these names is a child of an image or of a configuration, and its name begins with
-- `signature`.
abbrev pub is_signature : (names : List (List ℕ)) → Bool
is_signature (top ∷ parent ∷ name ∷ []) = may_have_signatures top && is_signature_name name
is_signature names = false

-- The word leaves out the node with these names, and not only because it leaves out one above it.
abbrev pub names_node : (names : List (List ℕ)) → Ignored → Bool
names_node names IgnoredSignatures = is_signature names
names_node names (IgnoredNode place) = is_place_of place names
names_node names word = false

-- The property is the time of a flattened image tree: `timestamp` of the root.
abbrev pub is_timestamp : (names : List (List ℕ)) → (name : List ℕ) → Bool
is_timestamp [] name = bytes_eq name (codes "timestamp")
is_timestamp names name = false

-- The word leaves out the property with this name of the node with these names.
abbrev pub names_property : (names : List (List ℕ)) → (name : List ℕ) → Ignored → Bool
names_property names name IgnoredTime = is_timestamp names name
names_property names name (IgnoredProperty place property) =
    is_place_of place names && bytes_eq property name
names_property names name word = false

-- The word leaves out the time of a legacy image.
abbrev pub names_time : Ignored → Bool
names_time IgnoredTime = true
names_time word = false

-- The word leaves out the part with this index.
abbrev pub names_part : ℕ → Ignored → Bool
names_part index (IgnoredPart other) = index == other
names_part index word = false

-- What these words leave out: nodes, each with all nodes below it, properties, the time of a legacy
-- image, and its parts.
abbrev pub is_node_ignored : List Ignored → (names : List (List ℕ)) → Bool
is_node_ignored words names = list_any (names_node names) words

abbrev pub is_property_ignored : List Ignored → (names : List (List ℕ)) → (name : List ℕ) → Bool
is_property_ignored words names name = list_any (names_property names name) words

abbrev pub is_time_ignored : List Ignored → Bool
is_time_ignored words = list_any names_time words

abbrev pub is_part_ignored : List Ignored → ℕ → Bool
is_part_ignored words index = list_any (names_part index) words
