use Rattle.std.specs.Prelude.{ℕ, List, [], ◌∷◌}
use Rattle.bi_show.specs.KnownTrees.{shown_file}
use Rattle.bi_c.specs.KnownElements.{region_at_offset}
use Rattle.bi_c.specs.TreeElements.{AreTreeElements}
use Rattle.bi_c.specs.declared.all_nodes.TreeElement.{TreeElement}

-- The elements of all nodes of a small flattened image tree, by which a reader can judge the
-- definitions.

-- A node whose name is at this offset.
abbrev pub node_element_at : (depth offset size : ℕ) → TreeElement
node_element_at depth offset size = record {
  name = region_at_offset offset size;
  value = region_at_offset 0 0;
  depth = depth;
  kind = 1;
}

-- A property whose name and value are at these offsets.
abbrev pub property_element_at : (depth offset size begin length : ℕ) → TreeElement
property_element_at depth offset size begin length = record {
  name = region_at_offset offset size;
  value = region_at_offset begin length;
  depth = depth;
  kind = 2;
}

-- The configurations.
abbrev pub configuration_elements : List TreeElement
configuration_elements =
    node_element_at 1 324 14
    ∷ property_element_at 2 555 7 352 2
    ∷ node_element_at 2 360 1
    ∷ property_element_at 3 563 6 376 2
    ∷ property_element_at 3 570 10 392 4
    ∷ node_element_at 3 400 9
    ∷ property_element_at 4 544 4 424 4
    ∷ property_element_at 4 581 13 440 4
    ∷ []

-- The root with its properties, the images, and the configurations.
abbrev pub shown_elements : List TreeElement
shown_elements =
    node_element_at 0 60 0
    ∷ property_element_at 1 464 11 76 2
    ∷ property_element_at 1 476 9 92 4
    ∷ node_element_at 1 100 6
    ∷ node_element_at 2 112 1
    ∷ property_element_at 3 486 11 128 4
    ∷ property_element_at 3 498 9 144 4
    ∷ property_element_at 3 508 4 160 7
    ∷ property_element_at 3 513 2 180 6
    ∷ property_element_at 3 516 4 200 6
    ∷ property_element_at 3 521 11 220 5
    ∷ property_element_at 3 533 4 240 4
    ∷ property_element_at 3 538 5 256 4
    ∷ node_element_at 3 264 6
    ∷ property_element_at 4 544 4 284 6
    ∷ property_element_at 4 549 5 304 4
    ∷ configuration_elements

-- The elements of a file with an image `a`, its hash node, a configuration `c` and its signature
-- node. The limits are the largest ones.
pub record AllNodesAreKnown : Type 0 where
  pub elements : AreTreeElements 0x7fffffff 64 shown_file shown_elements 0
