use Rattle.std.proofs.Common.{◌≡◌, ◌≢◌, ℕ, ◌/◌, ◌%◌, ◌≤◌, List, [], ◌∷◌, ◌++◌, codes, Some, rules}
use Rattle.std.proofs.Common.{replicate, refl, lit≤}
use Rattle.std.proofs.lemmas.Bool.{cases_lt}
use Rattle.bi_base.specs.Alignments.{IsAlignment}
use Rattle.bi_base.specs.Cells.{cell, cell8, u32_at}
use Rattle.bi_base.proofs.ByteLists.{bytes_by_test}
use Rattle.bi_blob.specs.Layout.{text_of_events, text_of_blocks, tree_with_places}
use Rattle.bi_blob.specs.Tree.{Nodes, none, node, Root, Property, FileNode}
use Rattle.bi_blob.proofs.Texts.TextBlob.{text_blob}
use Rattle.bi_fit.specs.File.{IsFitFile}
use Rattle.bi_fit.specs.ImageTree.{ImageTree, image_nodes, nodes_or_none}
use Rattle.bi_fit.specs.Kept.{IsPower}
use Rattle.bi_fit.specs.KnownFiles.{plain_tree, position_file, three_aligned, three_embedded, three_external_nodes, three_tree}
use Rattle.bi_fit.specs.KnownFiles.{region_of, tree_with_images}
use Rattle.bi_fit.specs.Names.{data_name, data_position_name, data_size_name}
use Rattle.bi_fit.proofs.FileFacts.{blob_by_test, one_plain, three_plain}
use Rattle.bi_fit.proofs.PowersOfTwo.{le-half, smaller_divides}
use Rattle.bi_fit.proofs.TestedTrees.{content_by_test}

-- Small files and their image nodes: one with a payload at a fixed position, one with payloads at multiples of 4096, and one with payloads
-- inside the blob.

-- A power that divides a number is at most the half of one that does not.
pub at_most_half : (twice other n : ℕ) → IsPower twice → n % twice ≢ 0 → IsPower other → n % other ≡ 0 → other ≤ twice / 2
at_most_half twice other n is_twice odd power whole = search (rules, cases_lt, smaller_divides, le-half)

-- The image nodes of a tree.
abbrev pub nodes_in : Root (List Property) → Nodes FileNode
nodes_in root = nodes_or_none (image_nodes (tree_with_places [] root))

-- The tree of the file with a position, and what it means.
abbrev at_position : List Property
at_position = (data_name, codes "old") ∷ (data_position_name, cell 180) ∷ (data_size_name, cell 3) ∷ []

abbrev pub one_at : Root (List Property)
one_at = tree_with_images (node (codes "a") at_position none none)

abbrev pub one_new : ImageTree
one_new = plain_tree (codes "a" ∷ []) (Some (codes "new") ∷ [])

-- The file, with its image nodes.
unfoldable pub position_is_file : IsFitFile position_file one_new
unfolding text_of_events text_of_blocks cell cell8 u32_at
position_is_file = record {
  root = tree_with_places [] one_at;
  blob = blob_by_test one_at (codes "new") refl refl (lit≤ tt);
  images = nodes_in one_at;
  has_images = refl;
  payloads = (record { begin_cell = refl; size_cell = refl; in_file = lit≤ tt; is_slice = refl }, tt);
  is_root = one_plain (codes "a") at_position (refl, (refl, (refl, tt)));
}

-- The tree of the file with aligned payloads.
abbrev pub three_at : Root (List Property)
three_at = tree_with_images (three_external_nodes 4096)

pub IsAlignment-4096 : IsAlignment 4096
IsAlignment-4096 = record { exponent = 12; least = lit≤ tt; most = lit≤ tt; is_power = refl }

unfoldable pub aligned_is_file : IsFitFile (three_aligned 4096 4096) three_tree
unfolding text_of_events text_of_blocks cell cell8 u32_at
aligned_is_file = record {
  root = tree_with_places [] three_at;
  blob = text_blob 4096 0 [] three_at (codes "hello" ++ (replicate 4091 0 ++ codes "x")) IsAlignment-4096
      (content_by_test three_at refl) (lit≤ tt) (bytes_by_test (codes "hello" ++ (replicate 4091 0 ++ codes "x")) refl);
  images = nodes_in three_at;
  has_images = refl;
  payloads = (
    record { begin_cell = refl; size_cell = refl; in_file = lit≤ tt; is_slice = refl },
    (
      record { begin_cell = refl; size_cell = refl; in_file = lit≤ tt; is_slice = refl },
      (record { begin_cell = refl; size_cell = refl; in_file = lit≤ tt; is_slice = refl }, tt),
    ),
  );
  is_root = three_plain (region_of 0 5) (region_of 4096 0) (region_of 4096 1) (refl, (refl, tt)) (refl, (refl, tt)) (refl, (refl, tt));
}

-- The tree of the file with payloads inside the blob.
abbrev pub three_inside : Root (List Property)
three_inside = tree_with_images
    (node (codes "a") ((data_name, codes "hello") ∷ []) none
    (node (codes "b") ((data_name, []) ∷ []) none
    (node (codes "c") ((data_name, codes "x") ∷ []) none none)))

unfoldable pub embedded_is_file : IsFitFile three_embedded three_tree
unfolding text_of_events text_of_blocks cell cell8 u32_at
embedded_is_file = record {
  root = tree_with_places [] three_inside;
  blob = blob_by_test three_inside [] refl refl (lit≤ tt);
  images = nodes_in three_inside;
  has_images = refl;
  payloads = (refl, (refl, (refl, tt)));
  is_root = three_plain ((data_name, codes "hello") ∷ []) ((data_name, []) ∷ []) ((data_name, codes "x") ∷ [])
      (refl, tt) (refl, tt) (refl, tt);
}
