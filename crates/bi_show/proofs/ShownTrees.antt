use Rattle.std.proofs.Common.{◌≡◌, List, [], ◌∷◌, Some, codes, lit≤, refl, rules}
use Rattle.bi_base.specs.Cells.{cell, cell8, u32_at}
use Rattle.bi_base.specs.Crc.{crc32, crc_after, low_bits}
use Rattle.bi_base.specs.Limits.{widest}
use Rattle.bi_base.specs.Strings.{text_before_nul}
use Rattle.bi_blob.specs.Layout.{text_of_events, text_of_blocks, tree_with_places}
use Rattle.bi_blob.specs.Tree.{FileNode, Nodes, Root, tree_without_order, tree_without_places}
use Rattle.bi_fit.specs.File.{FitMeans}
use Rattle.bi_fit.specs.ImageTree.{ImageTree, image_nodes, nodes_or_none, tree_without_payloads}
use Rattle.bi_fit.specs.Judgement.{CheckedHash}
use Rattle.bi_fit.proofs.FileFacts.{blob_by_test}
use Rattle.bi_fit.proofs.JudgementFacts.{find-properties}
use Rattle.bi_hash.specs.Algos.{find_algorithm}
use Rattle.bi_hash.specs.Digests.{digest_of}
use Rattle.bi_hash.specs.Verdicts.{verdict_of}
use Rattle.bi_hash.specs.declared.verdicts.Verdict.TheVariants.{Good}
use Rattle.bi_report.specs.Checking.{Concern, Unsigned, WeakHash, tree_concerns}
use Rattle.bi_report.specs.SignedTrees.{coverage_in}
use Rattle.bi_show.specs.KnownTrees.{shown_file, shown_tree}

-- What the file of a small flattened image tree means.

-- What the file means.
abbrev pub file_root : Root FileNode
file_root = tree_with_places [] shown_tree

abbrev pub shown_meaning : ImageTree
shown_meaning = record {
  cpu = 0;
  reservations = [];
  root = tree_without_payloads (tree_without_order (tree_without_places file_root));
  payloads = Some (codes "abc") ∷ [];
}

abbrev shown_nodes : Nodes FileNode
shown_nodes = nodes_or_none (image_nodes file_root)

unfoldable pub shown_means : FitMeans widest shown_file shown_meaning
unfolding text_of_events text_of_blocks cell cell8 u32_at
shown_means = record {
  is_file = record {
    root = file_root;
    blob = blob_by_test shown_tree (codes "abc") refl refl (lit≤ tt);
    images = shown_nodes;
    has_images = refl;
    payloads = (record { begin_cell = refl; size_cell = refl; in_file = lit≤ tt; is_slice = refl }, tt);
    is_root = refl;
  };
  within = record { short = lit≤ tt; shallow = lit≤ tt };
}

-- Its concern: the only hash node is of a weak algorithm.
abbrev pub shown_hash : CheckedHash
shown_hash = record {
  image = codes "a";
  node_name = codes "hash-1";
  algo = Some (codes "crc32");
  value = Some (0x35 ∷ 0x24 ∷ 0x41 ∷ 0xc2 ∷ []);
  verdict = Good;
}

abbrev pub shown_concerns : List Concern
shown_concerns = WeakHash (codes "a") (shown_hash ∷ []) ∷ Unsigned (Some (codes "c")) ∷ []

pub concerns_of_tree : tree_concerns shown_meaning (coverage_in shown_file file_root shown_meaning) ≡ shown_concerns
unfolding text_before_nul verdict_of find_algorithm digest_of cell crc32 crc_after low_bits
concerns_of_tree = search (rules, find-properties)
