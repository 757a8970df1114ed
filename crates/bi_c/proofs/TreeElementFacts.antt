use Rattle.std.proofs.Common.{refl}
use Rattle.bi_base.specs.Cells.{cell, cell8, u32_at}
use Rattle.bi_blob.specs.Layout.{text_of_blocks, text_of_events}
use Rattle.bi_show.specs.KnownTrees.{shown_file}
use Rattle.bi_show.proofs.ShownTrees.{shown_meaning, shown_means}
use Rattle.bi_c.specs.KnownTreeElements.{AllNodesAreKnown}
use Rattle.bi_c.proofs.AnswerFacts.{widest_is_in_range}
use Rattle.bi_c.proofs.TreeRegions.{all_node_bytes}

-- The elements of all nodes of a small file are known.

pub all_nodes_are_known : AllNodesAreKnown
unfolding shown_means text_of_events text_of_blocks cell cell8 u32_at
all_nodes_are_known = record {
  elements = record {
    limits = widest_is_in_range;
    tree = shown_meaning;
    means = shown_means;
    are_elements = refl;
    have_bytes = all_node_bytes shown_file shown_meaning.cpu shown_meaning.reservations shown_means.is_file.root shown_means.is_file.blob;
    no_value = refl;
  };
}
