use Rattle.std.proofs.Common.{◌≡◌, ◌∷◌, ◌++◌}
use Rattle.bi_blob.specs.Lookups.{siblings}
use Rattle.bi_fit.specs.Content.{AreAtTheirPlaces}
use Rattle.bi_fit.specs.HashNodes.{file_images}
use Rattle.bi_fit.specs.ImagesWithNodes.{models_left, nodes_left}
use Rattle.bi_show.specs.FitPages.{image_heading}
use Rattle.bi_show.specs.ReadPages.{read_image_rows}
use Rattle.bi_show.specs.Rows.{cells_of_rows}
use Rattle.bi_show.proofs.show.images.image_rows.Given as goal

-- The rows of the images before this one are there, and those of the others follow.
abbrev pub invariant-loop-node : goal.invariant-loop-node
invariant-loop-node l = record {
  placed : AreAtTheirPlaces l.digests (models_left l.node-iterator);
  so_far : cells_of_rows l.rows.items ++ read_image_rows (nodes_left l.node-iterator) (models_left l.node-iterator)
      ≡ image_heading ∷ read_image_rows (siblings (file_images l.fit.blob)) l.fit.images;
}
