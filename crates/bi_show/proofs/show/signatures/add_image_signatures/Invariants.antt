use Rattle.std.proofs.Common.{◌≡◌, ◌++◌, flat_map, map}
use Rattle.bi_blob.specs.Lookups.{siblings}
use Rattle.bi_fit.specs.HashNodes.{file_images, file_signatures}
use Rattle.bi_fit.specs.Siblings.{siblings_left}
use Rattle.bi_show.specs.FitPages.{image_signature_row}
use Rattle.bi_show.specs.Rows.{cells_of_rows}
use Rattle.bi_show.proofs.show.signatures.add_image_signatures.Given as goal

-- The rows of the images before this one are there, and those of the others follow.
abbrev pub invariant-loop-node : goal.invariant-loop-node
invariant-loop-node l =
    cells_of_rows l.rows.items
    ++ flat_map (λ entry. map (image_signature_row entry) (file_signatures entry)) (siblings_left l.node-iterator)
    ≡ cells_of_rows l.initial.rows.items
    ++ flat_map (λ entry. map (image_signature_row entry) (file_signatures entry)) (siblings (file_images l.fit.blob))
