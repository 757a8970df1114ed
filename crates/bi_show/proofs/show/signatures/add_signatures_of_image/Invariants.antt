use Rattle.std.proofs.Common.{◌≡◌, ◌++◌, filter, map}
use Rattle.bi_fdt.specs.Views.{node_of}
use Rattle.bi_fit.specs.HashNodes.{file_signatures}
use Rattle.bi_fit.specs.Names.{is_signature_name}
use Rattle.bi_fit.specs.Siblings.{siblings_left}
use Rattle.bi_show.specs.FitPages.{image_signature_row}
use Rattle.bi_show.specs.Rows.{cells_of_rows}
use Rattle.bi_show.proofs.show.signatures.add_signatures_of_image.Given as goal

-- The rows of the signature nodes before this child are there, and those of the others follow.
abbrev pub invariant-loop-child : goal.invariant-loop-child
invariant-loop-child l =
    let entry = node_of l.node in
    let left = filter (λ child. is_signature_name child.name) (siblings_left l.child-iterator) in
    cells_of_rows l.rows.items ++ map (image_signature_row entry) left
    ≡ cells_of_rows l.initial.rows.items ++ map (image_signature_row entry) (file_signatures entry)
