use Rattle.std.proofs.Common.{◌≡◌, ◌++◌, filter, map}
use Rattle.bi_coverage.specs.Coverage.{signature_coverage}
use Rattle.bi_coverage.specs.Signatures.{is_signed}
use Rattle.bi_coverage.specs.Values.{meaning_of_sibling, meaning_of_node, signature_value}
use Rattle.bi_fdt.specs.Content.{root_of}
use Rattle.bi_fdt.specs.Views.{node_of}
use Rattle.bi_fit.specs.Content.{tree_of}
use Rattle.bi_fit.specs.HashNodes.{file_signatures}
use Rattle.bi_fit.specs.Names.{is_signature_name}
use Rattle.bi_fit.specs.Siblings.{siblings_left}
use Rattle.bi_show.specs.FitPages.{configuration_signature_row}
use Rattle.bi_show.specs.Rows.{cells_of_rows}
use Rattle.bi_show.proofs.show.signatures.add_signatures_of_configuration.Given as goal

-- The rows of the signature nodes before this child are there, and those of the others follow. The coverage that is left is that of
-- the signed nodes that are left.
abbrev pub invariant-loop-child : goal.invariant-loop-child
invariant-loop-child l =
    let entry = node_of l.node in
    let content = l.fit in
    let row = configuration_signature_row content.blob.file (root_of content.blob) (tree_of content) entry in
    let left = filter (λ child. is_signature_name child.name) (siblings_left l.child-iterator) in
    (cells_of_rows l.rows.items ++ map row left ≡ cells_of_rows l.initial.rows.items ++ map row (file_signatures entry))
    × (map signature_value l.left
    ≡ map (signature_coverage content (meaning_of_node l.node))
    (filter is_signed (map meaning_of_sibling (siblings_left l.child-iterator))))
