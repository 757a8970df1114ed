use Rattle.std.proofs.Common.{◌≡◌, ◌++◌, flat_map, map}
use Rattle.bi_blob.specs.Lookups.{siblings}
use Rattle.bi_coverage.specs.Coverage.{configuration_coverage}
use Rattle.bi_coverage.specs.Values.{configuration_value, meaning_of_sibling}
use Rattle.bi_fdt.specs.Content.{root_of}
use Rattle.bi_fit.specs.Content.{tree_of}
use Rattle.bi_fit.specs.HashNodes.{file_configurations, file_signatures}
use Rattle.bi_fit.specs.Siblings.{siblings_left}
use Rattle.bi_show.specs.FitPages.{configuration_signature_row}
use Rattle.bi_show.specs.Rows.{cells_of_rows}
use Rattle.bi_show.proofs.show.signatures.add_configuration_signatures.Given as goal

-- The rows of the configurations before this one are there, and those of the others follow. The coverage that is left is that of the
-- configurations that are left.
abbrev pub invariant-loop-node : goal.invariant-loop-node
invariant-loop-node l =
    let content = l.fit in
    let row = configuration_signature_row content.blob.file (root_of content.blob) (tree_of content) in
    (cells_of_rows l.rows.items ++ flat_map (λ entry. map (row entry) (file_signatures entry)) (siblings_left l.node-iterator)
    ≡ cells_of_rows l.initial.rows.items
    ++ flat_map (λ entry. map (row entry) (file_signatures entry)) (siblings (file_configurations content.blob)))
    × (map configuration_value l.left
    ≡ map (λ entry. configuration_coverage content (meaning_of_sibling entry)) (siblings_left l.node-iterator))
