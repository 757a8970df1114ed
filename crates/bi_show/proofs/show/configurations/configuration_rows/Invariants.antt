use Rattle.std.proofs.Common.{◌≡◌, ◌++◌, map}
use Rattle.bi_blob.specs.Lookups.{siblings}
use Rattle.bi_fit.specs.HashNodes.{file_configurations}
use Rattle.bi_fit.specs.Siblings.{siblings_left}
use Rattle.bi_show.specs.FitPages.{configuration_row, configurations_table}
use Rattle.bi_show.specs.Rows.{cells_of_rows}
use Rattle.bi_show.proofs.show.configurations.configuration_rows.Given as goal

-- The rows of the configurations before this one are there, and those of the others follow.
abbrev pub invariant-loop-node : goal.invariant-loop-node
invariant-loop-node l =
    cells_of_rows l.rows.items ++ map (configuration_row l.keys.items) (siblings_left l.node-iterator)
    ≡ configurations_table (siblings (file_configurations l.fit.blob))
