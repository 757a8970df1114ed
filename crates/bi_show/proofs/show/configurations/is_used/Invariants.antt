use Rattle.std.proofs.Common.{◌≡◌}
use Rattle.std.specs.List.{list_any}
use Rattle.bi_blob.specs.Lookups.{siblings}
use Rattle.bi_fit.specs.HashNodes.{file_configurations}
use Rattle.bi_fit.specs.Siblings.{siblings_left}
use Rattle.bi_show.specs.FitPages.{has_key}
use Rattle.bi_show.proofs.show.configurations.is_used.Given as goal

-- The result depends only on the configurations that are left.
abbrev pub invariant-loop-node : goal.invariant-loop-node
invariant-loop-node l =
    list_any (has_key l.key) (siblings_left l.node-iterator)
    ≡ list_any (has_key l.key) (siblings (file_configurations l.fit.blob))
