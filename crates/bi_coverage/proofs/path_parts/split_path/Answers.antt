use Rattle.std.proofs.Common.{arith}
use Rattle.bi_coverage.proofs.PathCuts.{path_begins_with_node, slash_within}
use Rattle.bi_coverage.proofs.path_parts.split_path.Goals as goal

pub split_at-requires : goal.split_at-requires
split_at-requires c = omega (arith, c.slash_at.ensures, slash_within c.in_ok-first.names.now)

pub returns : goal.returns
returns c =
    path_begins_with_node c.args.path.now c.in_ok-first.names.now _ _ c.in_ok-first.first.now _
    c.in_ok-first.ensures.cases.0 c.if-first-ne47.false c.slash_at.ensures
    c.split_at.ensures.front c.split_at.ensures.back
