use Rattle.std.proofs.Common.{◌∙◌, arith}
use Rattle.bi_fdt.specs.Content.{root_of}
use Rattle.bi_fit.specs.Judgement.{listed_names}
use Rattle.bi_coverage.specs.NodeIndices.{path_end}
use Rattle.bi_coverage.proofs.Ends.{recorded_is, recorded_more, recorded_all}
use Rattle.bi_coverage.proofs.node_index.NodeIndex.recorded_end.Goals as goal

pub loop-path-preserved : goal.loop-path-preserved
loop-path-preserved c =
    recorded_more (path_end c.args.self.now.file (root_of c.args.self.now)) c.loop-path.rest.now c.in-Some.path.now c.in-Some.later.now
    c.loop-path.end _ _ c.in-Some.ensures (omega (arith, c.end_at.ensures, c.max-end.ensures)) c.loop-path.invariant

pub returns : goal.returns
returns c =
    recorded_all (path_end c.args.self.now.file (root_of c.args.self.now)) c.loop-path.rest.now c.loop-path.end _ c.in_default.ensures
    c.loop-path.invariant
    ∙ recorded_is c.args.self.now.file (root_of c.args.self.now) (listed_names c.args.value.now)
