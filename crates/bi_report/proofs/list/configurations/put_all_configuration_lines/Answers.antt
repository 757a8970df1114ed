use Rattle.std.proofs.Common.{List, ap, flat_map, map, ◌∙◌}
use Rattle.std.proofs.lemmas.Grind.{flat_map-append}
use Rattle.bi_blob.specs.Lookups.{Sibling}
use Rattle.bi_blob.specs.Tree.{FileNode}
use Rattle.bi_fdt.specs.Views.{node_of}
use Rattle.bi_fit.specs.Content.{ImageModel}
use Rattle.bi_fit.specs.Siblings.{siblings_left}
use Rattle.bi_common.specs.LineTokens.{LineToken, line_tokens, tokens_of_lines}
use Rattle.bi_report.specs.FitListing.{configuration_lines}
use Rattle.bi_report.specs.ReadListing.{read_configuration}
use Rattle.bi_report.proofs.PutInTurn.{put_begins, put_ends, put_goes_on}
use Rattle.bi_report.proofs.list.configurations.put_all_configuration_lines.Goals as goal

-- The lines of configurations of a file with these images.
abbrev lines : List ImageModel → List (Sibling FileNode) → List LineToken
lines images entries = tokens_of_lines (flat_map configuration_lines (map (read_configuration images) entries))

pub loop-node-init : goal.loop-node-init
loop-node-init g c =
    put_begins g.L.LinePen.puts g.met.L.LinePen.puts_nothing c.args.pen.now _ _
    (ap (lines c.args.fit.now.images)
    (ap siblings_left c.into_iter-node-iterator.ensures.into_iter_gives ∙ c.configuration_nodes-node-items.ensures))

pub loop-node-preserved : goal.loop-node-preserved
loop-node-preserved g c =
    let images = c.args.fit.now.images in
    let one = configuration_lines (read_configuration images (node_of c.in-Some.node)) in
    put_goes_on g.L.LinePen.puts g.met.L.LinePen.puts_in_turn c.args.pen.now c.loop-node.pen c.put_configuration_lines.new.pen
    (tokens_of_lines one) (lines images (siblings_left c.next.new.self)) _ _ c.loop-node.invariant
    (ap (lines images) c.in-Some.ensures.steps ∙ flat_map-append line_tokens one _) c.put_configuration_lines.ensures

pub returns : goal.returns
returns g c =
    put_ends g.L.LinePen.puts c.args.pen.now c.loop-node.pen _ _ c.loop-node.invariant
    (ap (lines c.args.fit.now.images) c.in-None.ensures.steps.0)
