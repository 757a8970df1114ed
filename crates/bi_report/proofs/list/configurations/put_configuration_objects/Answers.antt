use Rattle.std.proofs.Common.{List, ap, map, ◌∙◌}
use Rattle.bi_blob.specs.Lookups.{Sibling}
use Rattle.bi_blob.specs.Tree.{FileNode}
use Rattle.bi_fdt.specs.Views.{node_of}
use Rattle.bi_fit.specs.Content.{ImageModel}
use Rattle.bi_fit.specs.Siblings.{siblings_left}
use Rattle.bi_common.specs.JsonTokens.{JsonToken, json_tokens, value_tokens}
use Rattle.bi_report.specs.FitListing.{configuration_object}
use Rattle.bi_report.specs.ReadListing.{read_configuration}
use Rattle.bi_report.proofs.PutInTurn.{put_begins, put_ends, put_goes_on}
use Rattle.bi_report.proofs.list.configurations.put_configuration_objects.Goals as goal

-- The objects of configurations of a file with these images.
abbrev objects : List ImageModel → List (Sibling FileNode) → List JsonToken
objects images entries = value_tokens (map configuration_object (map (read_configuration images) entries))

pub loop-node-init : goal.loop-node-init
loop-node-init g c =
    put_begins g.J.JsonPen.puts g.met.J.JsonPen.puts_nothing c.args.json.now _ _
    (ap (objects c.args.fit.now.images)
    (ap siblings_left c.into_iter-node-iterator.ensures.into_iter_gives ∙ c.configuration_nodes-node-items.ensures))

pub loop-node-preserved : goal.loop-node-preserved
loop-node-preserved g c =
    let images = c.args.fit.now.images in
    put_goes_on g.J.JsonPen.puts g.met.J.JsonPen.puts_in_turn c.args.json.now c.loop-node.json c.put_configuration_object.new.json
    (json_tokens (configuration_object (read_configuration images (node_of c.in-Some.node))))
    (objects images (siblings_left c.next.new.self)) _ _ c.loop-node.invariant (ap (objects images) c.in-Some.ensures.steps)
    c.put_configuration_object.ensures

pub returns : goal.returns
returns g c =
    put_ends g.J.JsonPen.puts c.args.json.now c.loop-node.json _ _ c.loop-node.invariant
    (ap (objects c.args.fit.now.images) c.in-None.ensures.steps.0)
