use Rattle.std.proofs.Common.{List, ap, map, refl}
use Rattle.bi_common.specs.HashedImages.{FoundHash, found_hash_of, found_left}
use Rattle.bi_common.specs.JsonTokens.{JsonToken, json_tokens, value_tokens}
use Rattle.bi_report.proofs.PutInTurn.{put_begins, put_ends, put_goes_on}
use Rattle.bi_show.specs.ShownObjects.{shown_hash_object}
use Rattle.bi_show.proofs.show.json.images.put_hash_objects.Goals as goal

-- The objects of hash nodes.
abbrev objects : List FoundHash → List JsonToken
objects hashes = value_tokens (map shown_hash_object hashes)

pub loop-node-init : goal.loop-node-init
loop-node-init g c = put_begins g.J.JsonPen.puts g.met.J.JsonPen.puts_nothing c.args.json.now _ _ refl

pub loop-node-preserved : goal.loop-node-preserved
loop-node-preserved g c =
    put_goes_on g.J.JsonPen.puts g.met.J.JsonPen.puts_in_turn c.args.json.now c.loop-node.json c.put_hash_object.new.json
    (json_tokens (shown_hash_object (found_hash_of (c.in-Some.node, c.in-Some.hash)))) (objects (found_left c.next_node.new.self)) _ _
    c.loop-node.invariant (ap objects c.in-Some.ensures) c.put_hash_object.ensures

pub returns : goal.returns
returns g c =
    put_ends g.J.JsonPen.puts c.args.json.now c.loop-node.json _ _ c.loop-node.invariant (ap objects c.in_default.ensures.0)
