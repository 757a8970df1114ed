use Rattle.std.proofs.Common.{◌+◌, List, ap, drop, flat_map, get_or, refl, ◌∙◌}
use Rattle.std.proofs.lemmas.List.{drop_all, drop_more}
use Rattle.bi_fdt.specs.Views.{node_of}
use Rattle.bi_fit.specs.declared.key.Key.{Key}
use Rattle.bi_fit.specs.declared.key.Key.TheVariants.{Kernel}
use Rattle.bi_fit.specs.HashNodes.{file_listed}
use Rattle.bi_fit.specs.Names.{all_keys}
use Rattle.bi_common.specs.Json.{Json}
use Rattle.bi_common.specs.JsonTokens.{value_tokens}
use Rattle.bi_common.proofs.WrittenTokens.{value_tokens-append}
use Rattle.bi_report.specs.FitListing.{key_objects}
use Rattle.bi_report.proofs.PutInTurn.{put_begins, put_ends, put_goes_on}
use Rattle.bi_report.proofs.list.configurations.put_key_objects.Goals as goal

pub loop-key-init : goal.loop-key-init
loop-key-init g c = put_begins g.J.JsonPen.puts g.met.J.JsonPen.puts_nothing c.args.json.now _ _ refl

pub loop-key-preserved : goal.loop-key-preserved
loop-key-preserved g c =
    let entry = node_of c.args.node in
    let index = c.loop-key.key-index in
    let objects : Key → List Json = λ key. key_objects key (file_listed c.args.fit.now.images entry key) in
    put_goes_on g.J.JsonPen.puts g.met.J.JsonPen.puts_in_turn c.args.json.now c.loop-key.json c.put_key_object.new.json
    (value_tokens (objects (get_or all_keys index Kernel))) (value_tokens (flat_map objects (drop (index + 1) all_keys))) _ _
    c.loop-key.invariant
    (ap (λ keys. value_tokens (flat_map objects keys)) (drop_more all_keys index Kernel c.loop-key-test.true)
    ∙ value_tokens-append (objects (get_or all_keys index Kernel)) _)
    (c.put_key_object.ensures (file_listed c.args.fit.now.images entry (get_or all_keys index Kernel)) c.listed_under.ensures)

pub returns : goal.returns
returns g c =
    let entry = node_of c.args.node in
    put_ends g.J.JsonPen.puts c.args.json.now c.loop-key.json _ _ c.loop-key.invariant
    (ap (λ keys. value_tokens (flat_map (λ key. key_objects key (file_listed c.args.fit.now.images entry key)) keys))
    (drop_all c.loop-key.key-index all_keys c.loop-key-test.false))
