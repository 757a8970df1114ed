use Rattle.std.proofs.Common.{◌≡◌, ◌∷◌, List, ap, map, sym, ◌∙◌}
use Rattle.bi_blob.specs.Lookups.{Sibling}
use Rattle.bi_blob.specs.Tree.{FileNode}
use Rattle.bi_coverage.specs.Coverage.{ConfigurationCoverage, configuration_coverage}
use Rattle.bi_coverage.specs.Values.{configuration_value, meaning_of_sibling}
use Rattle.bi_fdt.specs.Views.{node_of}
use Rattle.bi_fit.specs.Siblings.{siblings_left}
use Rattle.bi_common.specs.JsonTokens.{json_tokens, value_tokens}
use Rattle.bi_report.proofs.PutInTurn.{put_goes_on}
use Rattle.bi_show.specs.ReadObjects.{read_configuration_object}
use Rattle.bi_show.proofs.ShownSignatures.{first_and_others, others_after}
use Rattle.bi_show.proofs.show.json.configurations.put_configuration_objects.Goals as goal

pub loop-node-preserved : goal.loop-node-preserved
loop-node-preserved g c =
    let content = c.args.fit.now in
    let object = read_configuration_object content in
    let later = siblings_left c.next.new.self in
    let cover = (λ (entry : Sibling FileNode). configuration_coverage content (meaning_of_sibling entry)) in
    let first = c.covered-item.result in
    let steps = c.in-Some.ensures.steps in
    let parts = first_and_others c.loop-node.left.now first c.in-len1-up.len_at_least c.covered-item.is in
    record {
      are_put =
          put_goes_on g.J.JsonPen.puts g.met.J.JsonPen.puts_in_turn c.args.json.now c.loop-node.json c.put_configuration_object.new.json
          (json_tokens (object (node_of c.in-Some.node))) (value_tokens (map object later)) _ _ c.loop-node.invariant.are_put
          (ap (λ entries. value_tokens (map object entries)) steps) c.put_configuration_object.ensures;
      covered = others_after configuration_value cover c.loop-node.left.now first _ _ (node_of c.in-Some.node) later parts steps
          c.loop-node.invariant.covered;
    }
