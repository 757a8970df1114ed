use Rattle.std.proofs.Common.{◌∷◌, ◌++◌, [], map, sym, ap, ◌∙◌}
use Rattle.std.proofs.lemmas.List.{map-append}
use Rattle.bi_fdt.specs.Views.{node_of}
use Rattle.bi_fit.specs.Content.{tree_of}
use Rattle.bi_fit.specs.Siblings.{siblings_left}
use Rattle.bi_coverage.specs.Values.{configuration_value, meaning_of_node, signature_value}
use Rattle.bi_coverage.proofs.Configurations.{no_configuration_read, one_read}
use Rattle.bi_coverage.proofs.SignedConfigurations.{coverage_empty, none_signed, nothing_needed}
use Rattle.bi_coverage.proofs.reading.unsigned_configurations.Goals as goal

pub loop-configuration-init : goal.loop-configuration-init
loop-configuration-init c =
    no_configuration_read c.args.fit.now (map configuration_value c.new-read.result.items) _ c.requires.held
    (ap (map configuration_value) c.new-read.ensures.items)
    (ap siblings_left c.into_iter-configuration-iterator.ensures.into_iter_gives ∙ c.configuration_nodes-configuration-items.ensures)

pub loop-configuration-preserved : goal.loop-configuration-preserved
loop-configuration-preserved c =
    let content = c.args.fit.now in
    let configuration = c.in-Some.configuration in
    let before = c.loop-configuration in
    let nothing = none_signed (node_of configuration) (sym c.has_signed_node.ensures ∙ c.if-has_signed_node.false) in
    one_read content (map configuration_value before.read.items) 0 (siblings_left before.configuration-iterator)
    (siblings_left c.next.new.self) (node_of configuration) c.in-Some.ensures.steps before.invariant
    (map configuration_value c.push.new.self.items) 0
    (ap (map configuration_value) c.in_ok-push.ensures.items
    ∙ map-append configuration_value before.read.items _
    ∙ ap (λ last. map configuration_value before.read.items ++ last ∷ [])
    (coverage_empty content (meaning_of_node configuration) c.name.result.now (map signature_value c.new.result.items) c.name.ensures
    nothing
    (ap (map signature_value) c.new.ensures.items)))
    (nothing_needed (tree_of content) (meaning_of_node configuration) 0 nothing)
