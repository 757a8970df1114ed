use Rattle.std.proofs.Common.{◌≡◌, ℕ, List, sym, subst}
use Rattle.std.proofs.lemmas.Result.{IfOk-weaker}
use Rattle.bi_fdt.specs.Order.{IsNumberOrder}
use Rattle.bi_fdt.specs.Views.{node_of, table_of_node}
use Rattle.bi_tree.specs.Properties.{tree_properties}
use Rattle.bi_plain.specs.ReadNodes.{AreReadProperties, numbered_properties}
use Rattle.bi_plain.proofs.ReadProperties.{read_properties_are}
use Rattle.bi_plain.proofs.reader.read_properties.Goals as goal

pub returns : goal.returns
returns c =
    let own = (node_of c.args.node).own in
    IfOk-weaker c.properties_of.result
    (λ all. tree_properties all.items ≡ numbered_properties c.properties_in.result)
    (λ all. (names : List (List ℕ)) → IsNumberOrder names (table_of_node c.args.node) c.args.order.now →
    AreReadProperties names own (tree_properties all.items))
    (λ all is names order.
    subst (AreReadProperties names own) (sym is)
    (read_properties_are names own c.properties_in.result c.requires.distinct
    (c.properties_in.ensures.by_number names order c.requires.distinct)))
    c.properties_of.ensures
