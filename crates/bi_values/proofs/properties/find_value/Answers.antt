use Rattle.std.proofs.Common.{◌∙◌, ap, sym}
use Rattle.std.specs.Option.{option_map}
use Rattle.bi_blob.specs.Lookups.{root_node}
use Rattle.bi_fdt.specs.Content.{root_of}
use Rattle.bi_fdt.specs.Views.{node_of}
use Rattle.bi_values.specs.ValueNames.{names_of_path}
use Rattle.bi_values.proofs.TreeValues.{no_node_value, no_payload_value, node_value}
use Rattle.bi_values.proofs.properties.find_value.Goals as goal

pub returns-then-is_of_payload : goal.returns-then-is_of_payload
returns-then-is_of_payload c =
    no_payload_value c.args.fit.now (names_of_path c.args.path.now) c.args.name.now
    (sym c.is_of_payload.ensures ∙ c.if-is_of_payload.true)

pub returns-in_err-node_at : goal.returns-in_err-node_at
returns-in_err-node_at c =
    ap (option_map (λ value. value.now)) c.from_residual.ensures
    ∙ no_node_value c.args.fit.now (names_of_path c.args.path.now) c.args.name.now (sym c.is_of_payload.ensures ∙ c.if-is_of_payload.false)
    (node_of c.root.result) (c.root.ensures.root ∙ ap (λ blob. root_node (root_of blob)) c.blob.ensures)
    (sym c.node_at.ensures ∙ ap (option_map node_of) c.in_err-node_at.was)

pub returns : goal.returns
returns c =
    node_value c.args.fit.now (names_of_path c.args.path.now) c.args.name.now (sym c.is_of_payload.ensures ∙ c.if-is_of_payload.false)
    (node_of c.root.result) (node_of c.in_ok-node_at.field-0)
    (c.root.ensures.root ∙ ap (λ blob. root_node (root_of blob)) c.blob.ensures)
    (sym c.node_at.ensures ∙ ap (option_map node_of) c.in_ok-node_at.was) _ c.property.ensures
