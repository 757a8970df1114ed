use Rattle.std.proofs.Common.{◌≡◌, ◌++◌, codes, ap, ◌∙◌}
use Rattle.std.specs.FinMap.{empty, from_entries}
use Rattle.bi_fit.specs.Building.{cell_property, description_of, text_value}
use Rattle.bi_fit.specs.NamedImages.{head_model, named_model}
use Rattle.bi_fit.specs.PropertyMapModels.{among, with_property_value}
use Rattle.bi_fit.specs.BuiltNames.{built_names}
use Rattle.bi_fit.specs.BuiltNodes.{with_cell_property}
use Rattle.bi_fit.proofs.BuiltProperties.{addresses}
use Rattle.bi_fit.proofs.building.properties.image_properties.Goals as goal

pub returns : goal.returns
returns c =
    let image = named_model c.args.image.now in
    let cells : c.insert_cell-2.new.properties
    ≡ among built_names (from_entries (cell_property (codes "load") image.load ++ cell_property (codes "entry") image.entry)) =
    c.in_ok-insert_cell-2.ensures
    ∙ ap (with_cell_property (codes "load") image.load)
    (c.in_ok-insert_cell.ensures ∙ ap (with_cell_property (codes "entry") image.entry)
    (c.new-properties.ensures ∙ ap (λ names. among names empty) c.requires))
    ∙ addresses built_names image.load image.entry in
    c.in_ok-insert-4.ensures
    ∙ ap (with_property_value (codes "arch") (text_value image.arch))
    (c.in_ok-insert-3.ensures
    ∙ ap (with_property_value (codes "compression") (text_value image.compression))
    (c.in_ok-insert_description.ensures
    ∙ ap (with_property_value (codes "description") (text_value (description_of (head_model c.args.head) image.description)))
    (c.in_ok-insert-2.ensures
    ∙ ap (with_property_value (codes "os") (text_value image.os))
    (c.in_ok-insert.ensures ∙ ap (with_property_value (codes "type") (text_value image.image_type)) cells))))
