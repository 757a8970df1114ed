use Rattle.std.proofs.Common.{◌≡◌, ◌∷◌, map, take}
use Rattle.bi_fdt.specs.Views.{node_of}
use Rattle.bi_fit.specs.Names.{key_name}
use Rattle.bi_common.specs.Shown.{shown_text}
use Rattle.bi_show.specs.declared.show.cells.CellForm.TheVariants.{Names}
use Rattle.bi_show.specs.FitPages.{value_in}
use Rattle.bi_show.specs.PageCells.{property_cell}
use Rattle.bi_show.specs.Rows.{cells_of_row}
use Rattle.bi_show.proofs.show.configurations.configuration_row.Given as goal

-- The cells of the keys before this one are there.
abbrev pub invariant-loop-key : goal.invariant-loop-key
invariant-loop-key l =
    let entry = node_of l.node in
    cells_of_row l.row.items
    ≡ shown_text entry.name ∷ map (λ key. property_cell Names (value_in entry.own (key_name key))) (take l.key-index l.keys)
