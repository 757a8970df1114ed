use Rattle.std.proofs.Common.{◌≡◌, ◌++◌, drop, map}
use Rattle.bi_fit.specs.Content.{image_model}
use Rattle.bi_show.specs.Layouts.{region_row, with_free_space}
use Rattle.bi_show.specs.ReadPages.{read_image_names}
use Rattle.bi_show.specs.Rows.{cells_of_rows}
use Rattle.bi_show.proofs.show.layout.add_regions.Given as goal

-- The rows of the regions before this one are there, and those of the others follow.
abbrev pub invariant-loop-region : goal.invariant-loop-region
invariant-loop-region l =
    let names = read_image_names (map image_model l.images) in
    cells_of_rows l.rows.items ++ map (region_row names) (with_free_space l.covered l.end (drop l.region-index l.regions))
    ≡ cells_of_rows l.initial.rows.items ++ map (region_row names) (with_free_space 0 l.end l.regions)
