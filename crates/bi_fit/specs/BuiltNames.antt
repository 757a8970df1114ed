use Rattle.std.specs.Prelude.{ℕ, List, [], ◌∷◌, codes}
use Rattle.bi_fit.specs.Names.{data_name, data_offset_name, data_position_name, data_size_name}
use Rattle.bi_fit.specs.Names.{algo_name, value_name, timestamp_name, default_name}

-- The names of the properties of a tree to be built, in byte order.
abbrev pub built_names : List (List ℕ)
built_names =
    codes "#address-cells" ∷ algo_name ∷ codes "arch" ∷ codes "compatible" ∷ codes "compression"
    ∷ data_name ∷ data_offset_name ∷ data_position_name ∷ data_size_name ∷ default_name
    ∷ codes "description" ∷ codes "entry" ∷ codes "fdt" ∷ codes "firmware" ∷ codes "kernel"
    ∷ codes "load" ∷ codes "loadables" ∷ codes "os" ∷ codes "ramdisk" ∷ codes "script"
    ∷ timestamp_name ∷ codes "type" ∷ value_name ∷ []
