use Rattle.std.specs.Prelude.{ℕ, List, [], ◌∷◌, ◌++◌, codes}
use Rattle.bi_base.specs.declared.fault.Cause.{Cause}
use Rattle.bi_base.specs.declared.fault.Cause.TheVariants.{TooLarge, NoImages, BadCell, NoSize}
use Rattle.bi_base.specs.declared.fault.Cause.TheVariants.{OutsideFile}
use Rattle.bi_base.specs.Cells.{cell}
use Rattle.bi_base.specs.Limits.{Limits, widest}
use Rattle.bi_blob.specs.Tree.{Nodes, none, node, Property}
use Rattle.bi_blob.specs.Layout.{text_of_tree}
use Rattle.bi_fit.specs.Names.{images_name, data_offset_name, data_position_name, data_size_name}
use Rattle.bi_fit.specs.Faults.{IsFitFault}
use Rattle.bi_fit.specs.KnownFiles.{file_of_images, region_of, shared_file}

-- Small files that are refused, each with its fault, by which a reader can judge the definitions:
-- each check is the first that fails in one of them. In these files the root's token is at 56,
-- that of `images` at 64, that of the first image node at 76 and that of its first property at 84.

-- A file has this fault under these limits.
abbrev pub HasFitFault : Limits → List ℕ → Cause → ℕ → Type 0
HasFitFault bounds file cause offset =
    IsFitFault bounds file (record { cause = cause; offset = offset })

-- A file with a tree of a root with these nodes.
abbrev pub file_of_nodes : Nodes (List Property) → List ℕ
file_of_nodes nodes = text_of_tree 4 0 [] (record { own = []; children = nodes }) ++ []

-- A file with one image node, which has these properties.
abbrev pub file_of_image : List Property → List ℕ
file_of_image properties = file_of_images (node (codes "a") properties none none) []

-- A file with two image nodes, which have these properties.
abbrev pub file_of_two : (first second : List Property) → List ℕ
file_of_two first second =
    file_of_images (node (codes "a") first none (node (codes "b") second none none)) []

-- Files that have no image nodes: one with only a root, and one with a node `images` that is not a
-- child of the root.
pub record WithoutImages : Type 0 where
  pub no_child : HasFitFault widest (file_of_nodes none) NoImages 56
  pub elsewhere :
      HasFitFault widest
      (file_of_nodes (node (codes "x") [] (node images_name [] none none) none))
      NoImages 56

-- Files with one image node in which one check fails.
pub record RegionsHaveFaults : Type 0 where
  pub offset_no_cell :
      HasFitFault widest
      (file_of_image ((data_offset_name, codes "abc") ∷ (data_size_name, cell 0) ∷ []))
      BadCell 84
  pub position_no_cell :
      HasFitFault widest
      (file_of_image ((data_position_name, codes "abcde") ∷ (data_size_name, cell 0) ∷ []))
      BadCell 84
  pub no_size : HasFitFault widest (file_of_image ((data_offset_name, cell 0) ∷ [])) NoSize 84
  pub size_no_cell :
      HasFitFault widest
      (file_of_image ((data_offset_name, cell 0) ∷ (data_size_name, codes "abc") ∷ []))
      BadCell 100
  pub offset_outside : HasFitFault widest (shared_file 0 1001) OutsideFile 84
  pub position_outside :
      HasFitFault widest
      (file_of_image ((data_position_name, cell 172) ∷ (data_size_name, cell 1) ∷ []))
      OutsideFile 84

-- Files in which two checks fail: the fault is that of the first. The checks of one image node come
-- before those of the next, and only `data-position` is checked if there is `data-offset` too.
pub record FirstFaultCounts : Type 0 where
  pub cell_before_size :
      HasFitFault widest (file_of_image ((data_offset_name, codes "abc") ∷ [])) BadCell 84
  pub cell_before_size_cell :
      HasFitFault widest
      (file_of_image ((data_size_name, codes "abc") ∷ (data_offset_name, codes "abc") ∷ []))
      BadCell 100
  pub size_cell_before_region :
      HasFitFault widest
      (file_of_image ((data_offset_name, cell 0xffffffff) ∷ (data_size_name, codes "abc") ∷ []))
      BadCell 100
  pub position_alone :
      HasFitFault widest
      (file_of_image
      ((data_offset_name, codes "abc")
      ∷ (data_position_name, cell 0xffffffff)
      ∷ (data_size_name, cell 1)
      ∷ []))
      OutsideFile 100
  pub first_image :
      HasFitFault widest
      (file_of_two (region_of 0 1000) ((data_offset_name, codes "abc") ∷ []))
      OutsideFile 84
  pub second_image :
      HasFitFault widest
      (file_of_two (region_of 0 0) ((data_offset_name, cell 0) ∷ []))
      NoSize 128
  pub limit_before_images :
      HasFitFault (record { file = 71; depth = 64 }) (file_of_nodes none) TooLarge 71
