use Rattle.std.specs.Prelude.{ℕ, ◌≡◌, List, [], ◌∷◌, codes, None, Some, Option}
use Rattle.bi_base.specs.Limits.{widest}
use Rattle.bi_commands.specs.declared.extract.Select.{Select}
use Rattle.bi_commands.specs.declared.extract.Select.TheVariants.{Default}
use Rattle.bi_commands.specs.KnownChoices.{entry_selection, image_selection}
use Rattle.bi_fit.specs.declared.key.Key.TheVariants.{Kernel, Script}
use Rattle.bi_fit.specs.KnownBuilds.{known_text}
use Rattle.bi_norm.specs.declared.fit_building.ImageSpec.{ImageSpec}
use Rattle.bi_norm.specs.KnownBuildFaults.{description_with_zero}
use Rattle.bi_show.specs.KnownTrees.{shown_file}
use Rattle.bi_c.specs.Arguments.{KeyCheck}
use Rattle.bi_c.specs.Checks.{LimitsCheck}
use Rattle.bi_c.specs.Extracting.{IsExtractCallFailure, IsExtracted}
use Rattle.bi_c.specs.FitElements.{AreImageIndices, IsListFailure}
use Rattle.bi_c.specs.KnownCalls.{AlwaysAnswers, AlwaysFills, empty_answer}
use Rattle.bi_c.specs.KnownElements.{region_at_offset}
use Rattle.bi_c.specs.NodeElements.{AreChildRegions, IsNodeFailure, IsPropertyFailure, IsValueAt}
use Rattle.bi_c.specs.TreeBuilding.{IsSpecOf, IsTreeBuildFailure, IsTreeOfPieces}
use Rattle.bi_c.specs.declared.answer.Answer.{Answer}
use Rattle.bi_c.specs.declared.argument.Argument.{Argument}
use Rattle.bi_c.specs.declared.fit_building.BuildElement.{BuildElement}
use Rattle.bi_c.specs.declared.region.Region.{Region}

-- What calls from C leave for a small flattened image tree: the buffer, the struct and the status.
-- A reader can judge the definitions by them. The limits are the largest ones. The file has an
-- image `a`, whose payload `abc` is at 596, and a configuration `c`, which is the default and lists
-- `a` as its kernel.

-- ---- looking up

-- A call on the file that extracts what is selected leaves this and returns this status.
abbrev pub Extracts : (Check : Option (Argument × ℕ) → Type 0) → Select → Answer
    → (status : ℕ) → Type 0
Extracts Check select answer status =
    AlwaysAnswers (IsExtracted (Check None) widest select shown_file)
    (IsExtractCallFailure Check widest select shown_file) answer status

-- Extracting by the name of an image, by a configuration, and by the default one. The reasons are
-- those of the header: no image, no entry. A key of the number 6 is a wrong argument.
pub record TreeSelectionsAreKnown : Type 0 where
  pub image : Extracts (LimitsCheck 0x7fffffff 64) (image_selection (codes "a"))
      (record empty_answer { size = 3; value = 596 }) 0
  pub entry : Extracts (KeyCheck 0x7fffffff 64 0) (entry_selection (codes "c") Kernel 0)
      (record empty_answer { size = 3; value = 596 }) 0
  pub default : Extracts (KeyCheck 0x7fffffff 64 0) (Default Kernel 0)
      (record empty_answer { size = 3; value = 596 }) 0
  pub no_image : Extracts (LimitsCheck 0x7fffffff 64) (image_selection (codes "b"))
      (record empty_answer { reason = 3 }) 5
  pub no_entry : Extracts (KeyCheck 0x7fffffff 64 0) (Default Kernel 1)
      (record empty_answer { reason = 8 }) 5
  pub no_such_key : Extracts (KeyCheck 0x7fffffff 64 6) (Default Script 0)
      (record empty_answer { reason = 8 }) 4

-- The configuration has no list of devicetrees (key 1), and there is no configuration `d`. A path
-- has no node, and a name has no property. The array stays as it was.
pub record TreeReasonsAreKnown : Type 0 where
  pub no_key : (before : List ℕ)
      → AlwaysFills (AreImageIndices 0x7fffffff 64 1 shown_file (codes "c"))
      (IsListFailure 0x7fffffff 64 1 shown_file (codes "c"))
      before before (record empty_answer { reason = 5 }) 5
  pub no_configuration : (before : List ℕ)
      → AlwaysFills (AreImageIndices 0x7fffffff 64 0 shown_file (codes "d"))
      (IsListFailure 0x7fffffff 64 0 shown_file (codes "d"))
      before before (record empty_answer { reason = 4 }) 5
  pub no_node : (before : List Region)
      → AlwaysFills (AreChildRegions 0x7fffffff 64 shown_file (codes "/images/b"))
      (IsNodeFailure 0x7fffffff 64 shown_file (codes "/images/b"))
      before before (record empty_answer { reason = 10 }) 5
  pub no_property : AlwaysAnswers
      (IsValueAt 0x7fffffff 64 shown_file (codes "/images/a") (codes "x"))
      (IsPropertyFailure 0x7fffffff 64 shown_file (codes "/images/a") (codes "x"))
      (record empty_answer { reason = 11 }) 5
  pub no_node_of_property : AlwaysAnswers
      (IsValueAt 0x7fffffff 64 shown_file (codes "/images/b") (codes "data"))
      (IsPropertyFailure 0x7fffffff 64 shown_file (codes "/images/b") (codes "data"))
      (record empty_answer { reason = 10 }) 5

-- ---- building

-- A kernel with a load address and another entry point, and a ramdisk without either. The input has
-- their names and their payloads, one after another.
abbrev pub pieces_of_tree : List ℕ
pieces_of_tree = codes "kernel-1helloramdisk-1abc"

abbrev pub kernel_element : BuildElement
kernel_element = record {
  name = region_at_offset 0 8;
  payload = region_at_offset 8 5;
  load = 0x8000;
  entry = 0x8040;
  addresses = 3;
  os = 5;
  arch = 2;
  image_type = 2;
  compression = 0;
}

abbrev pub ramdisk_element : BuildElement
ramdisk_element = record {
  name = region_at_offset 13 9;
  payload = region_at_offset 22 3;
  load = 0;
  entry = 0;
  addresses = 0;
  os = 5;
  arch = 2;
  image_type = 3;
  compression = 0;
}

-- With the description `k` and the time 1 they are built to a text of 824 bytes. The sum 1 stands
-- for the load address alone, and 4 is a wrong argument. So is a payload that ends after the input.
-- A description with a zero byte has the cause BadField at 0.
pub record TreeBuildingIsKnown : Type 0 where
  pub built : (text : List ℕ) (value : ℕ)
      → IsTreeOfPieces 0x7fffffff 64 0 1 pieces_of_tree (codes "k")
      (kernel_element ∷ ramdisk_element ∷ []) text value
      → (text ≡ known_text) × (value ≡ 0)
  pub load_alone : (spec : ImageSpec)
      → IsSpecOf pieces_of_tree (record kernel_element { addresses = 1 }) spec
      → (spec.load ≡ Some 0x8000) × (spec.entry ≡ None)
  pub outside : (before : List ℕ)
      → AlwaysFills
      (IsTreeOfPieces 0x7fffffff 64 0 1 pieces_of_tree (codes "k")
      (record ramdisk_element { payload = region_at_offset 22 4 } ∷ []))
      (IsTreeBuildFailure 0x7fffffff 64 0 1 pieces_of_tree (codes "k")
      (record ramdisk_element { payload = region_at_offset 22 4 } ∷ []))
      before before (record empty_answer { reason = 17 }) 4
  pub no_such_sum : (before : List ℕ)
      → AlwaysFills
      (IsTreeOfPieces 0x7fffffff 64 0 1 pieces_of_tree (codes "k")
      (record ramdisk_element { addresses = 4 } ∷ []))
      (IsTreeBuildFailure 0x7fffffff 64 0 1 pieces_of_tree (codes "k")
      (record ramdisk_element { addresses = 4 } ∷ []))
      before before (record empty_answer { reason = 17 }) 4
  pub bad_description : (before : List ℕ)
      → AlwaysFills (IsTreeOfPieces 0x7fffffff 64 0 1 [] description_with_zero [])
      (IsTreeBuildFailure 0x7fffffff 64 0 1 [] description_with_zero [])
      before before (record empty_answer { cause = 25; file = 1 }) 1
