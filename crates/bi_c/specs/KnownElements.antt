use Rattle.std.specs.Prelude.{◌≡◌, ℕ, [], ◌∷◌, Option, None, Some, codes}
use Rattle.bi_blob.specs.Tree.{FileProperty}
use Rattle.bi_fit.specs.Judgement.{ListResult, NoConfig, NoKey, BadList, Missing, ListedImages}
use Rattle.bi_fit.specs.KnownJudgements.{configured_tree}
use Rattle.bi_fit.specs.Payloads.{NoSource, Data, DataOffset, DataPosition}
use Rattle.bi_legacy.specs.KnownFiles.{kernel_file_with_rest}
use Rattle.bi_legacy.specs.KnownImages.{multi_file}
use Rattle.bi_show.specs.KnownTrees.{shown_file}
use Rattle.bi_commands.specs.KnownChoices.{second_tree}
use Rattle.bi_c.specs.FitElements.{AreConfigurationRegions, AreFitFields, AreImageIndices}
use Rattle.bi_c.specs.FitElements.{AreReservationElements, IsListReason, default_index_of}
use Rattle.bi_c.specs.FitElements.{element_of_reservation, index_of_default, index_of_first}
use Rattle.bi_c.specs.FitElements.{index_of_listed}
use Rattle.bi_c.specs.ImageElements.{AreImageElements, image_payload_region, source_number}
use Rattle.bi_c.specs.LegacyElements.{AreLegacyFields, ArePartRegions}
use Rattle.bi_c.specs.NodeElements.{AreChildRegions, ArePropertyElements, IsValueAt}
use Rattle.bi_c.specs.VerdictElements.{AreHashElements}
use Rattle.bi_c.specs.declared.legacy.LegacyFields.{LegacyFields}
use Rattle.bi_c.specs.declared.region.Region.{Region}
use Rattle.bi_c.specs.declared.verdicts.HashElement.{HashElement}

-- The arrays and structs that calls from C fill for small files, by which a reader can judge the
-- definitions. The limits are the largest ones.

-- A region.
abbrev pub region_at_offset : (offset size : ℕ) → Region
region_at_offset offset size = record { offset = offset; size = size }

-- ---- numbers

-- The numbers of what places a payload, and where a payload is that is there or not.
pub record PlaceNumbersAreKnown : Type 0 where
  pub no_source : source_number NoSource ≡ 0
  pub data_property : (property : FileProperty) → source_number (Data property) ≡ 1
  pub data_offset : (offset : FileProperty) (size : Option FileProperty)
      → source_number (DataOffset offset size) ≡ 2
  pub data_position : (position : FileProperty) (size : Option FileProperty)
      → source_number (DataPosition position size) ≡ 3
  pub payload : image_payload_region (Some 596) (Some (codes "abc")) ≡ region_at_offset 596 3
  pub no_payload : image_payload_region None None ≡ region_at_offset 0 0

-- The reason why nothing is listed has these numbers, and no others.
pub record HasListReason (result : ListResult) (reason index : ℕ) : Type 0 where
  pub is : IsListReason reason index result
  pub only : (other other_index : ℕ) → IsListReason other other_index result
      → (other ≡ reason) × (other_index ≡ index)

-- The index of the default configuration is the number of configurations if none is the default.
-- Each index counts from 0.
pub record IndicesAreKnown : Type 0 where
  pub first : index_of_first (codes "a") (codes "a" ∷ codes "b" ∷ codes "b" ∷ []) ≡ 0
  pub second : index_of_first (codes "b") (codes "a" ∷ codes "b" ∷ codes "b" ∷ []) ≡ 1
  pub no_default : index_of_default None (codes "a" ∷ codes "b" ∷ []) ≡ 2
  pub default : index_of_default (Some (codes "b")) (codes "a" ∷ codes "b" ∷ []) ≡ 1
  pub other_default : index_of_default (Some (codes "c")) (codes "a" ∷ codes "b" ∷ []) ≡ 2
  pub default_of_tree : default_index_of second_tree ≡ 1
  pub no_default_of_tree : default_index_of configured_tree ≡ 2
  pub listed : index_of_listed second_tree
      (record { name = codes "b"; payload = Some (codes "b") })
      ≡ 1
  pub no_configuration : HasListReason NoConfig 4 0
  pub no_key : HasListReason NoKey 5 0
  pub bad_list : HasListReason BadList 6 0
  pub missing : HasListReason (Missing 3) 7 3
  pub no_reason : (reason index : ℕ) → ¬ (IsListReason reason index (ListedImages []))
  pub reservation : element_of_reservation (record { address = 4096; size = 16 })
      ≡ record { address = 4096; size = 16 }

-- ---- arrays and structs

-- The fields of a kernel image, with seven bytes after its data, and of a multi-file image.
abbrev pub kernel_fields : (image_type : ℕ) → LegacyFields
kernel_fields image_type = record {
  name = region_at_offset 32 1;
  time = 0;
  load = 32768;
  entry = 32768;
  os = 5;
  arch = 2;
  image_type = image_type;
  compression = 0;
}

-- What the calls on legacy images return: fields, and the regions of parts with the number of bytes
-- after them.
pub record LegacyElementsAreKnown : Type 0 where
  pub fields : AreLegacyFields 0x7fffffff 64 kernel_file_with_rest (kernel_fields 2)
  pub multi_fields : AreLegacyFields 0x7fffffff 64 multi_file (kernel_fields 4)
  pub part : ArePartRegions 0x7fffffff 64 kernel_file_with_rest (region_at_offset 64 9 ∷ []) 7
  pub parts : ArePartRegions 0x7fffffff 64 multi_file
      (region_at_offset 76 5 ∷ region_at_offset 84 3 ∷ []) 0

-- The hash node of the image of a tree. It is good.
abbrev pub shown_hash_element : HashElement
shown_hash_element = record {
  image = region_at_offset 112 1;
  node = region_at_offset 264 6;
  algorithm = region_at_offset 284 5;
  value = region_at_offset 304 4;
  verdict = 0;
}

-- What the calls on a tree return of a file with an image `a`, its hash node, and a configuration
-- `c`, which is the default and lists `a`.
pub record TreeElementsAreKnown : Type 0 where
  pub fields : AreFitFields 0x7fffffff 64 shown_file (record { boot_cpu = 0; total_size = 596 })
  pub reservations : AreReservationElements 0x7fffffff 64 shown_file [] 0
  pub images : AreImageElements 0x7fffffff 64 shown_file
      (record { name = region_at_offset 112 1; payload = region_at_offset 596 3; place = 2 } ∷ []) 0
  pub configurations : AreConfigurationRegions 0x7fffffff 64 shown_file
      (region_at_offset 360 1 ∷ []) 0
  pub kernels : AreImageIndices 0x7fffffff 64 0 shown_file (codes "c") (0 ∷ []) 0
  pub hashes : AreHashElements 0x7fffffff 64 shown_file
      (shown_hash_element ∷ []) 0
  pub children : AreChildRegions 0x7fffffff 64 shown_file (codes "/")
      (region_at_offset 100 6 ∷ region_at_offset 324 14 ∷ []) 0
  pub properties : ArePropertyElements 0x7fffffff 64 shown_file (codes "/configurations/c")
      (record { name = region_at_offset 563 6; value = region_at_offset 376 2 }
      ∷ record { name = region_at_offset 570 10; value = region_at_offset 392 4 } ∷ [])
      0
  pub value : IsValueAt 0x7fffffff 64 shown_file (codes "/images/a") (codes "entry") 4 256
