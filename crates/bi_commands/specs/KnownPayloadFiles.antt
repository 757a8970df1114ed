use Rattle.std.specs.Prelude.{◌≡◌, [], ◌∷◌, Some, None, codes}
use Rattle.bi_fit.specs.KnownFiles.{plain_tree, three_tree}
use Rattle.bi_legacy.specs.KnownFaults.{limited_to}
use Rattle.bi_legacy.specs.KnownImages.{kernel_image, multi_image}
use Rattle.bi_norm.specs.Meaning.{OfLegacy, OfFit}
use Rattle.bi_common.specs.PayloadBounds.{IsOverPayloadBound}
use Rattle.bi_commands.specs.ExtractingAll.{part_file_name, image_file_name, IsSafeFileName}
use Rattle.bi_commands.specs.ExtractingAll.{payload_files}

-- The files of the payloads of small boot images, by which a reader can judge the definitions.

-- Names of files. `%2E` is only a first dot: another dot stays, and a name with this text in it has
-- its `%` printed as `%25`.
pub record FileNamesAreKnown : Type 0 where
  pub first_part : part_file_name 0 ≡ codes "part-0"
  pub later_part : part_file_name 10 ≡ codes "part-10"
  pub plain : image_file_name (codes "kernel-1") ≡ codes "kernel-1"
  pub space : image_file_name (codes "x y") ≡ codes "x%20y"
  pub minus : image_file_name (codes "-") ≡ codes "%2D"
  pub dot : image_file_name (codes ".") ≡ codes "%2E"
  pub two_dots : image_file_name (codes "..") ≡ codes "%2E."
  pub hidden : image_file_name (codes ".a") ≡ codes "%2Ea"
  pub later_dot : image_file_name (codes "a.b") ≡ codes "a.b"
  pub percent : image_file_name (codes "%2Ea") ≡ codes "%252Ea"
  pub part_name : image_file_name (codes "part-0") ≡ codes "part-0"

-- Names that are safe, and names that are not.
pub record SafeNamesAreKnown : Type 0 where
  pub plain : IsSafeFileName (codes "a.b")
  pub escaped : IsSafeFileName (codes "%2E.")
  pub empty : ¬ (IsSafeFileName [])
  pub parent : ¬ (IsSafeFileName (codes ".."))
  pub hidden : ¬ (IsSafeFileName (codes ".a"))
  pub slash : ¬ (IsSafeFileName (codes "a/b"))
  pub space : ¬ (IsSafeFileName (codes "a b"))

-- The files of a kernel, and of a multi-file image with two parts.
pub record PartFilesAreKnown : Type 0 where
  pub kernel : payload_files (OfLegacy kernel_image)
      ≡ record { name = codes "part-0"; bytes = codes "123456789" } ∷ []
  pub multi : payload_files (OfLegacy multi_image)
      ≡ record { name = codes "part-0"; bytes = codes "hello" }
      ∷ record { name = codes "part-1"; bytes = codes "abc" }
      ∷ []

-- The files of three images with the payload `hello`, an empty one, and `x`; of an image without
-- a payload, which has no file; and of images that only a printed name tells apart from a directory
-- or a hidden file. Together the payloads of the three images have 6 bytes.
pub record ImageFilesAreKnown : Type 0 where
  pub three : payload_files (OfFit three_tree)
      ≡ record { name = codes "a"; bytes = codes "hello" }
      ∷ record { name = codes "b"; bytes = [] }
      ∷ record { name = codes "c"; bytes = codes "x" }
      ∷ []
  pub bare : payload_files (OfFit (plain_tree (codes "a" ∷ []) (None ∷ []))) ≡ []
  pub no_images : payload_files (OfFit (plain_tree [] [])) ≡ []
  pub one_of_two :
      payload_files
      (OfFit (plain_tree (codes "a" ∷ codes "b" ∷ []) (None ∷ Some (codes "x") ∷ [])))
      ≡ record { name = codes "b"; bytes = codes "x" } ∷ []
  pub dots :
      payload_files
      (OfFit (plain_tree (codes ".." ∷ codes ".a" ∷ []) (Some [] ∷ Some [] ∷ [])))
      ≡ record { name = codes "%2E."; bytes = [] }
      ∷ record { name = codes "%2Ea"; bytes = [] }
      ∷ []
  pub within : ¬ (IsOverPayloadBound (limited_to 6) (OfFit three_tree))
  pub over : IsOverPayloadBound (limited_to 5) (OfFit three_tree)
