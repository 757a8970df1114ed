use Rattle.std.specs.Prelude.{ℕ, List, [], ◌∷◌, ◌++◌, replicate, codes}
use Rattle.bi_base.specs.Cells.{cell}
use Rattle.bi_legacy.specs.File.{header, IsLegacyFile}
use Rattle.bi_legacy.specs.KnownImages.{kernel_image, multi_image}
use Rattle.bi_legacy.specs.KnownFaults.{file_of_data}

-- Small files with what they mean, by which a reader can judge the definitions: bytes without a
-- meaning may be any bytes (profile of this project).

-- The kernel file with other bytes after the zero of the name, and with bytes after the data. The
-- checksum of this header is right.
abbrev pub kernel_file_with_rest : List ℕ
kernel_file_with_rest =
    header kernel_image (codes "k" ++ (0 ∷ replicate 30 0xff)) (codes "123456789")
    ++ (codes "123456789" ++ replicate 7 0xff)

-- The data of the multi-file image with other bytes of padding between the parts, and with bytes
-- after the last part.
abbrev pub multi_data_with_rest : List ℕ
multi_data_with_rest =
    cell 5 ++ (cell 3 ++ (cell 0
    ++ (codes "hello" ++ (0xff ∷ 0xff ∷ 0xff ∷ (codes "abc" ++ replicate 2 0xff)))))

-- Bytes after the zero of a name, after the data, between the parts and after the last part have
-- no meaning. An image of a type with a part table may have no parts.
pub record FreeBytesHaveNoMeaning : Type 0 where
  pub kernel : IsLegacyFile kernel_file_with_rest kernel_image
  pub multi : IsLegacyFile (file_of_data 4 multi_data_with_rest) multi_image
  pub no_parts : IsLegacyFile (file_of_data 4 (cell 0)) (record multi_image { parts = [] })
