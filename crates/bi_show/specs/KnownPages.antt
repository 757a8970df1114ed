use Rattle.std.specs.Prelude.{◌≡◌, ℕ, List, [], ◌∷◌, ◌++◌, true, false, Some, None, codes}
use Rattle.bi_base.specs.Cells.{cell}
use Rattle.bi_base.specs.Limits.{widest}
use Rattle.bi_legacy.specs.Codes.{compression_names}
use Rattle.bi_legacy.specs.KnownFiles.{kernel_file_with_rest}
use Rattle.bi_legacy.specs.KnownImages.{multi_file}
use Rattle.bi_common.specs.KnownWords.{lines}
use Rattle.bi_common.specs.CommonLines.{code_word}
use Rattle.bi_show.specs.AllCodes.{all_arch_names, all_os_names, all_type_names}
use Rattle.bi_show.specs.Dates.{IsTimeText}
use Rattle.bi_blob.specs.Tree.{FileProperty, none}
use Rattle.bi_common.specs.HashedImages.{FoundHash}
use Rattle.bi_coverage.specs.Coverage.{NoImages}
use Rattle.bi_hash.specs.declared.verdicts.Verdict.TheVariants.{Good}
use Rattle.bi_report.specs.KnownTexts.{hash_with}
use Rattle.bi_show.specs.FitPages.{concerns_cell}
use Rattle.bi_show.specs.PageCells.{address_cell, hash_word, names_cell, number_cell, size_cell}
use Rattle.bi_show.specs.PageCells.{text_cell, value_cell}
use Rattle.bi_show.specs.Pages.{concerns_text_of_page, table_text}
use Rattle.bi_show.specs.ShownFiles.{IsPage}

-- What pages have: times, tables, cells, and the pages of small legacy images. A reader can judge
-- the definitions by them. The times are those that `date -u` prints.

-- Times: the first one; the last second of a year; the last second before a 29 February and the
-- first one of it, in 2000; the second after the end of February 2100, which has no such day; and
-- the last time that 32 bits hold.
pub record TimesAreKnown : Type 0 where
  pub first : IsTimeText 0 (codes "1970-01-01 00:00:00 UTC")
  pub last_of_year : IsTimeText 31535999 (codes "1970-12-31 23:59:59 UTC")
  pub before_leap_day : IsTimeText 951782399 (codes "2000-02-28 23:59:59 UTC")
  pub leap_day : IsTimeText 951782400 (codes "2000-02-29 00:00:00 UTC")
  pub after_february : IsTimeText 4107542400 (codes "2100-03-01 00:00:00 UTC")
  pub last : IsTimeText 4294967295 (codes "2106-02-07 06:28:15 UTC")

-- Tables: two spaces are after the widest cell of a column, and none after the last cell of a row.
-- A row may have fewer cells than another. A table of one row is left out. An empty line is after a
-- table. The concerns have a heading, if there are any.
pub record TablesAreKnown : Type 0 where
  pub two_rows :
      table_text
      ((codes "part" ∷ codes "size" ∷ codes "at" ∷ [])
      ∷ (codes "0" ∷ codes "1048576" ∷ codes "64" ∷ []) ∷ [])
      ≡ lines
      (codes "part  size     at"
      ∷ codes "0     1048576  64"
      ∷ []
      ∷ [])
  pub short_row :
      table_text
      ((codes "a" ∷ []) ∷ (codes "bcd" ∷ codes "e" ∷ []) ∷ (codes "f" ∷ codes "g" ∷ []) ∷ [])
      ≡ lines (codes "a" ∷ codes "bcd  e" ∷ codes "f    g" ∷ [] ∷ [])
  pub one_row : table_text ((codes "part" ∷ codes "size" ∷ []) ∷ []) ≡ []
  pub no_rows : table_text [] ≡ []
  pub no_concerns : concerns_text_of_page [] ≡ lines (codes "no concerns" ∷ [])
  pub concerns : concerns_text_of_page (lines (codes "trailing 7" ∷ []))
      ≡ lines (codes "concerns" ∷ codes "trailing 7" ∷ [])

-- A hash node with these properties, whose verdict is Good.
abbrev pub shown_hash_node : List FileProperty → FoundHash
shown_hash_node properties = record {
  node = record {
    name = codes "hash-1";
    own = record { place = 0; properties = properties };
    children = none;
    later = none;
  };
  checked = record (hash_with Good) { algo = Some (codes "crc32") };
}

-- A property of it that tells U-Boot to skip it, or does not.
abbrev pub ignore_property : (value : List ℕ) → FileProperty
ignore_property value = record { name = codes "uboot-ignore"; value = value; place = 0 }

-- Cells: codes with a name, of which a listing has only the first, and codes without one; numbers;
-- texts that are words and texts that are not; and values of properties.
pub record CellsAreKnown : Type 0 where
  pub os : code_word all_os_names 5 ≡ codes "linux"
  pub other_os : code_word all_os_names 28 ≡ codes "efi"
  pub no_os : code_word all_os_names 200 ≡ codes "200"
  pub arch : code_word all_arch_names 22 ≡ codes "arm64"
  pub other_arch : code_word all_arch_names 1 ≡ codes "alpha"
  pub no_arch : code_word all_arch_names 255 ≡ codes "255"
  pub image_type : code_word all_type_names 2 ≡ codes "kernel"
  pub compression : code_word compression_names 1 ≡ codes "gzip"
  pub number : number_cell (Some 10) ≡ codes "10"
  pub no_number : number_cell None ≡ codes "-"
  pub size : size_cell 2628 ≡ codes "2628 bytes"
  pub word : text_cell (codes "kernel-1") ≡ codes "kernel-1"
  pub text : text_cell (codes "Linux example") ≡ codes "\"Linux example\""
  pub digit_first : text_cell (codes "6.1") ≡ codes "\"6.1\""
  pub minus : text_cell (codes "-") ≡ codes "\"-\""
  pub no_text : text_cell [] ≡ codes "-"
  pub other_text : text_cell (0xff ∷ []) ≡ codes "%FF"
  pub word_value : value_cell (codes "arm64" ++ 0 ∷ []) ≡ codes "arm64"
  pub text_value : value_cell (codes "a b" ++ 0 ∷ []) ≡ codes "\"a b\""
  pub empty_value : value_cell [] ≡ codes "\"\""
  pub other_value : value_cell (cell 7) ≡ codes "0x00000007"
  pub address : address_cell (cell 0x80080000) ≡ codes "0x80080000"
  pub long_address : address_cell (cell 1 ++ cell 0x80000000) ≡ codes "0x0000000180000000"
  pub no_address : address_cell (codes "x" ++ 0 ∷ []) ≡ codes "x"
  pub hash : hash_word (shown_hash_node []) ≡ codes "crc32:good"
  pub used_hash : hash_word (shown_hash_node (ignore_property (cell 0) ∷ []))
      ≡ codes "crc32:good"
  pub skipped_hash : hash_word (shown_hash_node (ignore_property (cell 1) ∷ []))
      ≡ codes "crc32:good:skipped"
  pub whole : concerns_cell [] ≡ codes "whole configuration"
  pub not_whole : concerns_cell (NoImages ∷ []) ≡ codes "not the whole configuration"
  pub names : names_cell (codes "fdt-1" ++ 0 ∷ codes "a b" ++ 0 ∷ []) ≡ codes "fdt-1 a%20b"

-- The page of a kernel image with seven bytes after its data, with its layout.
abbrev pub kernel_page : List ℕ
kernel_page =
    lines
    (codes "kind          legacy image"
    ∷ codes "name          k"
    ∷ codes "date          1970-01-01 00:00:00 UTC"
    ∷ codes "size          80 bytes"
    ∷ codes "type          kernel"
    ∷ codes "os            linux"
    ∷ codes "arch          arm"
    ∷ codes "compression   none"
    ∷ codes "load          0x00008000"
    ∷ codes "entry         0x00008000"
    ∷ codes "header crc32  good"
    ∷ codes "data crc32    good"
    ∷ []
    ∷ codes "part  size  offset"
    ∷ codes "0     9     64"
    ∷ []
    ∷ codes "region          offset  size"
    ∷ codes "header          0       64"
    ∷ codes "part 0          64      9"
    ∷ codes "trailing bytes  73      7"
    ∷ []
    ∷ codes "concerns"
    ∷ codes "trailing 7"
    ∷ [])

-- The page of a multi-file image, with its layout, or without it.
abbrev pub multi_page : (regions : List (List ℕ)) → List ℕ
multi_page regions =
    lines
    (codes "kind          legacy image"
    ∷ codes "name          k"
    ∷ codes "date          1970-01-01 00:00:00 UTC"
    ∷ codes "size          87 bytes"
    ∷ codes "type          multi"
    ∷ codes "os            linux"
    ∷ codes "arch          arm"
    ∷ codes "compression   none"
    ∷ codes "load          0x00008000"
    ∷ codes "entry         0x00008000"
    ∷ codes "header crc32  good"
    ∷ codes "data crc32    good"
    ∷ []
    ∷ codes "part  size  offset"
    ∷ codes "0     5     76"
    ∷ codes "1     3     84"
    ∷ []
    ∷ regions ++ codes "no concerns" ∷ [])

-- The regions of this image: the bytes between the parts are free.
abbrev pub multi_regions : List (List ℕ)
multi_regions =
    codes "region      offset  size"
    ∷ codes "header      0       64"
    ∷ codes "part table  64      12"
    ∷ codes "part 0      76      5"
    ∷ codes "free space  81      3"
    ∷ codes "part 1      84      3"
    ∷ []
    ∷ []

-- The pages of these images.
pub record PagesAreKnown : Type 0 where
  pub kernel : IsPage true widest kernel_file_with_rest kernel_page
  pub multi : IsPage true widest multi_file (multi_page multi_regions)
  pub no_layout : IsPage false widest multi_file (multi_page [])
