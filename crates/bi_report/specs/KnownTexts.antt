use Rattle.std.specs.Prelude.{◌≡◌, ℕ, List, [], ◌∷◌, ◌++◌, None, Some, codes, map}
use Rattle.std.specs.Prelude.{flat_map}
use Rattle.std.specs.Option.{option_map}
use Rattle.bi_base.specs.Cells.{cell}
use Rattle.bi_blob.specs.Blob.{Reservation}
use Rattle.bi_blob.specs.Layout.{text_of_tree, tree_with_places}
use Rattle.bi_blob.specs.Tree.{Nodes, none, node, Root, FileNode, Property}
use Rattle.bi_fit.specs.KnownFiles.{plain_tree, tree_with_images, region_of, three_external}
use Rattle.bi_fit.specs.KnownFiles.{three_tree}
use Rattle.bi_fit.specs.ImageTree.{ImageTree, image_nodes}
use Rattle.bi_fit.specs.Judgement.{CheckedHash, default_of}
use Rattle.bi_fit.specs.KnownJudgements.{configured_tree, hashed_tree}
use Rattle.bi_fit.specs.Names.{data_name, data_position_name, data_size_name}
use Rattle.bi_hash.specs.declared.verdicts.Verdict.{Verdict}
use Rattle.bi_hash.specs.declared.verdicts.Verdict.TheVariants.{Good, Bad, NoPayload, Malformed}
use Rattle.bi_legacy.specs.KnownImages.{kernel_image, multi_image}
use Rattle.bi_norm.specs.Meaning.{OfFit}
use Rattle.bi_common.specs.declared.format.Format.TheVariants.{Lines}
use Rattle.bi_common.specs.KnownWords.{lines}
use Rattle.bi_common.specs.Lines.{line_text, text_of_lines}
use Rattle.bi_report.specs.FitListing.{configuration_entry, configuration_lines, default_lines}
use Rattle.bi_report.specs.ListedFiles.{fit_listing_text, legacy_listing_text}
use Rattle.bi_report.specs.Reports.{counts_of, hash_line, legacy_report_lines, report_lines}
use Rattle.bi_report.specs.Reports.{summary_line}

-- Small boot images with what is listed and reported of them, by which a reader can judge the
-- definitions.

-- A hash node with this verdict.
abbrev pub hash_with : Verdict → CheckedHash
hash_with verdict = record {
  image = codes "a";
  node_name = codes "hash-1";
  algo = None;
  value = None;
  verdict = verdict;
}

-- Another number of each verdict: two, one, none, three and four.
abbrev pub counted_verdicts : List Verdict
counted_verdicts =
    Malformed ∷ Good ∷ NoPayload ∷ Malformed ∷ NoPayload ∷ Bad ∷ Malformed ∷ Good ∷ NoPayload
    ∷ Malformed ∷ []

-- The reports on a legacy image, on a tree without hash nodes, and on a tree with a hash node of
-- each verdict; the line of a hash node without an algorithm and a value; and the last line of a
-- report on hash nodes with another number of each.
pub record ReportsAreKnown : Type 0 where
  pub legacy : text_of_lines legacy_report_lines
      ≡ lines (codes "header crc32 good" ∷ codes "data crc32 good" ∷ [])
  pub no_hashes : text_of_lines (report_lines (OfFit (plain_tree [] [])))
      ≡ lines
      (codes "summary good 0 bad 0 unknown-algorithm 0 no-payload 0 malformed 0" ∷ [])
  pub hashes : text_of_lines (report_lines (OfFit hashed_tree))
      ≡ lines
      (codes "a hash-1 crc32 good 352441c2"
      ∷ codes "a hash crc32 bad 352441"
      ∷ codes "a hash@3 crc16-ccitt unknown-algorithm 0000"
      ∷ codes "a hash-4 crc32 malformed -"
      ∷ codes "b hash-1 crc32 no-payload 352441c2"
      ∷ codes "summary good 1 bad 1 unknown-algorithm 1 no-payload 1 malformed 1"
      ∷ [])
  pub no_algorithm : line_text (hash_line (hash_with Malformed))
      ≡ lines (codes "a hash-1 - malformed -" ∷ [])
  pub counts : line_text (summary_line (counts_of (map hash_with counted_verdicts)))
      ≡ lines
      (codes "summary good 2 bad 1 unknown-algorithm 0 no-payload 3 malformed 4" ∷ [])

-- The listings of a kernel image, and of a multi-file image whose file goes on after the last part.
pub record LegacyListingsAreKnown : Type 0 where
  pub kernel : legacy_listing_text Lines (record { image = kernel_image; unused = 0 })
      ≡ lines
      (codes "kind legacy"
      ∷ codes "name k"
      ∷ codes "time 0"
      ∷ codes "load 0x00008000"
      ∷ codes "entry 0x00008000"
      ∷ codes "os linux"
      ∷ codes "arch arm"
      ∷ codes "type kernel"
      ∷ codes "compression none"
      ∷ codes "parts 1"
      ∷ codes "part 0 size 9 at 64"
      ∷ codes "unused 0"
      ∷ [])
  pub multi : legacy_listing_text Lines
      (record {
        image = record multi_image { os = 200; load = 0xdeadbeef; time = 1000000000 };
        unused = 7;
      })
      ≡ lines
      (codes "kind legacy"
      ∷ codes "name k"
      ∷ codes "time 1000000000"
      ∷ codes "load 0xdeadbeef"
      ∷ codes "entry 0x00008000"
      ∷ codes "os 200"
      ∷ codes "arch arm"
      ∷ codes "type multi"
      ∷ codes "compression none"
      ∷ codes "parts 2"
      ∷ codes "part 0 size 5 at 76"
      ∷ codes "part 1 size 3 at 84"
      ∷ codes "unused 7"
      ∷ [])

-- The root of a file of 253 bytes with three images, the payloads of which follow the blob.
abbrev pub three_root : Root FileNode
three_root =
    tree_with_places []
    (tree_with_images
    (node (codes "a") (region_of 0 5) none
    (node (codes "b") (region_of 8 0) none
    (node (codes "c") (region_of 8 1) none none))))

-- The listing of this file, which is a flattened image tree.
abbrev pub FitListingIsKnown : Type 0
FitListingIsKnown =
    option_map (λ images. fit_listing_text Lines three_external images three_tree)
    (image_nodes three_root)
    ≡ Some (lines
    (codes "kind fit"
    ∷ codes "boot-cpu 0"
    ∷ codes "total-size 244"
    ∷ codes "image a size 5 data-offset at 244"
    ∷ codes "image b size 0 data-offset at 252"
    ∷ codes "image c size 1 data-offset at 252"
    ∷ []))

-- Image nodes whose payloads are given by `data`, by `data-position` and by `data-offset`, and one
-- without a payload.
abbrev pub each_source : Nodes (List Property)
each_source =
    node (codes "a") ((data_name, codes "abc") ∷ []) none
    (node (codes "b") ((data_position_name, cell 8) ∷ (data_size_name, cell 2) ∷ []) none
    (node (codes "c") (region_of 4 3) none
    (node (codes "d") [] none none)))

-- A memory reservation.
abbrev pub listed_reservation : List Reservation
listed_reservation = record { address = 0x1000; size = 0x20 } ∷ []

-- A file with these image nodes and this reservation, with the boot processor 3, and with seven
-- bytes after its blob of 276 bytes.
abbrev pub source_file : List ℕ
source_file =
    text_of_tree 4 3 listed_reservation (tree_with_images each_source) ++ codes "1234xyz"

abbrev pub source_root : Root FileNode
source_root = tree_with_places listed_reservation (tree_with_images each_source)

-- What it means.
abbrev pub source_tree : ImageTree
source_tree =
    record
    (plain_tree
    (codes "a" ∷ codes "b" ∷ codes "c" ∷ codes "d" ∷ [])
    (Some (codes "abc") ∷ Some (0 ∷ 0 ∷ []) ∷ Some (codes "xyz") ∷ None ∷ [])) {
      cpu = 3;
      reservations = listed_reservation;
    }

-- The listing of this file.
abbrev pub EachSourceIsListed : Type 0
EachSourceIsListed =
    option_map (λ images. fit_listing_text Lines source_file images source_tree)
    (image_nodes source_root)
    ≡ Some (lines
    (codes "kind fit"
    ∷ codes "boot-cpu 3"
    ∷ codes "total-size 276"
    ∷ codes "reservation 0x0000000000001000 0x0000000000000020"
    ∷ codes "image a size 3 data at 112"
    ∷ codes "image b size 2 data-position at 8"
    ∷ codes "image c size 3 data-offset at 280"
    ∷ codes "image d none"
    ∷ []))

-- The lines of the configurations of a tree and of its default.
abbrev pub ConfigurationLinesAreKnown : Type 0
ConfigurationLinesAreKnown =
    text_of_lines
    (flat_map configuration_lines
    (map (configuration_entry configured_tree) (codes "conf-1" ∷ codes "conf-2" ∷ []))
    ++ default_lines (default_of configured_tree))
    ≡ lines
    (codes "config conf-1"
    ∷ codes "key conf-1 kernel ok a"
    ∷ codes "key conf-1 fdt missing 1"
    ∷ codes "key conf-1 ramdisk bad-list"
    ∷ codes "key conf-1 firmware missing 0"
    ∷ codes "key conf-1 loadables missing 1"
    ∷ codes "config conf-2"
    ∷ codes "key conf-2 kernel bad-list"
    ∷ codes "default conf-3"
    ∷ [])
