use Rattle.std.proofs.Common.{◌≡◌, ℕ, Bool, true, List, Some, rules}
use Rattle.std.specs.Prelude.{◌==◌, ◌&&◌, nat_le, length, ◌%◌}
use Rattle.std.specs.Bool.{Decides}
use Rattle.std.specs.List.{list_all}
use Rattle.bi_base.specs.Limits.{Limits}
use Rattle.bi_blob.specs.Blob.{magic, totalsize, off_dt_struct, off_dt_strings, off_mem_rsvmap, version, last_comp_version, blob_magic}
use Rattle.bi_blob.specs.Blob.{least_version, reader_version, header_length, structure_end, strings_end}
use Rattle.bi_blob.specs.BlobFaults.{HeaderCheck, IsWithinLimit, HasMagicCell, HasMagic, HasHeader, HasVersion, HasCompatibleVersion}
use Rattle.bi_blob.specs.BlobFaults.{TotalHoldsHeader, FileHoldsTotal, PlacesReservations, PlacesStructure, PlacesStrings, header_checks}
use Rattle.bi_blob.specs.BlobFaults.{header_fault, HeaderPasses, HasNoHeaderFault, IsBlobFault, InHeader}
use Rattle.bi_blob.proofs.CheckDecisions.{le_decides, eq_decides, both_decide, first_failing, pass_by_test, fault_by_test}

-- Tests decide the checks of a header, and the first check that is tested to fail gives the fault of the file.

-- Whether a check of a header passes.
unfoldable pub test : Limits → List ℕ → HeaderCheck → Bool
test bounds file IsWithinLimit = nat_le (length file) bounds.file
test bounds file HasMagicCell = nat_le 4 (length file)
test bounds file HasMagic = magic file == blob_magic
test bounds file HasHeader = nat_le (header_length file) (length file)
test bounds file HasVersion = nat_le least_version (version file)
test bounds file HasCompatibleVersion = nat_le (last_comp_version file) reader_version
test bounds file TotalHoldsHeader = nat_le (header_length file) (totalsize file)
test bounds file FileHoldsTotal = nat_le (totalsize file) (length file)
test bounds file PlacesReservations =
    nat_le (header_length file) (off_mem_rsvmap file)
    && (off_mem_rsvmap file % 8 == 0 && nat_le (off_mem_rsvmap file) (totalsize file))
test bounds file PlacesStructure =
    (nat_le (header_length file) (off_dt_struct file) && off_dt_struct file % 4 == 0)
    && (nat_le (off_dt_struct file) (structure_end file) && nat_le (structure_end file) (totalsize file))
test bounds file PlacesStrings =
    nat_le (header_length file) (off_dt_strings file) && nat_le (strings_end file) (totalsize file)

pub header_decides : (bounds : Limits) (file : List ℕ) (check : HeaderCheck) →
    Decides (test bounds file check) (HeaderPasses bounds file check)
unfolding test
header_decides bounds file IsWithinLimit = le_decides (length file) bounds.file
header_decides bounds file HasMagicCell = le_decides 4 (length file)
header_decides bounds file HasMagic = eq_decides (magic file) blob_magic
header_decides bounds file HasHeader = le_decides (header_length file) (length file)
header_decides bounds file HasVersion = le_decides least_version (version file)
header_decides bounds file HasCompatibleVersion = le_decides (last_comp_version file) reader_version
header_decides bounds file TotalHoldsHeader = le_decides (header_length file) (totalsize file)
header_decides bounds file FileHoldsTotal = le_decides (totalsize file) (length file)
header_decides bounds file PlacesReservations = search (rules, both_decide, eq_decides, le_decides)
header_decides bounds file PlacesStructure = search (rules, both_decide, le_decides, eq_decides)
header_decides bounds file PlacesStrings = search (rules, both_decide, le_decides)

-- A header whose checks are tested to pass has no fault.
pub fine_by_test : (bounds : Limits) (file : List ℕ) → list_all (test bounds file) header_checks ≡ true → HasNoHeaderFault bounds file
fine_by_test bounds file e =
    pass_by_test (HeaderPasses bounds file) (header_fault bounds) (test bounds file) (header_decides bounds file) header_checks e

-- The first check of a header that is tested to fail gives the fault of the file.
pub in_header : (bounds : Limits) (file : List ℕ) (check : HeaderCheck) → first_failing (test bounds file) header_checks ≡ Some check →
    IsBlobFault bounds file (header_fault bounds check)
in_header bounds file check failing =
    InHeader (fault_by_test (HeaderPasses bounds file) (header_fault bounds) (test bounds file)
    (header_decides bounds file) header_checks check failing)
