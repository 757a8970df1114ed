use Rattle.std.proofs.Common.{◌≡◌, ℕ, zero, suc, ◌+◌, ◌*◌, ◌<◌, ◌≤◌, List, length, map, Some, None, slice_get, refl, sym, ap, subst, ◌∙◌}
use Rattle.std.proofs.Common.{arith, rules}
use Rattle.std.proofs.lemmas.Bool.{cases_Bool}
use Rattle.bi_base.specs.declared.fault.Error.{Error}
use Rattle.bi_base.specs.declared.fault.Error.TheVariants as error
use Rattle.bi_base.specs.declared.fault.Fault.{Fault}
use Rattle.bi_base.specs.Cells.{AreBytes, u64_at}
use Rattle.bi_base.specs.Limits.{Limits}
use Rattle.bi_base.specs.Errors.{IsFaultOrNoMemory}
use Rattle.bi_blob.specs.Tree.{Root, FileNode}
use Rattle.bi_blob.specs.Blob.{Reservation, boot_cpuid_phys, header_length, totalsize, off_mem_rsvmap, strings_end}
use Rattle.bi_blob.specs.Blob.{tree_blocks}
use Rattle.bi_blob.specs.Blob.{Header, IsBlob, IsBlobWithin, reservations_at}
use Rattle.bi_blob.specs.BlobFaults.{HasNoHeaderFault, HasReservations, IsStructureFault, IsBlobFault, InStructure}
use Rattle.bi_blob.proofs.Blobs.Headers.{HasNoHeaderFault-Header}
use Rattle.bi_blob.proofs.Blobs.ReservationFaults.{HasReservations-BeginsWithReservations}
use Rattle.bi_blob.proofs.Blobs.Faults.{blob_has_no_fault, one_blob_fault, blob_of_parts}
use Rattle.bi_fdt.specs.declared.table.Entry.{Entry}
use Rattle.bi_fdt.specs.Table.{item_in}
use Rattle.bi_fdt.specs.Reading.{IsTable, HasTable}
use Rattle.bi_fdt.specs.Content.{root_in}
use Rattle.bi_fdt.specs.Fields.{IsBlobHeld}
use Rattle.bi_fdt.specs.ReadBlobs.{IsOnlyBlobFault, IsReadBlob, IsBlobReadError}
use Rattle.bi_blob.proofs.Blobs.OneBlob.{one_blob}
use Rattle.bi_blob.proofs.Blobs.Faults.{blob_has_no_fault}
use Rattle.bi_fdt.proofs.TableTrees.{root_in-table}

-- A blob that was read from a file without faults has the reservations and the tree of the file, and the fault of a file is its only one.

-- The fault of a file is its only one.
pub only_fault : (limits : Limits) (file : List ℕ) (fault : Fault) → IsBlobFault limits file fault → IsOnlyBlobFault limits file fault
only_fault limits file fault is = search (rules, one_blob_fault, blob_has_no_fault)

-- What follows from an error in the structure block for the file.
pub refused_in_tree : (limits : Limits) (file : List ℕ) (count : ℕ) (error : Error) → HasNoHeaderFault limits file →
    HasReservations file (off_mem_rsvmap file) (totalsize file) count →
    IsFaultOrNoMemory (IsStructureFault (tree_blocks file) limits.depth) error →
    IsBlobReadError limits file error
refused_in_tree limits file count (error.Refused fault) fine has refusal = only_fault limits file fault (InStructure fine count has refusal)
refused_in_tree limits file count error.OutOfMemory fine has refusal = record { header = fine; count = count; reservations = has }
refused_in_tree limits file count error.ReadFailed fine has refusal = refusal
refused_in_tree limits file count error.WriteFailed fine has refusal = refusal

-- A header has at least 36 bytes.
pub header_length-least : (file : List ℕ) → 36 ≤ header_length file
header_length-least file = search (rules, cases_Bool)

-- The root of a table is that of the tree that the table is of.
pub table_root : (file : List ℕ) (entries : List Entry) (root : Root FileNode) → IsTable file entries root →
    root_in (map (item_in file) entries) ≡ root
table_root file entries root table = ap root_in table.items ∙ root_in-table root

-- The strings block is within the file.
pub strings_within : (file : List ℕ) → Header file → strings_end file ≤ length file
strings_within file header = search rules

pub is_held : (limits : Limits) (file : List ℕ) (count : ℕ) (entries : List Entry) (used : List (List ℕ)) → HasNoHeaderFault limits file →
    HasReservations file (off_mem_rsvmap file) (totalsize file) count → HasTable (tree_blocks file) limits.depth entries used →
    IsBlobHeld file count entries
is_held limits file count entries used fine has table =
    search (rules, HasNoHeaderFault-Header, header_length-least, strings_within, table_root)

pub is_blob : (limits : Limits) (file : List ℕ) (count : ℕ) (entries : List Entry) (used : List (List ℕ)) → AreBytes file →
    HasNoHeaderFault limits file →
    HasReservations file (off_mem_rsvmap file) (totalsize file) count → HasTable (tree_blocks file) limits.depth entries used →
    IsBlob file (boot_cpuid_phys file) (reservations_at file (off_mem_rsvmap file) count) (root_in (map (item_in file) entries))
is_blob limits file count entries used bytes fine has table =
    let header : Header file = HasNoHeaderFault-Header limits file fine in
    subst (IsBlob file (boot_cpuid_phys file) (reservations_at file (off_mem_rsvmap file) count))
    (sym (table_root file entries table.root table.is_table)) (record {
      bytes = bytes;
      header = header;
      is_cpu = refl;
      reserved = HasReservations-BeginsWithReservations file (off_mem_rsvmap file) (totalsize file) count bytes header.file_holds_total has;
      holds = table.holds;
    })

pub is_blob_within : (limits : Limits) (file : List ℕ) (count : ℕ) (entries : List Entry) (used : List (List ℕ)) → AreBytes file →
    HasNoHeaderFault limits file →
    HasReservations file (off_mem_rsvmap file) (totalsize file) count → HasTable (tree_blocks file) limits.depth entries used →
    IsBlobWithin limits file
is_blob_within limits file count entries used bytes fine has table = search (rules, blob_of_parts)

-- The blob of these was read from the file.
pub is_read_blob : (limits : Limits) (file : List ℕ) (count : ℕ) (entries : List Entry) (used : List (List ℕ)) → AreBytes file →
    HasNoHeaderFault limits file →
    HasReservations file (off_mem_rsvmap file) (totalsize file) count → HasTable (tree_blocks file) limits.depth entries used →
    IsReadBlob limits file (record {
      file = file;
      cpu = boot_cpuid_phys file;
      total_size = totalsize file;
      reservations = reservations_at file (off_mem_rsvmap file) count;
      table = map (item_in file) entries;
    })
is_read_blob limits file count entries used bytes fine has table = search (rules, is_blob, is_blob_within, one_blob, blob_has_no_fault)

-- The numbers of a reservation.
abbrev pub numbers : Reservation → ℕ × ℕ
numbers reservation = (reservation.address, reservation.size)

pub reservation_at : (file : List ℕ) (at count index : ℕ) → index < count →
    slice_get (map numbers (reservations_at file at count)) index ≡ Some (u64_at file (at + 16 * index), u64_at file (at + 16 * index + 8))
reservation_at file at zero index within = absurd (omega arith)
reservation_at file at (suc count) zero within = ap (λ n. Some (u64_at file n, u64_at file (n + 8))) (omega arith)
reservation_at file at (suc count) (suc index) within = search (rules, reservation_at file (at + 16) count index (omega arith))

pub no_reservation_at : (file : List ℕ) (at count index : ℕ) → count ≤ index →
    slice_get (map numbers (reservations_at file at count)) index ≡ None
no_reservation_at file at zero index past = refl
no_reservation_at file at (suc count) zero past = absurd (omega arith)
no_reservation_at file at (suc count) (suc index) past = no_reservation_at file (at + 16) count index (omega arith)
