use Rattle.std.proofs.Common.{◌≡◌, ℕ, ◌+◌, ◌-◌, ◌≤◌, List, [], ◌∷◌, ◌++◌, Option, Some, None, length, take, drop, rules}
use Rattle.std.proofs.Common.{◌%◌, if◌then◌else◌, refl, sym, ap, ap₂, subst, ◌∙◌, append-nil, append_assoc, arith}
use Rattle.std.specs.Prelude.{◌==◌, IfSome}
use Rattle.std.specs.Int.{from_be_bytes, w32}
use Rattle.std.specs.List.{AllZip}
use Rattle.std.proofs.lemmas.List.{drop-take, length-append, length-drop, length-take, length-take-le, take-take, take_at}
use Rattle.bi_base.specs.Cells.{slice, u32_at, up4}
use Rattle.bi_base.specs.Limits.{Limits}
use Rattle.bi_base.proofs.ByteLists.{AreBytes-take}
use Rattle.bi_base.proofs.CellLaws.{length-slice}
use Rattle.bi_blob.specs.Blob.{BeginsWithReservations, Header, IsBlob, Reservation, header_length}
use Rattle.bi_blob.specs.Blob.{off_dt_strings, off_dt_struct, off_mem_rsvmap, size_dt_strings, structure_end, strings_end}
use Rattle.bi_blob.specs.Blob.{totalsize}
use Rattle.bi_blob.specs.Events.{EncodeEvents, file_events_of}
use Rattle.bi_blob.specs.Tree.{FileNode, FileProperty, Root}
use Rattle.bi_fit.specs.File.{FitMeans, IsFitFile}
use Rattle.bi_fit.specs.ImageTree.{ImageTree, each_own}
use Rattle.bi_fit.specs.Payloads.{Data, DataOffset, DataPosition, HasPayload, IsPayload, NoSource, PayloadSource, cell_number}
use Rattle.bi_fit.specs.Payloads.{IsAtPlace, IsRegion, external_base, payload_place, source_of}
use Rattle.bi_fit.proofs.FilePayloads.{payloads_are_at_places}
use Rattle.bi_fit.proofs.Meanings.{same_in_some}
use Rattle.bi_legacy.specs.File.{IsLegacyFile, LegacyMeans, header}
use Rattle.bi_legacy.specs.Meaning.{LegacyImage}
use Rattle.bi_legacy.proofs.HeaderReads.{length-header, size_read}
use Rattle.bi_norm.specs.Meaning.{Meaning, OfLegacy, OfFit, Means}
use Rattle.bi_report.specs.Checking.{content_end}
use Rattle.bi_report.specs.CleanFiles.{EndsBy, IsAfterContent}
use Rattle.bi_report.specs.ScanLaws.{ScannedImagesAreWhole}
use Rattle.bi_report.specs.Scanning.{HasExtent}
use Rattle.bi_report.proofs.CleanLaws.ContentEnds.{AreAtPlaces, after_content, not_before_end}
use Rattle.bi_report.proofs.ScanLaws.{inside}

-- An image that is cut out of a file with its extent means what it means in the file.

-- A slice of a file before an end is one of the file that is cut there.
slice_of_cut : (file : List ℕ) (end at n : ℕ) → at + n ≤ end → slice (take end file) at n ≡ slice file at n
slice_of_cut file end at n within =
    ap (λ (m : ℕ). take n (drop at (take m file))) (let same : end ≡ at + (end - at) = omega (arith, within) in same)
    ∙ ap (take n) (drop-take at (end - at) file)
    ∙ take-take n (end - at) (drop at file) (omega (arith, within))

-- So is a number.
u32_of_cut : (file : List ℕ) (end at : ℕ) → at + 4 ≤ end → u32_at (take end file) at ≡ u32_at file at
unfolding u32_at
u32_of_cut file end at within = ap (from_be_bytes w32) (slice_of_cut file end at 4 within)

-- ---- a legacy image

-- A legacy image that is cut after its data.
cut_legacy : (limits : Limits) (file : List ℕ) (image : LegacyImage) → LegacyMeans limits file image →
    (64 + u32_at file 12 ≤ length file) × LegacyMeans limits (take (64 + u32_at file 12) file) image
cut_legacy limits file image means = (
  omega (arith, ap length is.file_is, length-append head (is.body ++ is.rest), length-append is.body is.rest, head_length, size),
  record {
    is_file = record {
      field = is.field;
      body = is.body;
      rest = [];
      file_is = cut_is ∙ ap (λ bytes. head ++ bytes) (sym (append-nil is.body));
      ranges = is.ranges;
      name = is.name;
      size = is.size;
      parts = is.parts;
      bytes = AreBytes-take (64 + u32_at file 12) file is.bytes;
    };
    short = omega (arith, length-take (64 + u32_at file 12) file, means.short);
  },
)
  where
    is : IsLegacyFile file image
    is = means.is_file

    head : List ℕ
    head = header image is.field is.body

    head_length : length head ≡ 64
    head_length = length-header image is.field is.body is.name.whole

    size : u32_at file 12 ≡ length is.body
    size = size_read file image is

    cut_is : take (64 + u32_at file 12) file ≡ head ++ is.body
    cut_is =
        ap (take (64 + u32_at file 12)) (is.file_is ∙ sym (append_assoc head is.body is.rest))
        ∙ take_at (head ++ is.body) is.rest (64 + u32_at file 12) (omega (arith, length-append head is.body, head_length, size))

-- ---- a blob

-- A blob that is cut at or after its end.
module _ (file : List ℕ) (end : ℕ) (head : Header file) (after : totalsize file ≤ end) (within : end ≤ length file) where
  cut_length : length (take end file) ≡ end
  cut_length = length-take-le end file within

  cut_after_header : 36 ≤ end
  cut_after_header = search rules

  -- The cells of its header are the same,
  cell_of_cut : (at : ℕ) → at + 4 ≤ 36 → u32_at (take end file) at ≡ u32_at file at
  cell_of_cut at low = u32_of_cut file end at (omega (arith, low, cut_after_header))

  header_of_cut : header_length (take end file) ≡ header_length file
  header_of_cut = ap (λ n. if n == 16 then 36 else 40) (cell_of_cut 20 (omega arith))

  total_of_cut : totalsize (take end file) ≡ totalsize file
  total_of_cut = cell_of_cut 4 (omega arith)

  structure_of_cut : structure_end (take end file) ≡ structure_end file
  structure_of_cut = search (rules, cell_of_cut, total_of_cut, u32_of_cut)

  strings_of_cut : strings_end (take end file) ≡ strings_end file
  strings_of_cut = ap₂ (λ (a b : ℕ). a + b) (cell_of_cut 12 (omega arith)) (cell_of_cut 32 (omega arith))

  -- so it has a header.
  header_is_cut : Header (take end file)
  header_is_cut = record {
    whole = omega (arith, header_of_cut, cut_length, head.total_holds_header, after);
    is_magic = cell_of_cut 0 (omega arith) ∙ head.is_magic;
    is_read = omega (arith, cell_of_cut 20 (omega arith), head.is_read);
    is_understood = omega (arith, cell_of_cut 24 (omega arith), head.is_understood);
    total_holds_header = omega (arith, header_of_cut, total_of_cut, head.total_holds_header);
    file_holds_total = omega (arith, total_of_cut, cut_length, after);
    reservations_after_header = omega (arith, header_of_cut, cell_of_cut 16 (omega arith), head.reservations_after_header);
    reservations_aligned = ap (λ n. n % 8) (cell_of_cut 16 (omega arith)) ∙ head.reservations_aligned;
    reservations_within = omega (arith, cell_of_cut 16 (omega arith), total_of_cut, head.reservations_within);
    structure_after_header = omega (arith, header_of_cut, cell_of_cut 8 (omega arith), head.structure_after_header);
    structure_aligned = ap (λ n. n % 4) (cell_of_cut 8 (omega arith)) ∙ head.structure_aligned;
    structure_ordered = omega (arith, structure_of_cut, cell_of_cut 8 (omega arith), head.structure_ordered);
    structure_within = omega (arith, structure_of_cut, total_of_cut, head.structure_within);
    strings_after_header = omega (arith, header_of_cut, cell_of_cut 12 (omega arith), head.strings_after_header);
    strings_within = omega (arith, strings_of_cut, total_of_cut, head.strings_within);
  }

  -- A slice of the blob is that of the file, if it has the same ends.
  part_of_cut : (at n cut_at cut_n : ℕ) → cut_at ≡ at → cut_n ≡ n → at + n ≤ totalsize file →
      slice (take end file) cut_at cut_n ≡ slice file at n
  part_of_cut at n cut_at cut_n same_at same_n inside =
      ap₂ (slice (take end file)) same_at same_n ∙ slice_of_cut file end at n (omega (arith, inside, after))

  -- The blocks are the same, so it is the same blob.
  blob_is_cut : (cpu : ℕ) (reservations : List Reservation) (root : Root FileNode) → IsBlob file cpu reservations root →
      IsBlob (take end file) cpu reservations root
  blob_is_cut cpu reservations root blob = record {
    bytes = AreBytes-take end file blob.bytes;
    header = header_is_cut;
    is_cpu = cell_of_cut 28 (omega arith) ∙ blob.is_cpu;
    reserved = subst (λ bytes. BeginsWithReservations bytes reservations)
        (sym (part_of_cut (off_mem_rsvmap file) (totalsize file - off_mem_rsvmap file) (off_mem_rsvmap (take end file))
        (totalsize (take end file) - off_mem_rsvmap (take end file)) (cell_of_cut 16 (omega arith))
        (ap₂ (λ (a b : ℕ). a - b) total_of_cut (cell_of_cut 16 (omega arith))) (omega (arith, head.reservations_within))))
        blob.reserved;
    holds = record {
      tokens = blob.holds.tokens;
      structure = blob.holds.structure;
      trailing = blob.holds.trailing;
      is_at = part_of_cut (off_dt_struct file) (structure_end file - off_dt_struct file) (off_dt_struct (take end file))
          (structure_end (take end file) - off_dt_struct (take end file)) (cell_of_cut 8 (omega arith))
          (ap₂ (λ (a b : ℕ). a - b) structure_of_cut (cell_of_cut 8 (omega arith)))
          (omega (arith, head.structure_ordered, head.structure_within))
          ∙ blob.holds.is_at;
      is_encoded = blob.holds.is_encoded;
      encodes = subst
          (λ (begin : ℕ). EncodeEvents (slice (take end file) (off_dt_strings (take end file)) (size_dt_strings (take end file)))
          begin blob.holds.tokens (file_events_of root))
          (sym (cell_of_cut 8 (omega arith)))
          (subst (λ (strings : List ℕ). EncodeEvents strings (off_dt_struct file) blob.holds.tokens (file_events_of root))
          (sym (part_of_cut (off_dt_strings file) (size_dt_strings file) (off_dt_strings (take end file)) (size_dt_strings (take end file))
          (cell_of_cut 12 (omega arith)) (cell_of_cut 32 (omega arith)) (omega (arith, head.strings_within))))
          blob.holds.encodes);
      is_tree = blob.holds.is_tree;
    };
  }

  -- ---- its payloads

  -- A payload that ends at or before the end of the cut is the same.
  region_of_cut : (base cut_base : ℕ) (begin size : FileProperty) (payload : List ℕ) → cut_base ≡ base →
      IsRegion file base begin size (Some payload) → base + cell_number begin + length payload ≤ end →
      IsRegion (take end file) cut_base begin size (Some payload)
  region_of_cut base cut_base begin size payload same is before = search (rules, cut_length, slice_of_cut, same_in_some, length-slice)

  payload_of_cut : (source : PayloadSource) (payload : Option (List ℕ)) → IsPayload file source payload →
      IfSome payload (λ bytes. (place : ℕ) × (payload_place file source ≡ Some place) × (place + length bytes ≤ end)) →
      IsPayload (take end file) source payload
  payload_of_cut NoSource payload is before = is
  payload_of_cut (Data data_property) payload is before = is
  payload_of_cut (DataOffset offset None) payload is before = is
  payload_of_cut (DataOffset offset (Some size)) None is before = absurd (let e = is.is_slice in cc)
  payload_of_cut (DataOffset offset (Some size)) (Some payload) is (place, same, before) =
      let at : external_base file + cell_number offset ≡ place = same_in_some _ _ same in
      region_of_cut (external_base file) (external_base (take end file)) offset size payload (ap up4 total_of_cut) is
      (omega (arith, at, before))
  payload_of_cut (DataPosition position None) payload is before = is
  payload_of_cut (DataPosition position (Some size)) None is before = absurd (let e = is.is_slice in cc)
  payload_of_cut (DataPosition position (Some size)) (Some payload) is (place, same, before) =
      let at : cell_number position ≡ place = same_in_some _ _ same in
      region_of_cut 0 0 position size payload refl is (omega (arith, at, before))

  ends_before : (own : FileNode) (payload : Option (List ℕ)) → IfSome payload (EndsBy file end own) →
      IfSome payload (λ bytes. (place : ℕ) × (payload_place file (source_of own) ≡ Some place) × (place + length bytes ≤ end))
  ends_before own None ends = tt
  ends_before own (Some payload) ends = (ends.place, ends.is_place, ends.is_before)

  payloads_of_cut : (owns : List FileNode) (payloads : List (Option (List ℕ))) → AllZip (HasPayload file) owns payloads →
      AllZip (λ own payload. IfSome payload (EndsBy file end own)) owns payloads → AllZip (HasPayload (take end file)) owns payloads
  payloads_of_cut [] [] are before = tt
  payloads_of_cut [] (payload ∷ payloads) are before = absurd are
  payloads_of_cut (own ∷ owns) [] are before = absurd are
  payloads_of_cut (own ∷ owns) (payload ∷ payloads) are before = (
    payload_of_cut (source_of own) payload are.0 (ends_before own payload before.0),
    payloads_of_cut owns payloads are.1 before.1,
  )

-- ---- a flattened image tree

-- Each payload ends before the end of the file.
ends_in_file : (file : List ℕ) (own : FileNode) (payload : Option (List ℕ)) → IsAtPlace file (payload_place file (source_of own)) payload →
    IfSome payload (EndsBy file (length file) own)
ends_in_file file own None at = tt
ends_in_file file own (Some payload) at = search rules

all_end_in_file : (file : List ℕ) (owns : List FileNode) (payloads : List (Option (List ℕ))) →
    AllZip (λ own payload. IsAtPlace file (payload_place file (source_of own)) payload) owns payloads →
    AllZip (λ own payload. IfSome payload (EndsBy file (length file) own)) owns payloads
all_end_in_file file [] [] at = tt
all_end_in_file file [] (payload ∷ payloads) at = absurd at
all_end_in_file file (own ∷ owns) [] at = absurd at
all_end_in_file file (own ∷ owns) (payload ∷ payloads) at =
    (ends_in_file file own payload at.0, all_end_in_file file owns payloads at.1)

-- A flattened image tree that is cut where its content ends.
cut_fit : (limits : Limits) (file : List ℕ) (tree : ImageTree) (means : FitMeans limits file tree) (end : ℕ) →
    end ≡ content_end file means.is_file.images tree.payloads → (end ≤ length file) × FitMeans limits (take end file) tree
cut_fit limits file tree means end is = (
  within,
  record {
    is_file = record {
      root = fit.root;
      blob = blob_is_cut file end fit.blob.header content.after_blob within tree.cpu tree.reservations fit.root fit.blob;
      images = fit.images;
      has_images = fit.has_images;
      payloads = payloads_of_cut file end fit.blob.header content.after_blob within (each_own fit.images) tree.payloads fit.payloads
          content.after_payloads;
      is_root = fit.is_root;
    };
    within = record { short = omega (arith, length-take end file, means.within.short); shallow = means.within.shallow };
  },
)
  where
    fit : IsFitFile file tree
    fit = means.is_file

    places : AreAtPlaces file fit.images tree.payloads
    places = payloads_are_at_places file tree fit

    within : end ≤ length file
    within = subst (λ (end : ℕ). end ≤ length file) (sym is)
        (not_before_end file fit.images tree.payloads (length file)
        (record {
          after_blob = fit.blob.header.file_holds_total;
          after_payloads = all_end_in_file file (each_own fit.images) tree.payloads places;
        }))

    content : IsAfterContent file fit.images tree.payloads end
    content = after_content file fit.images tree.payloads places end (omega (arith, is))

-- ---- an image of any kind

cut_image : (limits : Limits) (file : List ℕ) (meaning : Meaning) (extent : ℕ) → Means limits file meaning →
    HasExtent limits file meaning extent → (extent ≤ length file) × Means limits (take extent file) meaning
cut_image limits file (OfLegacy image) extent means is = search (rules, cut_legacy limits file image means)
cut_image limits file (OfFit tree) extent means (means_too, is) = cut_fit limits file tree means_too extent is

pub scanned_images_are_whole : ScannedImagesAreWhole
scanned_images_are_whole limits input offset extent meaning is = search (rules, cut_image, length-drop, inside)
