use Rattle.std.proofs.Common.{◌≡◌, ◌≢◌, ◌↔◌, ℕ, ◌+◌, ◌<◌, ◌≤◌, ◌^◌, Bool, true, false, not, ◌&&◌, ◌||◌, ◌==◌, nat_le, List, [], ◌∷◌}
use Rattle.std.proofs.Common.{◌++◌, IsTrue}
use Rattle.std.proofs.Common.{length, map, take, codes, replicate, refl, sym, ap, subst, ◌∙◌, inl, inr, true≢false, lit≤, lit<, arith}
use Rattle.std.specs.Fmt.{digits}
use Rattle.std.specs.List.{AllZip, list_all, range_with_len, sum}
use Rattle.std.proofs.lemmas.Bool.{and_parts, eq-eqb, eqb-false, le-leb}
use Rattle.bi_base.specs.declared.fault.Error.{Error}
use Rattle.bi_base.specs.declared.fault.Error.TheVariants.{OutOfMemory, ReadFailed, Refused, WriteFailed}
use Rattle.bi_base.specs.declared.fault.Fault.{Fault}
use Rattle.bi_base.specs.Cells.{AreBytes, cell, cell8, u32_at}
use Rattle.bi_base.specs.Checks.{HasNoFault}
use Rattle.bi_base.specs.Crc.{crc32, crc_after, low_bits}
use Rattle.bi_base.specs.Limits.{Limits, widest}
use Rattle.bi_base.specs.Reading.{too_large}
use Rattle.bi_base.proofs.ByteLists.{bytes_by_test}
use Rattle.bi_blob.specs.Blob.{IsBlob, blob_magic}
use Rattle.bi_blob.specs.BlobFaults.{HeaderPasses}
use Rattle.bi_blob.specs.KnownBlobs.{with_cell}
use Rattle.bi_blob.specs.KnownTexts.{smallest_text, smallest_tree}
use Rattle.bi_blob.specs.Layout.{text_of_blocks, text_of_events, tree_with_places}
use Rattle.bi_blob.proofs.CheckDecisions.{all_decide}
use Rattle.bi_blob.proofs.HeaderDecisions.{header_decides, test}
use Rattle.bi_blob.specs.Tree.{Property, Root, node, none, tree_without_order, tree_without_places}
use Rattle.bi_blob.proofs.Blobs.OneBlob.{one_blob}
use Rattle.bi_fit.specs.File.{FitMeans}
use Rattle.bi_fit.specs.ImageTree.{image_nodes, nodes_or_none, tree_without_payloads}
use Rattle.bi_fit.specs.KnownFiles.{plain_tree, region_of, three_external, three_tree, tree_with_images}
use Rattle.bi_fit.proofs.FileFacts.{blob_by_test, three_images_have_texts}
use Rattle.bi_fit.proofs.Meanings.{begins_with_magic}
use Rattle.bi_legacy.specs.File.{legacy_magic}
use Rattle.bi_legacy.specs.File.{LegacyMeans, header}
use Rattle.bi_legacy.specs.KnownImages.{kernel_file, kernel_image}
use Rattle.bi_legacy.specs.Meaning.{LegacyImage}
use Rattle.bi_legacy.specs.Text.{legacy_text}
use Rattle.bi_legacy.proofs.HeaderReads.{length-file, size_read}
use Rattle.bi_norm.specs.declared.kind.Kind.{Kind}
use Rattle.bi_norm.specs.declared.kind.Kind.TheVariants as kind
use Rattle.bi_norm.specs.Kinds.{BeginsAs}
use Rattle.bi_norm.specs.Laws.{OneFileMeaning}
use Rattle.bi_norm.specs.Meaning.{OfLegacy, OfFit, MeansNothing}
use Rattle.bi_common.specs.declared.format.Format.{Format}
use Rattle.bi_common.specs.declared.format.Format.TheVariants.{Json, Lines}
use Rattle.bi_common.specs.Offsets.{input_from}
use Rattle.bi_report.specs.KnownScans.{ClaimsAreKnown, FailsScanning, IsOnlyScanIn, ScanErrorsAreKnown, ScansAreKnown, great_header}
use Rattle.bi_report.specs.KnownScans.{kernel_of_tree, nested_images, nested_lines, scan_limits, three_magics, two_images}
use Rattle.bi_report.specs.KnownScans.{two_lines, two_objects}
use Rattle.bi_report.specs.Scanning.{HasBlobClaim, HasLegacyClaim, IsClaim, IsFoundAt, OfBlob, OfData, OfNothing, WithImage, WithoutImage}
use Rattle.bi_report.specs.Scanning.{CanBeScanned, HasExtent, IsScanError, IsScanFault, IsScanText, ScannedImage}
use Rattle.bi_report.specs.Scanning.{all_found, blob_claim_checks, has_images}
use Rattle.bi_report.specs.Scanning.{input_offsets, scan_text, scanned_image}
use Rattle.bi_report.proofs.OutputFacts.{same_bool}
use Rattle.bi_report.proofs.ScanClaims.{fault_or_scan, scan_has_no_fault}
use Rattle.bi_report.proofs.ScanLaws.{one_scan, same_images}
use Rattle.bi_report.proofs.ScannedLines.{means_kind, some_images}

-- Small images have known claims, and small files known scans.

-- ---- where no image begins

-- Whether an image begins with a magic number.
abbrev begins : List ℕ → Bool
begins image = nat_le 4 (length image) && (u32_at image 0 == legacy_magic || u32_at image 0 == blob_magic)

begins_as : (image : List ℕ) (found : Kind) → BeginsAs image found → begins image ≡ true
begins_as image kind.Legacy is = rw (le-leb 4 (length image) is.whole, eq-eqb (u32_at image 0) legacy_magic is.magic) refl
begins_as image kind.Fit is = rw (le-leb 4 (length image) is.whole, is.magic) refl

-- An image that begins with none is of no kind, and claims nothing.
no_kind : (image : List ℕ) → begins image ≡ false → (found : Kind) → ¬ (BeginsAs image found)
no_kind image is found other = true≢false (sym (begins_as image found other) ∙ is)

no_claim : (image : List ℕ) → begins image ≡ false → IsClaim image 0
no_claim image is = OfNothing (λ claim. no_kind image is kind.Legacy claim.begins) (λ claim. no_kind image is kind.Fit claim.begins) refl

no_meaning : (limits : Limits) (image : List ℕ) → begins image ≡ false → MeansNothing limits image
no_meaning limits image is meaning means = let found = means_kind limits image meaning means in no_kind image is found.0 found.1

-- What holds at each of these offsets, where no image begins.
not_true : (b : Bool) → not b ≡ true → b ≡ false
not_true true is = absurd cc
not_true false is = refl

quiet : {A : Type 0} (R : ℕ → A → Type 0) (input : List ℕ) (nothing : A) →
    ((offset : ℕ) → begins (input_from offset input) ≡ false → R offset nothing) → (offsets : List ℕ) →
    list_all (λ offset. not (begins (input_from offset input))) offsets ≡ true → AllZip R offsets (map (λ offset. nothing) offsets)
quiet R input nothing each [] all = tt
quiet R input nothing each (offset ∷ later) all =
    let first = and_parts (not (begins (input_from offset input)))
    (list_all (λ offset. not (begins (input_from offset input))) later) all in
    (each offset (not_true (begins (input_from offset input)) first.0), quiet R input nothing each later first.1)

-- What holds at some offsets and at others.
at_both : {A : Type 0} (R : ℕ → A → Type 0) (offsets others : List ℕ) (items more : List A) → AllZip R offsets items →
    AllZip R others more → AllZip R (offsets ++ others) (items ++ more)
at_both R [] others [] more are are_too = are_too
at_both R [] others (item ∷ items) more are are_too = absurd are
at_both R (offset ∷ offsets) others [] more are are_too = absurd are
at_both R (offset ∷ offsets) others (item ∷ items) more are are_too = (are.0, at_both R offsets others items more are.1 are_too)

-- ---- claims

-- An image of one kind is not of the other.
only_legacy_claim : (image : List ℕ) → u32_at image 0 ≡ legacy_magic → ¬ (HasLegacyClaim image) → IsClaim image 0
only_legacy_claim image magic fails = OfNothing fails (λ claim. omega (arith, magic, claim.begins.magic)) refl

only_blob_claim : (image : List ℕ) → u32_at image 0 ≡ blob_magic → ¬ (HasBlobClaim image) → IsClaim image 0
only_blob_claim image magic fails = OfNothing (λ claim. omega (arith, magic, claim.begins.magic)) fails refl

-- The header of a blob passes its checks, or one of them fails.
blob_passes : (image : List ℕ) → list_all (test widest image) blob_claim_checks ≡ true
    → HasNoFault (HeaderPasses widest image) blob_claim_checks
blob_passes image = (all_decide (HeaderPasses widest image) (test widest image) (header_decides widest image) blob_claim_checks).0

pub claims_are_known : ClaimsAreKnown
unfolding u32_at cell crc32 crc_after low_bits test
claims_are_known = record {
  legacy = OfData (record { begins = record { whole = lit≤ tt; magic = refl }; passes = (lit≤ tt, (refl, (lit≤ tt, tt))) }) refl;
  wrong_data = OfData (record { begins = record { whole = lit≤ tt; magic = refl }; passes = (lit≤ tt, (refl, (lit≤ tt, tt))) }) refl;
  wrong_header = only_legacy_claim (with_cell kernel_file 4 0) refl (λ claim. eqb-false _ _ refl claim.passes.1.0);
  cut_legacy = only_legacy_claim (take 72 kernel_file) refl (λ claim. omega (arith, claim.passes.1.1.0));
  great = only_legacy_claim great_header refl (λ claim. omega (arith, claim.passes.1.1.0));
  tree = OfBlob (record { begins = record { whole = lit≤ tt; magic = refl }; passes = blob_passes (smallest_text ++ 0xff ∷ []) refl }) refl;
  version_16 = OfBlob
      (record { begins = record { whole = lit≤ tt; magic = refl }; passes = blob_passes (with_cell smallest_text 20 16) refl })
      refl;
  version_15 = only_blob_claim (with_cell smallest_text 20 15) refl (λ claim. omega (arith, claim.passes.1.0));
  cut_tree = only_blob_claim (take 87 smallest_text) refl (λ claim. omega (arith, claim.passes.1.1.1.1.0));
  legacy_alone = only_legacy_claim (cell legacy_magic) refl (λ claim. omega (arith, claim.passes.0));
  blob_alone = only_blob_claim (cell blob_magic) refl (λ claim. omega (arith, claim.passes.0));
  other = no_claim (codes "hello") refl;
  empty = no_claim [] refl;
}

-- ---- scans

-- What is known at an offset: what is found, and what its image claims.
abbrev IsKnownAt : Limits → (input : List ℕ) → (offset : ℕ) → List ScannedImage × ℕ → Type 0
IsKnownAt limits input offset (found, claim) = IsFoundAt limits input offset found × IsClaim (input_from offset input) claim

-- Where no image begins, there is nothing.
abbrev nothing_at : List ℕ → List (List ScannedImage × ℕ)
nothing_at offsets = map (λ offset. ([], 0)) offsets

nothing_is_known : (limits : Limits) (input offsets : List ℕ) → list_all (λ offset. not (begins (input_from offset input))) offsets ≡ true →
    AllZip (IsKnownAt limits input) offsets (nothing_at offsets)
nothing_is_known limits input offsets =
    quiet (IsKnownAt limits input) input ([], 0)
    (λ offset is.
    (WithoutImage (no_meaning limits (input_from offset input) is) refl, no_claim (input_from offset input) is)) offsets

-- So an input has a known scan.
found_known : (limits : Limits) (input offsets : List ℕ) (items : List (List ScannedImage × ℕ)) →
    AllZip (IsKnownAt limits input) offsets items →
    AllZip (IsFoundAt limits input) offsets (map (λ (item : List ScannedImage × ℕ). item.0) items)
found_known limits input [] [] are = tt
found_known limits input [] (item ∷ items) are = absurd are
found_known limits input (offset ∷ offsets) [] are = absurd are
found_known limits input (offset ∷ offsets) ((found, claim) ∷ items) are = (are.0.0, found_known limits input offsets items are.1)

claims_known : (limits : Limits) (input offsets : List ℕ) (items : List (List ScannedImage × ℕ)) →
    AllZip (IsKnownAt limits input) offsets items →
    AllZip (λ offset. IsClaim (input_from offset input)) offsets (map (λ (item : List ScannedImage × ℕ). item.1) items)
claims_known limits input [] [] are = tt
claims_known limits input [] (item ∷ items) are = absurd are
claims_known limits input (offset ∷ offsets) [] are = absurd are
claims_known limits input (offset ∷ offsets) ((found, claim) ∷ items) are = (are.0.1, claims_known limits input offsets items are.1)

record IsKnownScan (format : Format) (limits : Limits) (input text : List ℕ) (found : Bool) : Type 0 where
  is : IsScanText format limits input text
  some : has_images (all_found is.has.found) ≡ found

known_scan : (format : Format) (limits : Limits) (input text : List ℕ) (found : Bool) (items : List (List ScannedImage × ℕ)) →
    length input ≤ limits.file → AllZip (IsKnownAt limits input) (input_offsets input) items →
    sum (map (λ (item : List ScannedImage × ℕ). item.1) items) ≤ limits.file →
    has_images (all_found (map (λ (item : List ScannedImage × ℕ). item.0) items)) ≡ found →
    text ≡ scan_text format (all_found (map (λ (item : List ScannedImage × ℕ). item.0) items)) →
    IsKnownScan format limits input text found
known_scan format limits input text found items short are within some is = record {
  is = record {
    can = record {
      short = short;
      within = record {
        claims = map (λ (item : List ScannedImage × ℕ). item.1) items;
        are_claims = claims_known limits input (input_offsets input) items are;
        within = within;
      };
    };
    has = record {
      found = map (λ (item : List ScannedImage × ℕ). item.0) items;
      are_found = found_known limits input (input_offsets input) items are;
      is_text = is;
    };
  };
  some = some;
}

-- ---- what is at the offsets of the small files

-- The smallest tree, wherever it is.
smallest_at : (limits : Limits) (input : List ℕ) (offset : ℕ) → input_from offset input ≡ smallest_text → 88 ≤ limits.file →
    2 ≤ limits.depth → IsKnownAt limits input offset (scanned_image offset 88 (OfFit (plain_tree [] [])) ∷ [], 88)
unfolding text_of_events text_of_blocks cell cell8 u32_at test
smallest_at limits input offset is short shallow =
    let means : FitMeans limits smallest_text (plain_tree [] []) = record {
      is_file = record {
        root = tree_with_places [] smallest_tree;
        blob = blob_by_test smallest_tree [] refl refl (lit≤ tt);
        images = none;
        has_images = refl;
        payloads = tt;
        is_root = refl;
      };
      within = record { short = short; shallow = shallow };
    } in
    let extent : HasExtent limits smallest_text (OfFit (plain_tree [] [])) 88 = (means, refl) in
    let claim : IsClaim smallest_text 88 =
    OfBlob (record { begins = record { whole = lit≤ tt; magic = refl }; passes = blob_passes smallest_text refl }) refl in (
      WithImage 88 (OfFit (plain_tree [] []))
          (record {
            means = subst (λ (image : List ℕ). FitMeans limits image (plain_tree [] [])) (sym is) means;
            has_extent = subst (λ (image : List ℕ). HasExtent limits image (OfFit (plain_tree [] [])) 88) (sym is) extent;
          })
          refl,
      subst (λ (image : List ℕ). IsClaim image 88) (sym is) claim,
    )

-- A kernel image at the begin of a file.
kernel_means : (limits : Limits) (file body rest : List ℕ) →
    file ≡ header (record kernel_image { parts = body ∷ [] }) (codes "k" ++ replicate 31 0) body ++ (body ++ rest) →
    length body < 2 ^ 32 → AreBytes file → length file ≤ limits.file → LegacyMeans limits file (record kernel_image { parts = body ∷ [] })
kernel_means limits file body rest is small bytes short = record {
  is_file = record {
    field = codes "k" ++ replicate 31 0;
    body = body;
    rest = rest;
    file_is = is;
    ranges = record {
      time = lit< tt;
      load = lit< tt;
      entry = lit< tt;
      os = lit< tt;
      arch = lit< tt;
      image_type = lit< tt;
      compression = lit< tt;
    };
    name = record {
      padding = replicate 31 0;
      field_is = refl;
      padding_is = refl;
      whole = refl;
      is_name = record { short = lit≤ tt; no_zero = (eqb-false _ _ refl, tt) };
    };
    size = small;
    parts = refl;
    bytes = bytes;
  };
  short = short;
}

kernel_at_begin : IsKnownAt (scan_limits 162) two_images 0 (scanned_image 0 73 (OfLegacy kernel_image) ∷ [], 73)
unfolding digits header cell crc32 crc_after low_bits u32_at
kernel_at_begin = (
  WithImage 73 (OfLegacy kernel_image)
      (record {
        means = kernel_means (scan_limits 162) two_images (codes "123456789") (0xff ∷ smallest_text) refl (lit< tt)
            (bytes_by_test two_images refl) (lit≤ tt);
        has_extent = refl;
      })
      refl,
  claims_are_known.legacy,
)

-- What is in the first file.
abbrev two_items : List (List ScannedImage × ℕ)
two_items =
    (scanned_image 0 73 (OfLegacy kernel_image) ∷ [], 73)
    ∷ (nothing_at (range_with_len 1 73)
    ++ (scanned_image 74 88 (OfFit (plain_tree [] [])) ∷ [], 88) ∷ nothing_at (range_with_len 75 87))

two_are_known : AllZip (IsKnownAt (scan_limits 162) two_images) (input_offsets two_images) two_items
unfolding cell u32_at
two_are_known = (
  kernel_at_begin,
  at_both (IsKnownAt (scan_limits 162) two_images) (range_with_len 1 73) (74 ∷ range_with_len 75 87)
      (nothing_at (range_with_len 1 73)) ((scanned_image 74 88 (OfFit (plain_tree [] [])) ∷ [], 88) ∷ nothing_at (range_with_len 75 87))
      (nothing_is_known (scan_limits 162) two_images (range_with_len 1 73) refl) (
        smallest_at (scan_limits 162) two_images 74 refl (lit≤ tt) (lit≤ tt),
        nothing_is_known (scan_limits 162) two_images (range_with_len 75 87) refl,
      ),
)

two_scan : IsKnownScan Lines (scan_limits 162) two_images two_lines true
unfolding u32_at cell digits
two_scan = known_scan Lines (scan_limits 162) two_images two_lines true two_items (lit≤ tt) two_are_known (lit≤ tt) refl refl

two_in_json : IsKnownScan Json (scan_limits 162) two_images two_objects true
unfolding digits
two_in_json = known_scan Json (scan_limits 162) two_images two_objects true two_items (lit≤ tt) two_are_known (lit≤ tt) refl refl

-- The bytes of the file with one image inside another.
abbrev nested_bytes : List ℕ
nested_bytes =
    0x27 ∷ 0x05 ∷ 0x19 ∷ 0x56 ∷ 0x07 ∷ 0x89 ∷ 0x0c ∷ 0x04 ∷ 0x00 ∷ 0x00 ∷ 0x00 ∷ 0x00
    ∷ 0x00 ∷ 0x00 ∷ 0x00 ∷ 0x58 ∷ 0x00 ∷ 0x00 ∷ 0x80 ∷ 0x00 ∷ 0x00 ∷ 0x00 ∷ 0x80 ∷ 0x00
    ∷ 0x74 ∷ 0x80 ∷ 0x08 ∷ 0xa5 ∷ 0x05 ∷ 0x02 ∷ 0x02 ∷ 0x00 ∷ 0x6b ∷ 0x00 ∷ 0x00 ∷ 0x00
    ∷ 0x00 ∷ 0x00 ∷ 0x00 ∷ 0x00 ∷ 0x00 ∷ 0x00 ∷ 0x00 ∷ 0x00 ∷ 0x00 ∷ 0x00 ∷ 0x00 ∷ 0x00
    ∷ 0x00 ∷ 0x00 ∷ 0x00 ∷ 0x00 ∷ 0x00 ∷ 0x00 ∷ 0x00 ∷ 0x00 ∷ 0x00 ∷ 0x00 ∷ 0x00 ∷ 0x00
    ∷ 0x00 ∷ 0x00 ∷ 0x00 ∷ 0x00 ∷ 0xd0 ∷ 0x0d ∷ 0xfe ∷ 0xed ∷ 0x00 ∷ 0x00 ∷ 0x00 ∷ 0x58
    ∷ 0x00 ∷ 0x00 ∷ 0x00 ∷ 0x38 ∷ 0x00 ∷ 0x00 ∷ 0x00 ∷ 0x58 ∷ 0x00 ∷ 0x00 ∷ 0x00 ∷ 0x28
    ∷ 0x00 ∷ 0x00 ∷ 0x00 ∷ 0x11 ∷ 0x00 ∷ 0x00 ∷ 0x00 ∷ 0x10 ∷ 0x00 ∷ 0x00 ∷ 0x00 ∷ 0x00
    ∷ 0x00 ∷ 0x00 ∷ 0x00 ∷ 0x00 ∷ 0x00 ∷ 0x00 ∷ 0x00 ∷ 0x20 ∷ 0x00 ∷ 0x00 ∷ 0x00 ∷ 0x00
    ∷ 0x00 ∷ 0x00 ∷ 0x00 ∷ 0x00 ∷ 0x00 ∷ 0x00 ∷ 0x00 ∷ 0x00 ∷ 0x00 ∷ 0x00 ∷ 0x00 ∷ 0x00
    ∷ 0x00 ∷ 0x00 ∷ 0x00 ∷ 0x01 ∷ 0x00 ∷ 0x00 ∷ 0x00 ∷ 0x00 ∷ 0x00 ∷ 0x00 ∷ 0x00 ∷ 0x01
    ∷ 0x69 ∷ 0x6d ∷ 0x61 ∷ 0x67 ∷ 0x65 ∷ 0x73 ∷ 0x00 ∷ 0x00 ∷ 0x00 ∷ 0x00 ∷ 0x00 ∷ 0x02
    ∷ 0x00 ∷ 0x00 ∷ 0x00 ∷ 0x02 ∷ 0x00 ∷ 0x00 ∷ 0x00 ∷ 0x09 ∷ []

nested_are_bytes : nested_images ≡ nested_bytes
unfolding legacy_text header cell crc32 crc_after low_bits
nested_are_bytes = refl

-- What is in it.
abbrev nested_items : List (List ScannedImage × ℕ)
nested_items =
    (scanned_image 0 152 (OfLegacy kernel_of_tree) ∷ [], 152)
    ∷ (nothing_at (range_with_len 1 63)
    ++ (scanned_image 64 88 (OfFit (plain_tree [] [])) ∷ [], 88) ∷ nothing_at (range_with_len 65 87))

outer_at_begin : (limits : Limits) → 152 ≤ limits.file →
    IsKnownAt limits nested_bytes 0 (scanned_image 0 152 (OfLegacy kernel_of_tree) ∷ [], 152)
unfolding digits header cell crc32 crc_after low_bits u32_at
outer_at_begin limits short = (
  WithImage 152 (OfLegacy kernel_of_tree)
      (record {
        means = kernel_means limits nested_bytes smallest_text [] refl (lit< tt) (bytes_by_test nested_bytes refl) short;
        has_extent = refl;
      })
      refl,
  OfData (record { begins = record { whole = lit≤ tt; magic = refl }; passes = (lit≤ tt, (refl, (lit≤ tt, tt))) }) refl,
)

nested_are_known : (limits : Limits) → 152 ≤ limits.file → 2 ≤ limits.depth →
    AllZip (IsKnownAt limits nested_bytes) (input_offsets nested_bytes) nested_items
unfolding cell u32_at
nested_are_known limits short shallow = (
  outer_at_begin limits short,
  at_both (IsKnownAt limits nested_bytes) (range_with_len 1 63) (64 ∷ range_with_len 65 87)
      (nothing_at (range_with_len 1 63)) ((scanned_image 64 88 (OfFit (plain_tree [] [])) ∷ [], 88) ∷ nothing_at (range_with_len 65 87))
      (nothing_is_known limits nested_bytes (range_with_len 1 63) refl) (
        smallest_at limits nested_bytes 64 refl (omega (arith, short)) shallow,
        nothing_is_known limits nested_bytes (range_with_len 65 87) refl,
      ),
)

nested_scan : IsKnownScan Lines (scan_limits 240) nested_images nested_lines true
unfolding digits
nested_scan =
    subst (λ (input : List ℕ). IsKnownScan Lines (scan_limits 240) input nested_lines true) (sym nested_are_bytes)
    (known_scan Lines (scan_limits 240) nested_bytes nested_lines true nested_items (lit≤ tt)
    (nested_are_known (scan_limits 240) (lit≤ tt) (lit≤ tt)) (lit≤ tt) refl refl)

-- A lower limit than what its images claim refuses it.
nested_fault : IsScanFault (scan_limits 239) nested_images (too_large 239)
nested_fault =
    subst (λ (input : List ℕ). IsScanFault (scan_limits 239) input (too_large 239)) (sym nested_are_bytes)
    (record {
      is_too_large = refl;
      cause = inr (record {
        claims = map (λ (item : List ScannedImage × ℕ). item.1) nested_items;
        are_claims = claims_known (scan_limits 239) nested_bytes (input_offsets nested_bytes) nested_items
            (nested_are_known (scan_limits 239) (lit≤ tt) (lit≤ tt));
        over = lit< tt;
      });
    })

-- The tree of the file with payloads after its blob.
abbrev external_nodes : Root (List Property)
external_nodes =
    tree_with_images
    (node (codes "a") (region_of 0 5) none
    (node (codes "b") (region_of 8 0) none
    (node (codes "c") (region_of 8 1) none none)))

external_blob : IsBlob three_external 0 [] (tree_with_places [] external_nodes)
unfolding text_of_events text_of_blocks cell cell8 u32_at
external_blob = blob_by_test external_nodes (codes "hello" ++ 0 ∷ 0 ∷ 0 ∷ codes "x") refl refl (lit≤ tt)

external_at_begin : IsKnownAt (scan_limits 253) three_external 0 (scanned_image 0 253 (OfFit three_tree) ∷ [], 244)
unfolding text_of_events text_of_blocks cell cell8 u32_at test digits
external_at_begin =
    let found = three_images_have_texts.external_means in
    let means : FitMeans (scan_limits 253) three_external three_tree = record {
      is_file = record {
        root = tree_with_places [] external_nodes;
        blob = external_blob;
        images = nodes_or_none (image_nodes (tree_with_places [] external_nodes));
        has_images = refl;
        payloads = (
          record { begin_cell = refl; size_cell = refl; in_file = lit≤ tt; is_slice = refl },
          (
            record { begin_cell = refl; size_cell = refl; in_file = lit≤ tt; is_slice = refl },
            (record { begin_cell = refl; size_cell = refl; in_file = lit≤ tt; is_slice = refl }, tt),
          ),
        );
        is_root = found.is_root
            ∙ ap (λ root. tree_without_payloads (tree_without_order (tree_without_places root)))
            (one_blob three_external 0 0 [] [] found.root (tree_with_places [] external_nodes) found.blob external_blob).same_root;
      };
      within = record { short = lit≤ tt; shallow = lit≤ tt };
    } in (
      WithImage 253 (OfFit three_tree) (record { means = means; has_extent = (means, refl) }) refl,
      OfBlob (record { begins = record { whole = lit≤ tt; magic = refl }; passes = blob_passes three_external refl }) refl,
    )

external_scan : IsKnownScan Lines (scan_limits 253) three_external (codes "0 fit 253 3" ++ 10 ∷ []) true
unfolding text_of_events text_of_blocks cell cell8 u32_at digits
external_scan =
    known_scan Lines (scan_limits 253) three_external (codes "0 fit 253 3" ++ 10 ∷ []) true
    ((scanned_image 0 253 (OfFit three_tree) ∷ [], 244) ∷ nothing_at (range_with_len 1 252)) (lit≤ tt)
    (external_at_begin, nothing_is_known (scan_limits 253) three_external (range_with_len 1 252) refl) (lit≤ tt) refl refl

-- ---- files without images

-- A header without its data means nothing, and neither does a magic number alone.
means_no_legacy : (limits : Limits) (image : List ℕ) (legacy_image : LegacyImage) → length image < 64 + u32_at image 12 →
    ¬ (LegacyMeans limits image legacy_image)
means_no_legacy limits image legacy_image short means =
    omega (arith, short, length-file image legacy_image means.is_file, size_read image legacy_image means.is_file)

legacy_alone : (limits : Limits) (image : List ℕ) → u32_at image 0 ≡ legacy_magic → length image < 64 + u32_at image 12 →
    MeansNothing limits image
legacy_alone limits image magic short (OfLegacy legacy_image) means = means_no_legacy limits image legacy_image short means
legacy_alone limits image magic short (OfFit tree) means = omega (arith, magic, begins_with_magic image tree means.is_file)

blob_alone : (limits : Limits) → MeansNothing limits (cell blob_magic)
unfolding u32_at cell
blob_alone limits (OfLegacy legacy_image) means =
    omega (arith, length-file (cell blob_magic) legacy_image means.is_file)
blob_alone limits (OfFit tree) means = omega (arith, means.is_file.blob.header.whole)

-- The bytes of the header that names a great size.
abbrev great_bytes : List ℕ
great_bytes =
    0x27 ∷ 0x05 ∷ 0x19 ∷ 0x56 ∷ 0xb6 ∷ 0x3d ∷ 0x4d ∷ 0xcb ∷ 0x00 ∷ 0x00 ∷ 0x00 ∷ 0x00
    ∷ 0xff ∷ 0xff ∷ 0xff ∷ 0xf0 ∷ 0x00 ∷ 0x00 ∷ 0x80 ∷ 0x00 ∷ 0x00 ∷ 0x00 ∷ 0x80 ∷ 0x00
    ∷ 0x00 ∷ 0x00 ∷ 0x00 ∷ 0x00 ∷ 0x05 ∷ 0x02 ∷ 0x02 ∷ 0x00 ∷ 0x6b ∷ 0x00 ∷ 0x00 ∷ 0x00
    ∷ 0x00 ∷ 0x00 ∷ 0x00 ∷ 0x00 ∷ 0x00 ∷ 0x00 ∷ 0x00 ∷ 0x00 ∷ 0x00 ∷ 0x00 ∷ 0x00 ∷ 0x00
    ∷ 0x00 ∷ 0x00 ∷ 0x00 ∷ 0x00 ∷ 0x00 ∷ 0x00 ∷ 0x00 ∷ 0x00 ∷ 0x00 ∷ 0x00 ∷ 0x00 ∷ 0x00
    ∷ 0x00 ∷ 0x00 ∷ 0x00 ∷ 0x00 ∷ []

great_are_bytes : great_header ≡ great_bytes
unfolding cell crc32 crc_after low_bits
great_are_bytes = refl

great_scan : IsKnownScan Lines (scan_limits 162) great_header [] false
unfolding u32_at cell
great_scan =
    subst (λ (input : List ℕ). IsKnownScan Lines (scan_limits 162) input [] false) (sym great_are_bytes)
    (known_scan Lines (scan_limits 162) great_bytes [] false (([], 0) ∷ nothing_at (range_with_len 1 63)) (lit≤ tt) (
      (
        WithoutImage (legacy_alone (scan_limits 162) great_bytes refl (lit< tt)) refl,
        only_legacy_claim great_bytes refl (λ claim. omega (arith, claim.passes.1.1.0)),
      ),
      nothing_is_known (scan_limits 162) great_bytes (range_with_len 1 63) refl,
    )
    (lit≤ tt) refl refl)

magics_scan : IsKnownScan Lines (scan_limits 64) three_magics [] false
unfolding u32_at cell
magics_scan =
    known_scan Lines (scan_limits 64) three_magics [] false (nothing_at (range_with_len 0 13)) (lit≤ tt)
    (at_both (IsKnownAt (scan_limits 64) three_magics) (0 ∷ []) (range_with_len 1 12) (nothing_at (0 ∷ []))
    (nothing_at (range_with_len 1 12))
    (nothing_is_known (scan_limits 64) three_magics (0 ∷ []) refl) (
      (
        WithoutImage (legacy_alone (scan_limits 64) (input_from 1 three_magics) refl (lit< tt)) refl,
        only_legacy_claim (input_from 1 three_magics) refl (λ claim. omega (arith, claim.passes.0)),
      ),
      at_both (IsKnownAt (scan_limits 64) three_magics) (range_with_len 2 3) (range_with_len 5 8) (nothing_at (range_with_len 2 3))
          (nothing_at (range_with_len 5 8))
          (nothing_is_known (scan_limits 64) three_magics (range_with_len 2 3) refl) (
            (
              WithoutImage (legacy_alone (scan_limits 64) (input_from 5 three_magics) refl (lit< tt)) refl,
              only_legacy_claim (input_from 5 three_magics) refl (λ claim. omega (arith, claim.passes.0)),
            ),
            at_both (IsKnownAt (scan_limits 64) three_magics) (range_with_len 6 3) (range_with_len 9 4) (nothing_at (range_with_len 6 3))
                (nothing_at (range_with_len 9 4))
                (nothing_is_known (scan_limits 64) three_magics (range_with_len 6 3) refl) (
                  (WithoutImage (blob_alone (scan_limits 64)) refl, claims_are_known.blob_alone),
                  nothing_is_known (scan_limits 64) three_magics (range_with_len 10 3) refl,
                ),
          ),
    ))
    (lit≤ tt) refl refl

-- So known scans are the only outputs.
module _ (one_meaning : OneFileMeaning) where
  only_scan : (format : Format) (most : ℕ) (found : Bool) (input text : List ℕ) →
      IsKnownScan format (scan_limits most) input text found → IsOnlyScanIn format most found input text
  only_scan format most found input text known =
      let is_found : IsTrue found ↔ (all_found known.is.has.found ≢ []) =
      subst (λ found. IsTrue found ↔ (all_found known.is.has.found ≢ [])) known.some (some_images (all_found known.is.has.found)) in
      record {
        is_output = record { is_scan = known.is; is_found = is_found };
        is_text = known.is;
        only = λ other_found other output. (
          same_bool other_found found (all_found known.is.has.found ≢ [])
              (subst (λ images. IsTrue other_found ↔ (all_found images ≢ []))
              (same_images one_meaning format (scan_limits most) input other text output.is_scan known.is) output.is_found)
              is_found,
          one_scan one_meaning format (scan_limits most) input other text output.is_scan known.is,
        );
      }

  none_in : (format : Format) (text : List ℕ) → text ≡ scan_text format [] → IsOnlyScanIn format 162 false (codes "hello") text
  unfolding u32_at
  none_in format text is =
      only_scan format 162 false (codes "hello") text
      (known_scan format (scan_limits 162) (codes "hello") text false (nothing_at (range_with_len 0 5)) (lit≤ tt)
      (nothing_is_known (scan_limits 162) (codes "hello") (range_with_len 0 5) refl) (lit≤ tt) refl is)

  pub scans_are_known : ScansAreKnown
  unfolding u32_at cell digits
  scans_are_known = record {
    two = only_scan Lines 162 true two_images _ two_scan;
    nested = only_scan Lines 240 true nested_images _ nested_scan;
    external = only_scan Lines 253 true three_external _ external_scan;
    great = only_scan Lines 162 false great_header [] great_scan;
    magic = only_scan Lines 162 false (cell blob_magic) []
        (known_scan Lines (scan_limits 162) (cell blob_magic) [] false (nothing_at (range_with_len 0 4)) (lit≤ tt) (
          (WithoutImage (blob_alone (scan_limits 162)) refl, claims_are_known.blob_alone),
          nothing_is_known (scan_limits 162) (cell blob_magic) (range_with_len 1 3) refl,
        )
        (lit≤ tt) refl refl);
    magics = only_scan Lines 64 false three_magics [] magics_scan;
    none = none_in Lines [] refl;
    empty = only_scan Lines 64 false [] [] (known_scan Lines (scan_limits 64) [] [] false [] (lit≤ tt) tt (lit≤ tt) refl refl);
    two_in_json = only_scan Json 162 true two_images _ two_in_json;
    none_in_json = none_in Json _ refl;
  }

-- ---- errors

-- What is the one error of a scan.
one_error : (most : ℕ) (input : List ℕ) (one : Error) → IsScanError (scan_limits most) input one →
    ((fault : Fault) → IsScanFault (scan_limits most) input fault → Refused fault ≡ one) →
    (CanBeScanned (scan_limits most) input → OutOfMemory ≡ one) → FailsScanning most input one
one_error most input one is refused memory format error = (each error, λ same. subst (IsScanError (scan_limits most) input) (sym same) is)
  where
    each : (error : Error) → IsScanError (scan_limits most) input error → error ≡ one
    each (Refused fault) is = refused fault is
    each OutOfMemory is = memory is
    each ReadFailed is = absurd is
    each WriteFailed is = absurd is

-- A file with a fault has no other error.
one_fault : (most : ℕ) (input : List ℕ) → IsScanFault (scan_limits most) input (too_large most) →
    FailsScanning most input (Refused (too_large most))
one_fault most input is =
    one_error most input (Refused (too_large most)) is (λ fault other. ap Refused other.is_too_large)
    (λ can. absurd (fault_or_scan (scan_limits most) input (too_large most) can is))

pub scan_errors_are_known : ScanErrorsAreKnown
unfolding cell
scan_errors_are_known = record {
  longer = one_fault 161 two_images (record { is_too_large = refl; cause = inl (lit< tt) });
  claims = one_fault 239 nested_images nested_fault;
  within = one_error 240 nested_images OutOfMemory nested_scan.is.can
      (λ fault is. absurd (scan_has_no_fault Lines (scan_limits 240) nested_images nested_lines fault nested_scan.is is)) (λ can. refl);
  is_same = λ format limits error. refl;
}
