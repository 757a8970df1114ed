use Rattle.std.proofs.Common.{◌≡◌, ◌≢◌, ℕ, zero, suc, ◌+◌, ◌<◌, List, [], ◌∷◌, length, get_or, refl, sym, ap, ap₂, subst, rules}
use Rattle.std.proofs.Common.{◌∙◌, arith}
use Rattle.std.specs.List.{AllZip, range_with_len}
use Rattle.std.proofs.lemmas.List.{length-drop}
use Rattle.std.proofs.lemmas.List.FromFn.{length-range_with_len}
use Rattle.std.proofs.lemmas.Slice.Zip.{AllZip-long}
use Rattle.bi_base.specs.Limits.{Limits}
use Rattle.bi_blob.specs.Tree.{Nodes, FileNode}
use Rattle.bi_blob.proofs.Blobs.OneBlob.{one_blob}
use Rattle.bi_fit.specs.ImageTree.{image_nodes}
use Rattle.bi_fit.proofs.Meanings.{same_in_some}
use Rattle.bi_norm.specs.Laws.{OneFileMeaning}
use Rattle.bi_norm.specs.Meaning.{Meaning, OfLegacy, OfFit, Means}
use Rattle.bi_common.specs.declared.format.Format.{Format}
use Rattle.bi_common.specs.Offsets.{input_from}
use Rattle.bi_report.specs.Checking.{content_end}
use Rattle.bi_report.specs.ScanLaws.{EachImageIsFound, OneScan}
use Rattle.bi_report.specs.Scanning.{HasExtent, IsFoundAt, IsImageAt, ScannedImage, WithImage, WithoutImage, all_found, input_offsets}
use Rattle.bi_report.specs.Scanning.{IsScanText, scan_text, scanned_image}
use Rattle.bi_report.proofs.ScannedLines.{means_kind}

-- What a scan finds are the images at offsets, and there is only one list of them.

-- What holds at an offset, of the item at its index.
record HasAt {A : Type 0} (R : ℕ → A → Type 0) (offset index : ℕ) (items : List A) : Type 0 where
  item : A
  is_item : (d : A) → get_or items index d ≡ item
  within : index < length items
  holds : R offset item

at_offset : {A : Type 0} (R : ℕ → A → Type 0) (begin count index : ℕ) (items : List A) → AllZip R (range_with_len begin count) items →
    index < count → HasAt R (begin + index) index items
at_offset R begin zero index items all within = absurd (omega (arith, within))
at_offset R begin (suc count) index [] all within = absurd all
at_offset R begin (suc count) zero (item ∷ items) all within =
    record { item = item; is_item = λ d. refl; within = omega arith; holds = subst (λ offset. R offset item) (omega arith) all.0 }
at_offset R begin (suc count) (suc index) (item ∷ items) all within =
    let rest = at_offset R (begin + 1) count index items all.1 (omega (arith, within)) in
    record {
      item = rest.item;
      is_item = rest.is_item;
      within = omega (arith, rest.within);
      holds = subst (λ offset. R offset rest.item) (let same : begin + 1 + index ≡ begin + suc index = omega arith in same) rest.holds;
    }

-- What is found at the offset of an image is the image.
found_of_image : OneFileMeaning → (limits : Limits) (input : List ℕ) (offset : ℕ) (found : List ScannedImage) (meaning : Meaning) →
    IsFoundAt limits input offset found → Means limits (input_from offset input) meaning →
    (extent : ℕ) × IsImageAt limits input offset extent meaning × (found ≡ scanned_image offset extent meaning ∷ [])
found_of_image one_meaning limits input offset found meaning (WithImage extent other is same) means = search rules
found_of_image one_meaning limits input offset found meaning (WithoutImage nothing same) means = absurd (nothing meaning means)

-- What is found is an image.
found_is_image : (limits : Limits) (input : List ℕ) (offset : ℕ) (found : List ScannedImage) → IsFoundAt limits input offset found →
    found ≢ [] →
    (extent : ℕ) × (meaning : Meaning) × IsImageAt limits input offset extent meaning × (found ≡ scanned_image offset extent meaning ∷ [])
found_is_image limits input offset found (WithImage extent meaning is same) some = (extent, meaning, is, same)
found_is_image limits input offset found (WithoutImage nothing same) some = absurd (some same)

-- An image is not after the end of the input.
pub inside : (limits : Limits) (input : List ℕ) (offset : ℕ) (meaning : Meaning) → Means limits (input_from offset input) meaning →
    offset < length input
inside limits input offset meaning means =
    omega (arith, (means_kind limits (input_from offset input) meaning means).1.whole, length-drop offset input)

pub each_image_is_found : OneFileMeaning → EachImageIsFound
each_image_is_found one_meaning format limits input text is = record {
  each = λ offset meaning means.
      let at = at_offset (IsFoundAt limits input) 0 (length input) offset is.has.found is.has.are_found
      (inside limits input offset meaning means) in
      let found = found_of_image one_meaning limits input offset at.item meaning
      (subst (λ (offset : ℕ). IsFoundAt limits input offset at.item) (omega arith) at.holds) means in
      (found.0, found.1, (offset, at.within, at.is_item (scanned_image offset found.0 meaning ∷ []) ∙ found.2));
  no_other = λ images contains some.
      let within : contains.0 < length input = omega (
        arith,
        contains.1,
        AllZip-long (IsFoundAt limits input) (input_offsets input) is.has.found is.has.are_found,
        length-range_with_len 0 (length input),
      ) in
      let at = at_offset (IsFoundAt limits input) 0 (length input) contains.0 is.has.found is.has.are_found within in
      let same : at.item ≡ images = sym (at.is_item images) ∙ contains.2 in
      let found = found_is_image limits input (0 + contains.0) images (subst (IsFoundAt limits input (0 + contains.0)) same at.holds)
      some in
      (0 + contains.0, found.0, found.1, found.2, found.3);
}

-- An image has one extent.
one_extent : (limits : Limits) (image : List ℕ) (meaning : Meaning) (one other : ℕ) → HasExtent limits image meaning one →
    HasExtent limits image meaning other → one ≡ other
one_extent limits image (OfLegacy legacy_image) one other is other_is = is ∙ sym other_is
one_extent limits image (OfFit tree) one other (means, is) (other_means, other_is) =
    is ∙ ap (λ (nodes : Nodes FileNode). content_end image nodes tree.payloads) same_nodes ∙ sym other_is
  where
    same_nodes : means.is_file.images ≡ other_means.is_file.images
    same_nodes =
        same_in_some means.is_file.images other_means.is_file.images
        (sym means.is_file.has_images
        ∙ ap image_nodes (one_blob image tree.cpu tree.cpu tree.reservations tree.reservations means.is_file.root other_means.is_file.root
        means.is_file.blob other_means.is_file.blob).same_root
        ∙ other_means.is_file.has_images)

-- So there is one list for an offset,
one_found : OneFileMeaning → (limits : Limits) (input : List ℕ) (offset : ℕ) (one other : List ScannedImage) →
    IsFoundAt limits input offset one → IsFoundAt limits input offset other → one ≡ other
one_found one_meaning limits input offset one other is (WithImage extent meaning other_is same) =
    search (rules, found_of_image, one_extent)
one_found one_meaning limits input offset one other (WithImage extent meaning is same) (WithoutImage nothing other_same) =
    absurd (nothing meaning is.means)
one_found one_meaning limits input offset one other (WithoutImage nothing same) (WithoutImage other_nothing other_same) =
    same ∙ sym other_same

-- and one list of these.
same_found : OneFileMeaning → (limits : Limits) (input offsets : List ℕ) (found others : List (List ScannedImage)) →
    AllZip (IsFoundAt limits input) offsets found → AllZip (IsFoundAt limits input) offsets others → found ≡ others
same_found one_meaning limits input [] [] [] are are_too = refl
same_found one_meaning limits input [] [] (other ∷ others) are are_too = absurd are_too
same_found one_meaning limits input [] (first ∷ found) others are are_too = absurd are
same_found one_meaning limits input (offset ∷ offsets) [] others are are_too = absurd are
same_found one_meaning limits input (offset ∷ offsets) (first ∷ found) [] are are_too = absurd are_too
same_found one_meaning limits input (offset ∷ offsets) (first ∷ found) (other ∷ others) are are_too =
    ap₂ (λ (first : List ScannedImage) (later : List (List ScannedImage)). first ∷ later)
    (one_found one_meaning limits input offset first other are.0 are_too.0)
    (same_found one_meaning limits input offsets found others are.1 are_too.1)

-- So two scans find the same.
pub same_images : OneFileMeaning → (format : Format) (limits : Limits) (input one other : List ℕ) (is : IsScanText format limits input one)
    (other_is : IsScanText format limits input other) → is.has.found ≡ other_is.has.found
same_images one_meaning format limits input one other is other_is =
    same_found one_meaning limits input (input_offsets input) is.has.found other_is.has.found is.has.are_found other_is.has.are_found

pub one_scan : OneFileMeaning → OneScan
one_scan one_meaning format limits input one other is other_is =
    is.has.is_text ∙ ap (λ found. scan_text format (all_found found)) (same_images one_meaning format limits input one other is other_is)
    ∙ sym other_is.has.is_text
