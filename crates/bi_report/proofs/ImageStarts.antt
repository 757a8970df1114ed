use Rattle.std.proofs.Common.{◌≡◌, ◌≢◌, ℕ, ◌+◌, ◌-◌, ◌<◌, ◌≤◌, ◌^◌, min, List, Some, None, length, drop, inl, inr, rules}
use Rattle.std.proofs.Common.{refl, sym, ap, ◌∙◌, arith}
use Rattle.std.specs.Int.{from_be_bytes, w32}
use Rattle.std.specs.Prelude.{slice_index}
use Rattle.std.proofs.lemmas.Bool.{cases_lt}
use Rattle.std.proofs.lemmas.List.{ext_get_or, length-drop}
use Rattle.std.proofs.lemmas.Nat.{from_be_bytes-to_be_bytes_4}
use Rattle.bi_base.specs.Cells.{AreBytes, cell, slice, u32_at}
use Rattle.bi_base.proofs.CellLaws.{cell-u32_at, get_or-slice, length-cell, length-slice}
use Rattle.bi_norm.specs.declared.kind.Kind.{Kind}
use Rattle.bi_norm.specs.Kinds.{BeginsAs, magic_of}
use Rattle.bi_common.specs.Offsets.{input_from}
use Rattle.bi_report.specs.ImageStarts.{AreNextMagics, HasMagic, ImageStartsModel, IsNextMagic}
use Rattle.memchr.specs.Find.{FindsNeedle, OccursAt}

-- What a search for the bytes of a magic number finds.

-- The bytes of a magic number that is at an offset of a file occur there, in the part of the file that is searched.
magic_occurs : (file : List ℕ) (magic from last offset : ℕ) → AreBytes file → last ≤ length file → from ≤ offset → offset + 4 ≤ last →
    u32_at (drop offset file) 0 ≡ magic → OccursAt (slice file from (last - from)) (cell magic) (offset - from)
unfolding u32_at
magic_occurs file magic from last offset bytes within after before is = record {
  fits = omega (arith, length-cell magic, length-slice file from (last - from) (omega (arith, within, after, before)), after, before);
  reads = λ j below.
      let short : j < 4 = omega (arith, below, length-cell magic) in
      let same : from + (offset - from + j) ≡ offset + j = omega (arith, after) in
      get_or-slice file from (last - from) (offset - from + j) (omega (arith, short, after, before))
      ∙ ap (slice_index file) same
      ∙ sym (get_or-slice file offset 4 j short)
      ∙ ap (λ (bytes : List ℕ). slice_index bytes j) (sym (cell-u32_at file offset bytes (omega (arith, within, before))) ∙ ap cell is);
}

-- A magic number is at an offset of a file if its bytes occur there.
occurs_magic : (file : List ℕ) (magic from last place : ℕ) → magic < 2 ^ 32 → last ≤ length file → from ≤ last →
    OccursAt (slice file from (last - from)) (cell magic) place → HasMagic file magic (from + place)
unfolding u32_at cell
occurs_magic file magic from last place fits within order occurs =
    let before : from + place + 4 ≤ last =
    omega (arith, order, occurs.fits, length-cell magic, length-slice file from (last - from) (omega (arith, within, order))) in
    let length_is : length (slice file (from + place) 4) ≡ length (cell magic) =
    length-slice file (from + place) 4 (omega (arith, within, before)) ∙ sym (length-cell magic) in
    let same : slice file (from + place) 4 ≡ cell magic =
    ext_get_or 0 (slice file (from + place) 4) (cell magic) length_is
    (λ j below. let short : j < 4 = omega (arith, below, length_is, length-cell magic) in
    get_or-slice file (from + place) 4 j short
    ∙ ap (slice_index file) (let same : from + place + j ≡ from + (place + j) = omega arith in same)
    ∙ sym (get_or-slice file from (last - from) (place + j) (omega (arith, short, before, order)))
    ∙ occurs.reads j (omega (arith, short, length-cell magic))) in
    (omega (arith, within, before, length-drop (from + place) file), ap (from_be_bytes w32) same ∙ from_be_bytes-to_be_bytes_4 magic fits)

-- So the next magic number is at the first place that is found.
pub found_is_next : (file : List ℕ) (magic from end last place : ℕ) → AreBytes file → magic < 2 ^ 32 → last ≤ length file → from ≤ last →
    last ≤ end + 3 → FindsNeedle (slice file from (last - from)) (cell magic) 0 (Some place) →
    IsNextMagic file magic from end (from + place)
found_is_next file magic from end last place bytes fits within order ends finds = record {
  is_left = omega arith;
  within = omega (arith, before, ends);
  none_before = λ offset after earlier has.
      finds.0.before (offset - from) (omega arith) (omega (arith, after, earlier))
      (magic_occurs file magic from last offset bytes within after (omega (arith, earlier, before)) has.1);
  is_found = inr (occurs_magic file magic from last place fits within order finds.1);
}
  where
    before : from + place + 4 ≤ last
    before = omega (arith, order, finds.1.fits, length-cell magic, length-slice file from (last - from) (omega (arith, within, order)))

-- There is none if none is found.
pub end_is_next : (file : List ℕ) (magic from end last : ℕ) → AreBytes file → last ≤ length file → from ≤ end →
    ((offset : ℕ) → offset < end → offset + 4 ≤ length file → offset + 4 ≤ last) →
    FindsNeedle (slice file from (last - from)) (cell magic) 0 None → IsNextMagic file magic from end end
end_is_next file magic from end last bytes within order all finds = record {
  is_left = order;
  within = omega arith;
  none_before = λ offset after earlier has.
      let before : offset + 4 ≤ last = all offset earlier (omega (arith, has.0, length-drop offset file)) in
      let found = magic_occurs file magic from last offset bytes within after before has.1 in
      finds (offset - from) (omega arith) (omega (arith, found.fits)) found;
  is_found = inl refl;
}

-- An image of a kind begins at the next magic number, if this is not the end.
begins_at_magic : (input : List ℕ) (found : Kind) (from end magic offset : ℕ) → IsNextMagic input (magic_of found) from end magic →
    offset ≡ magic → offset ≢ end → BeginsAs (input_from offset input) found
begins_at_magic input found from end magic offset next is more = search rules

-- So one begins at the first of the next magic numbers of both kinds.
pub begins_at_first : (left : ImageStartsModel) (legacy blob offset : ℕ) → AreNextMagics left legacy blob → offset ≡ min legacy blob →
    offset ≢ left.end → (found : Kind) × BeginsAs (input_from offset left.input) found
begins_at_first left legacy blob offset next is more = search (rules, cases_lt blob legacy, begins_at_magic)
