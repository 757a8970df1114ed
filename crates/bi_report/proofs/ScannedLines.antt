use Rattle.std.proofs.Common.{◌≡◌, ◌≢◌, ◌↔◌, ℕ, zero, suc, ◌+◌, ◌-◌, ◌<◌, ◌≤◌, ◌||◌, Bool, true, false, Option, Some, Result, Ok, Err}
use Rattle.std.proofs.Common.{IfErr, IfOk, IsTrue, is_err, List, [], ◌∷◌, ◌++◌, length, map, refl, sym, ap, ap₂, subst, subst₂, ◌∙◌}
use Rattle.std.proofs.Common.{append-nil, arith, rules, true≢false}
use Rattle.std.proofs.Math.Bool.{or-false}
use Rattle.std.specs.Prelude.{IsAscii}
use Rattle.std.specs.List.{AllZip}
use Rattle.std.proofs.lemmas.Grind.{flat_map-append}
use Rattle.std.proofs.lemmas.List.{map-append}
use Rattle.bi_base.specs.declared.fault.Fault.{Fault}
use Rattle.bi_base.specs.Cells.{u32_at}
use Rattle.bi_base.specs.Limits.{Limits}
use Rattle.bi_base.specs.MemoryPens.{MemoryPuts}
use Rattle.bi_base.proofs.ListMembers.{each-append}
use Rattle.bi_blob.proofs.Blobs.Headers.{Header-HasNoHeaderFault}
use Rattle.bi_fit.specs.Content.{FitModel, tree_of}
use Rattle.bi_fit.specs.Reading.{IsReadFit}
use Rattle.bi_fit.proofs.Meanings.{begins_with_magic}
use Rattle.bi_legacy.specs.Reading.{LegacyModel, IsReadLegacy}
use Rattle.bi_legacy.proofs.ImageOfFile.{image_of_file}
use Rattle.bi_norm.specs.declared.kind.Kind.{Kind}
use Rattle.bi_norm.specs.declared.kind.Kind.TheVariants as kind
use Rattle.bi_norm.specs.Kinds.{BeginsAs, IsKindFault, TooShort, OfNoKind}
use Rattle.bi_norm.specs.Meaning.{Meaning, OfLegacy, OfFit, Means, MeansNothing}
use Rattle.bi_norm.specs.declared.image.BootImage.{BootImage}
use Rattle.bi_norm.specs.declared.image.BootImage.TheVariants.{Legacy, Fit}
use Rattle.bi_norm.specs.Reading.{IsReadBootImage}
use Rattle.bi_norm.proofs.FilesWithoutMeaning.{means_legacy}
use Rattle.bi_common.specs.declared.format.Format.{Format}
use Rattle.bi_common.specs.declared.format.Format.TheVariants.{Json, Lines}
use Rattle.bi_common.specs.JsonTokens.{value_tokens}
use Rattle.bi_common.specs.LineTokens.{line_tokens, tokens_of_lines}
use Rattle.bi_common.specs.Offsets.{input_from}
use Rattle.bi_common.specs.Tokens.{PutsInTurn, PutsNothing}
use Rattle.bi_common.proofs.PrintedTexts.{json_lines_are_ascii}
use Rattle.bi_common.proofs.PrintedWords.{CanPrintLine, CanPrintLines, line_texts_are_ascii}
use Rattle.bi_common.proofs.WrittenTokens.{value_tokens-append}
use Rattle.bi_report.specs.ReadChecking.{end_of_read_payloads}
use Rattle.bi_report.specs.ScannedImages.{HasHeaderOf, scanned_image_read}
use Rattle.bi_report.specs.ImageStarts.{HasNoStart, IsNextStart, ImageStartsModel}
use Rattle.bi_report.specs.Scanning.{CanBeScanned, IsFoundAt, IsScanOutput, IsScanText, PutsFirstFound, PutsFoundAt, PutsScanText}
use Rattle.bi_report.specs.Scanning.{ScannedImage, WithImage, WithoutImage, all_found, has_images, input_offsets, scan_line}
use Rattle.bi_report.specs.Scanning.{scan_line_tokens, scan_object, scan_text, scanned_image, scanned_object, scanned_tokens}
use Rattle.bi_report.proofs.CheckedFiles.{content_end_read}
use Rattle.bi_report.proofs.OffsetLists.{next_offset}

-- What was read at an offset of a file is the image that a scan finds there.

-- What means something begins as an image of some kind.
pub means_kind : (limits : Limits) (image : List ℕ) (meaning : Meaning) → Means limits image meaning → (found : Kind) × BeginsAs image found
means_kind limits image (OfLegacy legacy_image) means = (kind.Legacy, means_legacy limits image legacy_image means)
means_kind limits image (OfFit tree) means = search (rules, Header-HasNoHeaderFault, begins_with_magic)

-- So an image of no kind means nothing.
no_kind_means_nothing : (limits : Limits) (image : List ℕ) (fault : Fault) → IsKindFault image fault → MeansNothing limits image
no_kind_means_nothing limits image fault (TooShort short is) meaning means =
    omega (arith, short, (means_kind limits image meaning means).1.whole)
no_kind_means_nothing limits image fault (OfNoKind whole none is) meaning means =
    let begins = means_kind limits image meaning means in none begins.0 begins.1

-- Nothing is found there.
pub no_kind_not_found : (limits : Limits) (input image : List ℕ) (offset : ℕ) (result : Result Kind Fault) →
    image ≡ input_from offset input → is_err result ≡ true → IfErr result (IsKindFault image) → IsFoundAt limits input offset []
no_kind_not_found limits input image offset (Ok found) is err fault = absurd cc
no_kind_not_found limits input image offset (Err fault) is err faulty =
    WithoutImage (subst (MeansNothing limits) is (no_kind_means_nothing limits image fault faulty)) refl

-- What was read at an offset is found there.
legacy_found_at : (limits : Limits) (image input : List ℕ) (offset : ℕ) (parsed : LegacyModel) → image ≡ input_from offset input →
    IsReadLegacy limits image parsed →
    IsFoundAt limits input offset (scanned_image offset (64 + u32_at image 12) (OfLegacy parsed.image) ∷ [])
legacy_found_at limits image input offset parsed is read =
    WithImage (64 + u32_at image 12) (OfLegacy parsed.image)
    (record {
      means = subst (λ (image : List ℕ). Means limits image (OfLegacy parsed.image)) is read.means;
      has_extent = ap (λ (image : List ℕ). 64 + u32_at image 12) is;
    })
    refl

fit_found_at : (limits : Limits) (image input : List ℕ) (offset : ℕ) (content : FitModel) → image ≡ input_from offset input →
    IsReadFit limits image content →
    IsFoundAt limits input offset
    (scanned_image offset (end_of_read_payloads content.blob.total_size content.images) (OfFit (tree_of content)) ∷ [])
fit_found_at limits image input offset content is read =
    let found = subst (λ (image : List ℕ). IsReadFit limits image content) is read in
    WithImage (end_of_read_payloads content.blob.total_size content.images) (OfFit (tree_of content))
    (record { means = found.means; has_extent = (found.means, content_end_read limits (input_from offset input) content found) }) refl

pub read_found_at : (limits : Limits) (image input : List ℕ) (offset : ℕ) (read : BootImage) → image ≡ input_from offset input →
    IsReadBootImage limits image read → IsFoundAt limits input offset (scanned_image_read offset image read ∷ [])
read_found_at limits image input offset (Legacy parsed) is read = legacy_found_at limits image input offset parsed is read
read_found_at limits image input offset (Fit content) is read = fit_found_at limits image input offset content is read

pub scanned_has_header : (limits : Limits) (image : List ℕ) (read : BootImage) → IsReadBootImage limits image read → HasHeaderOf image read
scanned_has_header limits image (Legacy parsed) read = search rules
scanned_has_header limits image (Fit content) read = tt

-- No image means anything that begins at an offset from `from` on and before `end`.
abbrev pub HasNoImage : Limits → (input : List ℕ) → (from end : ℕ) → Type 0
HasNoImage limits input from end = (offset : ℕ) → from ≤ offset → offset < end → MeansNothing limits (input_from offset input)

no_start_no_image : (limits : Limits) (input : List ℕ) (from end : ℕ) → HasNoStart input from end → HasNoImage limits input from end
no_start_no_image limits input from end none offset after before meaning means =
    let begins = means_kind limits (input_from offset input) meaning means in none offset after before begins.0 begins.1

-- Whether there are images among these or those.
has_images-append : (images later : List ScannedImage) → has_images (images ++ later) ≡ has_images images || has_images later
has_images-append [] later = refl
has_images-append (image ∷ images) later = refl

-- There are images among these, or there are none.
pub some_images : (images : List ScannedImage) → IsTrue (has_images images) ↔ (images ≢ [])
some_images [] = (λ no. absurd (true≢false (sym no)), λ some. absurd (some refl))
some_images (image ∷ later) = (λ _ e. absurd cc, λ _. refl)

-- ---- what is put

-- The tokens of images are put by these laws.
pub record IsTokens {T : Type 0} (tokens : List ScannedImage → List T) : Type 0 where
  pub none : tokens [] ≡ []
  pub both : (images later : List ScannedImage) → tokens (images ++ later) ≡ tokens images ++ tokens later

pub lines_are_tokens : IsTokens scan_line_tokens
lines_are_tokens = record {
  none = refl;
  both = λ images later. ap tokens_of_lines (map-append scan_line images later) ∙ flat_map-append line_tokens (map scan_line images) _;
}

pub objects_are_tokens : IsTokens scanned_tokens
objects_are_tokens = record {
  none = refl;
  both = λ images later. ap value_tokens (map-append scanned_object images later) ∙ value_tokens-append (map scanned_object images) _;
}

-- The images before the offsets that are left were put.
pub record HasPutBefore {S T : Type 0} (puts : S → List T → S → Type 0) (tokens : List ScannedImage → List T) (limits : Limits)
    (input : List ℕ) (left : ImageStartsModel) (end : ℕ) (any : Bool) (old new : S) : Type 0
  where
    pub first : PutsFirstFound puts tokens limits input left.from any old new
    pub is_input : left.input ≡ input
    pub is_end : left.end ≡ end
    pub are_left : left.from ≤ left.end

module _ {S T : Type 0} (puts : S → List T → S → Type 0) (nothing : PutsNothing puts) (in_turn : PutsInTurn puts)
    (tokens : List ScannedImage → List T) (are : IsTokens tokens) (limits : Limits) (input : List ℕ) where
  -- Nothing is put for an image that means nothing.
  pub nothing_put : (pen : S) (offset : ℕ) → IsFoundAt limits input offset [] → PutsFoundAt puts tokens limits input offset false pen pen
  nothing_put pen offset is = ([], is, subst (λ tokens. puts pen tokens pen) (sym are.none) (nothing pen), refl)

  -- What is found at one more offset.
  next_put : (old pen new : S) (count : ℕ) (any next : Bool) → PutsFirstFound puts tokens limits input count any old pen →
      PutsFoundAt puts tokens limits input count next pen new → PutsFirstFound puts tokens limits input (count + 1) (any || next) old new
  next_put old pen new count any next (first, found_first, put, is_any) (found, is, later, is_next) =
      let both : all_found (first ++ found ∷ []) ≡ all_found first ++ found =
      flat_map-append (λ (found : List ScannedImage). found) first (found ∷ []) ∙ ap (λ l. all_found first ++ l) (append-nil found) in (
        first ++ found ∷ [],
        next_offset (IsFoundAt limits input) count first found found_first is,
        subst (λ tokens. puts old tokens new) (sym (ap tokens both ∙ are.both (all_found first) found)) (in_turn old pen new _ _ put later),
        ap₂ (λ a b. a || b) is_any is_next ∙ sym (ap has_images both ∙ has_images-append (all_found first) found),
      )

  -- Nothing is found at more offsets.
  more_put : (old new : S) (count more : ℕ) (any : Bool) → PutsFirstFound puts tokens limits input count any old new →
      HasNoImage limits input count (count + more) → PutsFirstFound puts tokens limits input (count + more) any old new
  more_put old new count zero any first none =
      subst (λ (count : ℕ). PutsFirstFound puts tokens limits input count any old new)
      (let same : count ≡ count + zero = omega arith in same)
      first
  more_put old new count (suc more) any first none =
      let one_more = next_put old new new count any false first
      (nothing_put new count (WithoutImage (none count (omega arith) (omega arith)) refl)) in
      subst (λ (count : ℕ). PutsFirstFound puts tokens limits input count any old new)
      (let same : count + 1 + more ≡ count + suc more = omega arith in same)
      (more_put old new (count + 1) more any
      (subst (λ any. PutsFirstFound puts tokens limits input (count + 1) any old new) (or-false any) one_more)
      (λ offset after before. none offset (omega (arith, after)) (omega (arith, before))))

  put_to : (old new : S) (count end : ℕ) (any : Bool) → count ≤ end → PutsFirstFound puts tokens limits input count any old new →
      HasNoImage limits input count end → PutsFirstFound puts tokens limits input end any old new
  put_to old new count end any order first none =
      let same : count + (end - count) ≡ end = omega (arith, order) in
      subst (λ (count : ℕ). PutsFirstFound puts tokens limits input count any old new) same
      (more_put old new count (end - count) any first (λ offset after before. none offset after (omega (arith, before, order))))

  pub before_first : (pen : S) (left : ImageStartsModel) (end : ℕ) → left ≡ record { input = input; from = 0; end = end } →
      HasPutBefore puts tokens limits input left end false pen pen
  before_first pen left end is =
      subst (λ left. HasPutBefore puts tokens limits input left end false pen pen) (sym is)
      (record {
        first = ([], tt, subst (λ tokens. puts pen tokens pen) (sym are.none) (nothing pen), refl);
        is_input = refl;
        is_end = refl;
        are_left = omega arith;
      })

  pub put_at_start : (old pen new : S) (left after : ImageStartsModel) (end offset : ℕ) (any next : Bool) →
      HasPutBefore puts tokens limits input left end any old pen → IsNextStart left offset after →
      PutsFoundAt puts tokens limits input offset next pen new →
      HasPutBefore puts tokens limits input after end (any || next) old new
  put_at_start old pen new left after end offset any next before start put =
      subst (λ (left : ImageStartsModel). HasPutBefore puts tokens limits input left end (any || next) old new) (sym start.is_after)
      (record {
        first = next_put old pen new offset any next
            (put_to old pen left.from offset any start.is_left before.first
            (no_start_no_image limits input left.from offset
            (subst (λ (input : List ℕ). HasNoStart input left.from offset) before.is_input start.no_start)))
            put;
        is_input = before.is_input;
        is_end = before.is_end;
        are_left = omega (arith, start.within);
      })

  -- These are all if no image begins at an offset that is left, and none claims anything after them.
  pub each_is_put : (old new : S) (left : ImageStartsModel) (end : ℕ) (any : Bool) → end ≤ length input →
      HasPutBefore puts tokens limits input left end any old new → HasNoStart left.input left.from left.end →
      HasNoImage limits input end (length input) →
      PutsFirstFound puts tokens limits input (length input) any old new
  each_is_put old new left end any within before none later =
      put_to old new end (length input) any within
      (put_to old new left.from end any (omega (arith, before.are_left, before.is_end)) before.first
      (no_start_no_image limits input left.from end
      (subst₂ (λ input end. HasNoStart input left.from end) before.is_input before.is_end none)))
      later

-- What was put by some tokens was put by others.
pub put_as : {S T P X : Type 0} (puts : S → List T → S → Type 0) (others : P → List X → P → Type 0) (tokens : List ScannedImage → List T)
    (texts : List ScannedImage → List X) (limits : Limits) (input : List ℕ) (count : ℕ) (any : Bool) (old new : S) (begin end : P) →
    ((images : List ScannedImage) → puts old (tokens images) new → others begin (texts images) end) →
    PutsFirstFound puts tokens limits input count any old new → PutsFirstFound others texts limits input count any begin end
put_as puts others tokens texts limits input count any old new begin end also (found, are, put, is) =
    (found, are, also (all_found found) put, is)

-- ---- texts

-- The text that was put to a pen that keeps it in memory is that of a scan.
pub scan_kept : (format : Format) (limits : Limits) (input text : List ℕ) (begin end : Option (List ℕ)) (any : Bool) →
    CanBeScanned limits input → begin ≡ Some [] → end ≡ Some text → PutsScanText MemoryPuts format limits input any begin end →
    IsScanOutput format limits any input text
scan_kept format limits input text begin end any can first kept (found, are, put, is) = record {
  is_scan = record {
    can = can;
    has = record {
      found = found;
      are_found = are;
      is_text = subst₂ (λ begin end. MemoryPuts begin (scan_text format (all_found found)) end) first kept put;
    };
  };
  is_found = subst (λ any. IsTrue any ↔ (all_found found ≢ [])) (sym is) (some_images (all_found found));
}

-- A line can be printed.
line_can : (limits : Limits) (input : List ℕ) (offset : ℕ) (found : List ScannedImage) → IsFoundAt limits input offset found →
    CanPrintLines (map scan_line found)
line_can limits input offset found (WithImage extent (OfLegacy image) is same) =
    subst (λ images. CanPrintLines (map scan_line images)) (sym same)
    ((tt, (refl, (tt, ((image_of_file (input_from offset input) image is.means.is_file).name_bytes, tt)))), tt)
line_can limits input offset found (WithImage extent (OfFit tree) is same) =
    subst (λ images. CanPrintLines (map scan_line images)) (sym same) ((tt, (refl, (tt, (tt, tt)))), tt)
line_can limits input offset found (WithoutImage nothing same) = subst (λ images. CanPrintLines (map scan_line images)) (sym same) tt

lines_can : (limits : Limits) (input offsets : List ℕ) (found : List (List ScannedImage)) → AllZip (IsFoundAt limits input) offsets found →
    CanPrintLines (map scan_line (all_found found))
lines_can limits input [] [] are = tt
lines_can limits input [] (first ∷ later) are = absurd are
lines_can limits input (offset ∷ offsets) [] are = absurd are
lines_can limits input (offset ∷ offsets) (first ∷ later) are =
    subst CanPrintLines (sym (map-append scan_line first (all_found later)))
    (each-append CanPrintLine (map scan_line first) (map scan_line (all_found later)) (line_can limits input offset first are.0)
    (lines_can limits input offsets later are.1))

text_is_ascii : (format : Format) (limits : Limits) (input : List ℕ) (found : List (List ScannedImage)) →
    AllZip (IsFoundAt limits input) (input_offsets input) found → IsAscii (scan_text format (all_found found))
text_is_ascii Lines limits input found are =
    line_texts_are_ascii (map scan_line (all_found found)) (lines_can limits input (input_offsets input) found are)
text_is_ascii Json limits input found are = json_lines_are_ascii (scan_object (all_found found))

-- So the text of a scan is ASCII.
pub scan_is_ascii : (format : Format) (limits : Limits) (input text : List ℕ) → IsScanText format limits input text → IsAscii text
scan_is_ascii format limits input text is =
    subst IsAscii (sym is.has.is_text) (text_is_ascii format limits input is.has.found is.has.are_found)
