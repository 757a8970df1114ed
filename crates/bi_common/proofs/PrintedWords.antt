use Rattle.std.proofs.Common.{◌≡◌, ℕ, ◌<◌, ◌^◌, ◌==◌, not, Bool, true, false, cond, List, [], ◌∷◌, ◌++◌, flat_map, map, codes, bytes_eq}
use Rattle.std.proofs.Common.{Option, None, Some, refl, subst, ap, sym, ◌∙◌, arith}
use Rattle.std.specs.Prelude.{⊤, IsAscii, IsUtf8}
use Rattle.std.specs.List.{AllByRecursion, join_with_byte, list_all}
use Rattle.std.proofs.lemmas.Bool.{and_parts}
use Rattle.std.proofs.lemmas.Str.{IsUtf8-from_ascii}
use Rattle.bi_base.specs.Cells.{cell, cell8, AreBytes}
use Rattle.bi_base.specs.Commands.{Appended}
use Rattle.bi_base.specs.VecSinks.{Grows}
use Rattle.bi_base.proofs.ByteLists.{AreBytes-cell, AreBytes-cell8}
use Rattle.bi_base.proofs.ListMembers.{each-append}
use Rattle.bi_blob.specs.Blob.{Reservation}
use Rattle.bi_fit.specs.Judgement.{listed_names}
use Rattle.bi_legacy.specs.Codes.{CodeName, os_names, arch_names, type_names, compression_names, name_of_code}
use Rattle.bi_legacy.specs.Meaning.{LegacyImage, FitsFields}
use Rattle.bi_common.specs.CommonLines.{header_lines, header_members, named_code, named_field, reservation_line, reservation_object}
use Rattle.bi_common.specs.Json.{HasNumbers, HaveNumbers, Member, MembersHaveNumbers, json_members, json_values}
use Rattle.bi_common.specs.Lines.{CanPrint, Line, Field, line_text, text_of_lines, field_texts}
use Rattle.bi_common.specs.Lines.{Text, Name, Decimal, Hexadecimal, Hexadecimal64, Digits, Path, Value}
use Rattle.bi_common.specs.Shown.{Words, digits_of_byte, is_plain, path, shown_byte, shown_text}
use Rattle.bi_common.specs.ValueTexts.{are_quotable_texts, escaped_byte, hexadecimal_digits, is_printable, is_quotable, needs_backslash}
use Rattle.bi_common.specs.ValueTexts.{quoted_text, value_words}
use Rattle.bi_common.proofs.PrintedTexts.{ArePrinted, HasAscii, decimal_printed, digits_printed, is_ascii, known_printed, printed-append}
use Rattle.bi_common.proofs.PrintedTexts.{plain_printed, printed-bytes, printed_before}

-- Lines are ASCII if their words can be printed, as those of headers and memory reservations can.

abbrev pub CanPrintLine : Line → Type 0
CanPrintLine words = AllByRecursion CanPrint words

abbrev pub CanPrintLines : List Line → Type 0
CanPrintLines lines = AllByRecursion CanPrintLine lines

-- ---- names, digits and paths

name_byte : (byte : ℕ) → byte < 256 → ArePrinted (shown_byte byte)
name_byte byte small = by (is_plain byte) refl
  where
    by : (b : Bool) → is_plain byte ≡ b → ArePrinted (cond b (byte ∷ []) (37 ∷ digits_of_byte true byte))
    by false is = ((omega arith, omega arith), digits_printed true byte small)
    by true is = (plain_printed byte is, tt)

pub name_printed : (name : List ℕ) → AreBytes name → ArePrinted (shown_text name)
name_printed name are = by (bytes_eq name []) (bytes_eq name (codes "-"))
  where
    by : (a b : Bool) → ArePrinted (cond a (codes "-") (cond b (codes "%2D") (flat_map shown_byte name)))
    by true b = known_printed (codes "-") refl
    by false true = known_printed (codes "%2D") refl
    by false false = printed-bytes shown_byte name_byte name are

pub digits_of_bytes : (bytes : List ℕ) → AreBytes bytes → ArePrinted (hexadecimal_digits bytes)
digits_of_bytes bytes are = printed-bytes (digits_of_byte false) (digits_printed false) bytes are

prefixed : (bytes : List ℕ) → AreBytes bytes → ArePrinted (codes "0x" ++ hexadecimal_digits bytes)
prefixed bytes are = printed-append (codes "0x") (hexadecimal_digits bytes) (known_printed (codes "0x") refl) (digits_of_bytes bytes are)

steps : (names : List (List ℕ)) → AllByRecursion AreBytes names → ArePrinted (flat_map (λ other. 47 ∷ shown_text other) names)
steps [] are = tt
steps (name ∷ names) are =
    printed-append (47 ∷ shown_text name) _ ((omega arith, omega arith), name_printed name are.0) (steps names are.1)

path_printed : (names : List (List ℕ)) → AllByRecursion AreBytes names → ArePrinted (path names)
path_printed [] are = known_printed (codes "/") refl
path_printed (name ∷ names) are = steps (name ∷ names) are

-- ---- values

escaped_printed : (byte : ℕ) → is_printable byte ≡ true → ArePrinted (escaped_byte byte)
escaped_printed byte is = by (needs_backslash byte)
  where
    own : ArePrinted (byte ∷ [])
    own = known_printed (byte ∷ []) (rw is refl)

    by : (b : Bool) → ArePrinted (cond b (92 ∷ byte ∷ []) (byte ∷ []))
    by true = ((omega arith, omega arith), own)
    by false = own

escaped_bytes : (text : List ℕ) → list_all is_printable text ≡ true → ArePrinted (flat_map escaped_byte text)
escaped_bytes [] are = tt
escaped_bytes (byte ∷ later) are =
    let first = and_parts (is_printable byte) (list_all is_printable later) are in
    printed-append (escaped_byte byte) (flat_map escaped_byte later) (escaped_printed byte first.0) (escaped_bytes later first.1)

all_in_quotes : (texts : List (List ℕ)) → list_all is_quotable texts ≡ true → AllByRecursion ArePrinted (map quoted_text texts)
all_in_quotes [] are = tt
all_in_quotes (text ∷ later) are =
    let first = and_parts (is_quotable text) (list_all is_quotable later) are in
    let own = and_parts (not (bytes_eq text [])) (list_all is_printable text) first.0 in (
      (
        (omega arith, omega arith),
        printed-append (flat_map escaped_byte text) (34 ∷ []) (escaped_bytes text own.1)
            ((omega arith, omega arith), tt),
      ),
      all_in_quotes later first.1,
    )

value_printed : (value : List ℕ) → AreBytes value → AllByRecursion ArePrinted (value_words value)
value_printed value bytes = by (bytes_eq value []) (are_quotable_texts value) refl
  where
    by : (a b : Bool) → are_quotable_texts value ≡ b →
        AllByRecursion ArePrinted
        (cond a [] (cond b (map quoted_text (listed_names value)) ((codes "0x" ++ hexadecimal_digits value) ∷ [])))
    by true b is = tt
    by false true is = all_in_quotes (listed_names value) (and_parts _ (list_all is_quotable (listed_names value)) is).1
    by false false is = (prefixed value bytes, tt)

-- ---- lines

word_printed : (word : Field) → CanPrint word → AllByRecursion ArePrinted (field_texts word)
word_printed (Text text) can = (known_printed text can, tt)
word_printed (Name name) can = (name_printed name can, tt)
word_printed (Decimal number) can = (decimal_printed number, tt)
word_printed (Hexadecimal number) can = (prefixed (cell number) (AreBytes-cell number), tt)
word_printed (Hexadecimal64 number) can = (prefixed (cell8 number) (AreBytes-cell8 number), tt)
word_printed (Digits bytes) can = (digits_of_bytes bytes can, tt)
word_printed (Path names) can = (path_printed names can, tt)
word_printed (Value value) can = value_printed value can

words_printed : (words : Line) → CanPrintLine words → AllByRecursion ArePrinted (flat_map field_texts words)
words_printed [] can = tt
words_printed (word ∷ words) can =
    each-append ArePrinted (field_texts word) (flat_map field_texts words) (word_printed word can.0) (words_printed words can.1)

joined_printed : (words : Words) → AllByRecursion ArePrinted words → ArePrinted (join_with_byte 32 words)
joined_printed [] are = tt
joined_printed (word ∷ []) are = are.0
joined_printed (word ∷ next ∷ later) are =
    printed-append word (32 ∷ join_with_byte 32 (next ∷ later)) are.0 ((omega arith, omega arith), joined_printed (next ∷ later) are.1)

line_ascii : (words : Line) → CanPrintLine words → HasAscii (line_text words)
line_ascii words can =
    printed_before (join_with_byte 32 (flat_map field_texts words)) (10 ∷ []) (joined_printed _ (words_printed words can)) (omega arith, tt)

pub lines_have_ascii : (lines : List Line) → CanPrintLines lines → HasAscii (text_of_lines lines)
lines_have_ascii [] can = tt
lines_have_ascii (words ∷ lines) can =
    each-append (λ byte. byte < 128) (line_text words) (text_of_lines lines) (line_ascii words can.0) (lines_have_ascii lines can.1)

-- The text of lines is ASCII.
pub line_texts_are_ascii : (lines : List Line) → CanPrintLines lines → IsAscii (text_of_lines lines)
line_texts_are_ascii lines can = is_ascii (text_of_lines lines) (lines_have_ascii lines can)

-- What is appended to no bytes is UTF-8 if it is ASCII.
pub appended_utf8 : (IsText : List ℕ → Type 0) (old new bytes : List ℕ) → ((text : List ℕ) → IsText text → IsAscii text) →
    Appended Grows IsText old new → old ≡ [] → bytes ≡ new → IsUtf8 bytes
appended_utf8 IsText old new bytes each is empty same =
    let whole : bytes ≡ is.text = same ∙ is.appended ∙ ap (λ bytes. bytes ++ is.text) empty in
    IsUtf8-from_ascii bytes (subst IsAscii (sym whole) (each is.text is.is_text))

-- ---- headers and reservations

abbrev HasPrintableNames : List CodeName → Type 0
HasPrintableNames names = list_all (λ (name : CodeName). list_all is_printable name.name) names ≡ true

code_can : (names : List CodeName) → HasPrintableNames names → (code : ℕ) → CanPrint (named_field (name_of_code names code) code)
code_can [] are code = tt
code_can (entry ∷ later) are code = by (entry.code == code) (code_can later first.1 code)
  where
    first : (list_all is_printable entry.name ≡ true) × HasPrintableNames later
    first = and_parts (list_all is_printable entry.name) (list_all (λ (name : CodeName). list_all is_printable name.name) later) are

    by : (b : Bool) → CanPrint (named_field (name_of_code later code) code) →
        CanPrint (named_field (cond b (Some entry.name) (name_of_code later code)) code)
    by true rest = first.0
    by false rest = rest

pub header_can : (image : LegacyImage) → AreBytes image.name → (later : List Line) → CanPrintLines later →
    CanPrintLines (header_lines image ++ later)
header_can image bytes later can = (
  (refl, (refl, tt)),
  (
    (refl, (bytes, tt)),
    (
      (refl, (tt, tt)),
      (
        (refl, (tt, tt)),
        (
          (refl, (tt, tt)),
          (
            (refl, (code_can os_names refl image.os, tt)),
            (
              (refl, (code_can arch_names refl image.arch, tt)),
              (
                (refl, (code_can type_names refl image.image_type, tt)),
                ((refl, (code_can compression_names refl image.compression, tt)), can),
              ),
            ),
          ),
        ),
      ),
    ),
  ),
)

pub reservations_can : (reservations : List Reservation) (later : List Line) → CanPrintLines later →
    CanPrintLines (map reservation_line reservations ++ later)
reservations_can [] later can = can
reservations_can (reservation ∷ more) later can = ((refl, (tt, (tt, tt))), reservations_can more later can)

-- ---- numbers in JSON

code_numbers : (name : Option (List ℕ)) (code : ℕ) → code < 2 ^ 8 → HasNumbers (named_code name code)
code_numbers None code small = omega (arith, small)
code_numbers (Some name) code small = tt

pub header_numbers : (image : LegacyImage) → FitsFields image → (later : List Member) → MembersHaveNumbers (json_members later) →
    MembersHaveNumbers (json_members (header_members image ++ later))
header_numbers image fits later have = (
  tt,
  (
    tt,
    (
      omega (arith, fits.time),
      (
        omega (arith, fits.load),
        (
          omega (arith, fits.entry),
          (
            code_numbers (name_of_code os_names image.os) image.os fits.os,
            (
              code_numbers (name_of_code arch_names image.arch) image.arch fits.arch,
              (
                code_numbers (name_of_code type_names image.image_type) image.image_type fits.image_type,
                (code_numbers (name_of_code compression_names image.compression) image.compression fits.compression, have),
              ),
            ),
          ),
        ),
      ),
    ),
  ),
)

pub reservation_numbers : (reservations : List Reservation) → HaveNumbers (json_values (map reservation_object reservations))
reservation_numbers [] = tt
reservation_numbers (reservation ∷ later) = ((tt, (tt, tt)), reservation_numbers later)
