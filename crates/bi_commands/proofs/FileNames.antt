use Rattle.std.proofs.Common.{◌≡◌, ◌≢◌, ℕ, suc, ◌+◌, ◌%◌, ◌<◌, ◌≤◌, ◌^◌, Bool, true, false, cond, List, [], ◌∷◌, ◌++◌, rules}
use Rattle.std.proofs.Common.{length, map, refl, sym, ap, subst, ◌∙◌, arith, codes, true≢false}
use Rattle.std.proofs.lemmas.Bool.{eqb-true, eqb-false, and_parts, leb-true}
use Rattle.std.proofs.lemmas.Fmt.{decimal_injective}
use Rattle.std.proofs.lemmas.List.{append_cancel_left}
use Rattle.std.specs.Fmt.{decimal, digit_glyph}
use Rattle.std.specs.List.{AllByRecursion, flat_map}
use Rattle.bi_base.specs.Cells.{AreBytes}
use Rattle.bi_base.proofs.ListMembers.{each-append}
use Rattle.bi_blob.specs.Tree.{IsNew}
use Rattle.bi_common.specs.Shown.{digits_of_byte, is_plain, shown_byte, shown_text}
use Rattle.bi_common.proofs.ReadableWords.Cuts.{HasNoEnd, first_same, later_same}
use Rattle.bi_common.proofs.ReadableWords.Numbers.{IsAbove, AreDigits, decimal_above, decimal_below}
use Rattle.bi_common.proofs.ReadableWords.ShownNames.{ShownName, Nothing, Dash, Others, ways, is_slash}
use Rattle.bi_common.proofs.ReadableWords.ShownNames.{plain_no_percent, read_digits}
use Rattle.bi_common.proofs.ReadableWords.ShownNames.{same_shown, shown_no_slash, some_shown}
use Rattle.bi_common.proofs.UnshownNames.{glyph_is_digit}
use Rattle.bi_commands.specs.ExtractingAll.{PayloadFile, IsSafeFileName, AreSafeFileNames, image_file_name, part_file_name, part_files}
use Rattle.bi_commands.specs.ExtractingAll.{without_first_dot}

-- Each payload has a safe name of a file. No two payloads have the same name.

-- Each byte of a name of a file is graphic and is not a slash.
abbrev IsGraphic : ℕ → Type 0
IsGraphic byte = (0x21 ≤ byte) × (byte ≤ 0x7e)

-- ---- parts

-- Digits are graphic.
digits_graphic : (word : List ℕ) → IsAbove word → AreDigits word → AllByRecursion IsGraphic word
digits_graphic [] above below = tt
digits_graphic (byte ∷ later) above below = search (rules, digits_graphic later above.1 below.1)

-- No digit is a slash.
digits_no_slash : (word : List ℕ) → IsAbove word → AllByRecursion (λ byte. byte ≢ 47) word
digits_no_slash [] above = tt
digits_no_slash (byte ∷ later) above = (λ is. let high = above.0 in omega (arith, high, is), digits_no_slash later above.1)

-- The name of the file of a part is safe.
pub safe_part_name : (index : ℕ) → IsSafeFileName (part_file_name index)
safe_part_name index = record {
  some = λ is. absurd cc;
  graphic = each-append IsGraphic (codes "part-") (decimal index) graphic
      (digits_graphic (decimal index) (decimal_above index) (decimal_below index));
  no_slash = each-append (λ byte. byte ≢ 47) (codes "part-") (decimal index) no_slash
      (digits_no_slash (decimal index) (decimal_above index));
  no_first_dot = λ later is. let first : 112 ≡ 46 = first_same is in omega (arith, first);
}
  where
    graphic : AllByRecursion IsGraphic (codes "part-")
    graphic = (
      (omega arith, omega arith),
      (
        (omega arith, omega arith),
        (
          (omega arith, omega arith),
          ((omega arith, omega arith), ((omega arith, omega arith), tt)),
        ),
      ),
    )

    no_slash : AllByRecursion (λ byte. byte ≢ 47) (codes "part-")
    no_slash = (
      λ is. omega (arith, is),
      (
        λ is. omega (arith, is),
        (
          λ is. omega (arith, is),
          (λ is. omega (arith, is), (λ is. omega (arith, is), tt)),
        ),
      ),
    )

-- If two parts have the same name of a file, they have the same index.
same_part : (one other : ℕ) → one < 2 ^ 64 → other < 2 ^ 64 → part_file_name one ≡ part_file_name other → one ≡ other
same_part one other fits also same =
    decimal_injective one other fits also (append_cancel_left (codes "part-") (decimal one) (decimal other) same)

-- These are the names of files.
abbrev pub names_of_files : List PayloadFile → List (List ℕ)
names_of_files files = map (λ (file : PayloadFile). file.name) files

-- The names of the later parts are not the name of this part.
new_part : (index start : ℕ) (parts : List (List ℕ)) → index < start → start + length parts ≤ 2 ^ 64 →
    IsNew (part_file_name index) (names_of_files (part_files start parts))
new_part index start [] below fits = tt
new_part index start (part ∷ later) below fits = search (rules, same_part, new_part index (start + 1) later (omega arith) (omega arith))

-- The files of parts have safe names, and no two of them have the same name.
pub safe_part_names : (start : ℕ) (parts : List (List ℕ)) → start + length parts ≤ 2 ^ 64 →
    AreSafeFileNames (names_of_files (part_files start parts))
safe_part_names start [] fits = record { each = tt; distinct = tt }
safe_part_names start (part ∷ later) fits =
    let rest = safe_part_names (start + 1) later (omega arith) in
    record {
      each = (safe_part_name start, rest.each);
      distinct = (new_part start (start + 1) later (omega arith) (omega arith), rest.distinct);
    }

-- ---- images

-- The digit of a number below 16 is an ASCII byte.
glyph_graphic : (number : ℕ) → number < 16 → IsGraphic (digit_glyph true number)
glyph_graphic number small = search (rules, glyph_is_digit)

-- A byte is printed as graphic bytes.
shown_byte_graphic : (byte : ℕ) → byte < 256 → AllByRecursion IsGraphic (shown_byte byte)
shown_byte_graphic byte small = search (rules, and_parts, leb-true, glyph_graphic)

-- Bytes are printed as graphic bytes.
shown_bytes_graphic : (bytes : List ℕ) → AllByRecursion (λ byte. byte < 256) bytes → AllByRecursion IsGraphic (flat_map shown_byte bytes)
shown_bytes_graphic [] are = tt
shown_bytes_graphic (byte ∷ later) are =
    each-append IsGraphic (shown_byte byte) (flat_map shown_byte later) (shown_byte_graphic byte are.0) (shown_bytes_graphic later are.1)

-- A list of bytes is printed byte by byte.
each_byte : (bytes : List ℕ) → AreBytes bytes → AllByRecursion (λ byte. byte < 256) bytes
each_byte [] are = tt
each_byte (byte ∷ later) are = (are.each 0, each_byte later (record { each = λ i. are.each (suc i) }))

-- A name as it is printed is graphic.
shown_graphic : (name : List ℕ) → AreBytes name → AllByRecursion IsGraphic (shown_text name)
shown_graphic name are = search (rules, ways, shown_bytes_graphic, each_byte)

-- If each byte of a text and of `%2E` has a property, each byte of the text without a first dot has it.
kept_without_dot : (P : ℕ → Type 0) → AllByRecursion P (codes "%2E") → (text : List ℕ) → AllByRecursion P text →
    AllByRecursion P (without_first_dot text)
kept_without_dot P escape [] each = tt
kept_without_dot P escape (byte ∷ later) each = search (rules, each-append)

-- A text without a first dot is not empty if the text is not.
some_without_dot : (text : List ℕ) → text ≢ [] → without_first_dot text ≢ []
some_without_dot [] some is = some refl
some_without_dot (byte ∷ later) some is = search rules

-- A text without a first dot does not begin with a dot.
no_first_dot : (text rest : List ℕ) → without_first_dot text ≢ 46 ∷ rest
no_first_dot [] rest is = absurd cc
no_first_dot (byte ∷ later) rest is = search (rules, first_same, eqb-false)

-- If a name has no slash, its printed form has none.
no_slash_shown : (text : List ℕ) → HasNoEnd is_slash text → AllByRecursion (λ byte. byte ≢ 47) text
no_slash_shown [] none = tt
no_slash_shown (byte ∷ later) none = (eqb-false byte 47 none.0, no_slash_shown later none.1)

-- The name of the file of an image is safe.
pub safe_image_name : (name : List ℕ) → AreBytes name → AllByRecursion (λ byte. byte ≢ 47) name → IsSafeFileName (image_file_name name)
safe_image_name name are others = record {
  some = some_without_dot (shown_text name) (some_shown name);
  graphic = kept_without_dot IsGraphic ((omega arith, omega arith), ((omega arith, omega arith), ((omega arith, omega arith), tt)))
      (shown_text name) (shown_graphic name are);
  no_slash = kept_without_dot (λ byte. byte ≢ 47) (λ is. omega (arith, is), (λ is. omega (arith, is), (λ is. omega (arith, is), tt)))
      (shown_text name) (no_slash_shown (shown_text name) (shown_no_slash name others));
  no_first_dot = no_first_dot (shown_text name);
}

-- No name is printed as a text that begins with `%2E`.
no_escaped_dot : (name rest : List ℕ) → shown_text name ≡ codes "%2E" ++ rest → ⊥
no_escaped_dot name rest same = where_way (ways name)
  where
    of_bytes : (bytes : List ℕ) → flat_map shown_byte bytes ≡ codes "%2E" ++ rest → ⊥
    of_bytes [] same = absurd cc
    of_bytes (byte ∷ later) same = where_test (is_plain byte) refl same
      where
        where_test : (p : Bool) → is_plain byte ≡ p → shown_byte byte ++ flat_map shown_byte later ≡ codes "%2E" ++ rest → ⊥
        where_test true plain same =
            let text : cond true (byte ∷ []) (37 ∷ digits_of_byte true byte) ++ flat_map shown_byte later ≡ codes "%2E" ++ rest
            = subst (λ r. cond r (byte ∷ []) (37 ∷ digits_of_byte true byte) ++ flat_map shown_byte later ≡ codes "%2E" ++ rest)
            plain same in
            plain_no_percent byte plain (first_same text)
        where_test false plain same =
            let text : 37 ∷ (digits_of_byte true byte ++ flat_map shown_byte later) ≡ 37 ∷ (digits_of_byte true 46 ++ rest)
            = subst (λ r. cond r (byte ∷ []) (37 ∷ digits_of_byte true byte) ++ flat_map shown_byte later ≡ codes "%2E" ++ rest)
            plain same in
            let is_dot : byte ≡ 46 = (read_digits true byte 46 (flat_map shown_byte later) rest (later_same text)).0 in
            true≢false (ap is_plain (sym is_dot) ∙ plain)

    where_way : ShownName name → ⊥
    where_way (Nothing is text) = let e : codes "-" ≡ codes "%2E" ++ rest = sym text ∙ same in absurd cc
    where_way (Dash is text) =
        let e : codes "%2D" ≡ codes "%2E" ++ rest = sym text ∙ same in
        let third : 68 ≡ 69 = first_same (later_same (later_same e)) in
        omega (arith, third)
    where_way (Others some other text) = of_bytes name (sym text ∙ same)

-- This text does not begin with `%2E`.
abbrev HasNoEscapedDot : List ℕ → Type 0
HasNoEscapedDot text = (rest : List ℕ) → text ≡ codes "%2E" ++ rest → ⊥

-- If two such texts are equal without a first dot, they are equal.
same_without_dot : (one other : List ℕ) → HasNoEscapedDot one → HasNoEscapedDot other →
    without_first_dot one ≡ without_first_dot other → one ≡ other
same_without_dot [] [] free also same = refl
same_without_dot [] (b ∷ other) free also same = absurd (some_without_dot (b ∷ other) (λ is. absurd cc) (sym same))
same_without_dot (a ∷ one) [] free also same = absurd (some_without_dot (a ∷ one) (λ is. absurd cc) same)
same_without_dot (a ∷ one) (b ∷ other) free also same = search (rules, eqb-true, append_cancel_left)

-- If two images have the same name of a file, they have the same name.
pub same_image_file : (one other : List ℕ) → image_file_name one ≡ image_file_name other → one ≡ other
same_image_file one other same =
    same_shown one other (same_without_dot (shown_text one) (shown_text other) (no_escaped_dot one) (no_escaped_dot other) same)
