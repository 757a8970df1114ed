use Rattle.std.proofs.Common.{◌≡◌, ◌≢◌, ◌⊎◌, ℕ, ◌-◌, ◌≤◌, ◌<◌, Bool, true, false, cond, List, [], ◌∷◌, ◌++◌, length, get_or, rules}
use Rattle.std.proofs.Common.{take, drop, refl, sym, ap₂, subst, append_assoc, ◌∙◌, arith, codes, true≢false, ◌==◌, IfNone}
use Rattle.std.proofs.Common.{IfSome, Option, None, Some}
use Rattle.std.proofs.lemmas.Bool.{cases_lt, eqb-true}
use Rattle.std.proofs.lemmas.List.{take_all}
use Rattle.std.proofs.Math.Seq.{get_or-append_seam}
use Rattle.std.specs.Fmt.{digit_glyph}
use Rattle.std.specs.List.{flat_map}
use Rattle.bi_base.specs.Cells.{AreBytes}
use Rattle.bi_common.specs.Shown.{digits_of_byte, is_plain, shown_byte, shown_text}
use Rattle.bi_common.specs.Unshown.{IsNameShownAs, IsNoShownBytes, IsShownOfNoBytes}
use Rattle.bi_common.proofs.ReadableWords.Cuts.{IsReadBack, nothing_before, first_same, later_same}
use Rattle.bi_common.proofs.ReadableWords.ShownNames.{low_glyph, high_glyph, plain_no_percent, read_shown_byte, same_shown}
use Rattle.bi_common.proofs.ReadableWords.ShownNames.{some_shown_byte}
use Rattle.bi_common.proofs.ReadableWords.ShownNames.{ways}

-- Names are read back from how they are printed.

-- The digit of a number below 16 is a decimal one, or one of the letters from A to F.
pub glyph_is_digit : (number : ℕ) → number < 16 →
    ((47 < digit_glyph true number) × (digit_glyph true number < 58)) ⊎ ((64 < digit_glyph true number) × (digit_glyph true number < 71))
glyph_is_digit number small = search (rules, cases_lt, low_glyph, high_glyph)

-- What follows the codes of some elements of a list is the codes of the others.
pub rest_of_codes : {X : Type 0} (code : X → List ℕ) → IsReadBack code → ((x : X) → code x ≡ [] → ⊥) → (xs ys : List X) (rest : List ℕ) →
    flat_map code xs ++ rest ≡ flat_map code ys → (more : List X) × (ys ≡ xs ++ more) × (rest ≡ flat_map code more)
rest_of_codes code reads some [] ys rest same = (ys, refl, same)
rest_of_codes code reads some (x ∷ xs) [] rest same =
    absurd (some x (nothing_before (code x) (flat_map code xs ++ rest) (sym (append_assoc (code x) (flat_map code xs) rest) ∙ same)))
rest_of_codes code reads some (x ∷ xs) (y ∷ ys) rest same =
    let first = reads x y (flat_map code xs ++ rest) (flat_map code ys) (sym (append_assoc (code x) (flat_map code xs) rest) ∙ same) in
    let later = rest_of_codes code reads some xs ys rest first.1 in
    let head : x ≡ y = first.0 in
    let tail : ys ≡ xs ++ later.0 = later.1 in
    (later.0, cc, later.2)

-- Bytes that follow other bytes are bytes.
byte_after : (xs ys : List ℕ) (byte : ℕ) → AreBytes (xs ++ byte ∷ ys) → byte < 256
byte_after xs ys byte are = let e = get_or-append_seam xs byte ys 0 in omega (arith, e, are.each (length xs))

-- A text that begins with some bytes as they are printed, and goes on otherwise, is not how bytes are printed.
pub no_more_bytes : (text name rest : List ℕ) → flat_map shown_byte name ++ rest ≡ text → rest ≢ [] →
    ((byte : ℕ) (later : List ℕ) → byte < 256 → rest ≢ shown_byte byte ++ later) → IsNoShownBytes text
no_more_bytes text name rest begins some none other are same =
    where_more (rest_of_codes shown_byte read_shown_byte some_shown_byte name other rest (begins ∙ sym same))
  where
    where_more : (more : List ℕ) × (other ≡ name ++ more) × (rest ≡ flat_map shown_byte more) → ⊥
    where_more ([], is, goes_on) = some goes_on
    where_more (byte ∷ later, is, goes_on) = none byte (flat_map shown_byte later)
        (byte_after name later byte (subst AreBytes is are)) goes_on

-- A text that is not empty, as its first byte and what follows it.
pub first_and_rest : (text : List ℕ) (byte : ℕ) → 1 ≤ length text → get_or text 0 0 ≡ byte →
    text ≡ byte ∷ take (length text - 1) (drop 1 text)
first_and_rest [] byte some first = absurd (omega (arith, some))
first_and_rest (other ∷ rest) byte some first =
    ap₂ (λ x xs. x ∷ xs) first (sym (take_all (length (other ∷ rest) - 1) rest (omega arith)))

-- A text with a percent sign, after which no escaped byte follows, begins with no byte as it is printed.
pub no_first_byte : {T : Type 0} (text rest : List ℕ) (found : Option T) → text ≡ 37 ∷ rest →
    IfNone found ((byte : ℕ) (later : List ℕ) → byte < 256 → is_plain byte ≡ false → rest ≢ digits_of_byte true byte ++ later) →
    IfNone found ((byte : ℕ) (later : List ℕ) → byte < 256 → text ≢ shown_byte byte ++ later)
no_first_byte text rest (Some first) is none = tt
no_first_byte text rest None is none = λ byte later small same. where_test byte later small same (is_plain byte) refl
  where
    where_test : (byte : ℕ) (later : List ℕ) → byte < 256 → text ≡ shown_byte byte ++ later → (p : Bool) → is_plain byte ≡ p → ⊥
    where_test byte later small same true plain =
        let shown_is : 37 ∷ rest ≡ cond true (byte ∷ []) (37 ∷ digits_of_byte true byte) ++ later
        = sym is ∙ subst (λ r. text ≡ cond r (byte ∷ []) (37 ∷ digits_of_byte true byte) ++ later) plain same in
        plain_no_percent byte plain (sym (first_same shown_is))
    where_test byte later small same false escaped =
        let shown_is : 37 ∷ rest ≡ cond false (byte ∷ []) (37 ∷ digits_of_byte true byte) ++ later
        = sym is ∙ subst (λ r. text ≡ cond r (byte ∷ []) (37 ∷ digits_of_byte true byte) ++ later) escaped same in
        none byte later small escaped (later_same shown_is)

-- Bytes that are printed as a text one by one are a name that is printed so, if the text is neither nothing nor that of the empty name.
pub bytes_are_name : (text name : List ℕ) → text ≢ [] → text ≢ codes "-" → flat_map shown_byte name ≡ text → shown_text name ≡ text
bytes_are_name text name some other is = search (rules, ways)

-- No name is printed as a text that is not how bytes are printed one by one, nor the text of the empty name or of the name `-`.
pub no_name : (text : List ℕ) → text ≢ codes "-" → text ≢ codes "%2D" → IsNoShownBytes text → IsShownOfNoBytes text
no_name text other also none name are is = search (rules, ways)

-- A list whose length is tested for zero.
pub empty_list : {X : Type 0} (xs : List X) → (length xs == 0) ≡ true → xs ≡ []
empty_list [] is = refl
empty_list (x ∷ xs) is = absurd (let e = eqb-true (length (x ∷ xs)) 0 is in omega (arith, e))

pub some_list : {X : Type 0} (xs : List X) → (length xs == 0) ≡ false → xs ≢ []
some_list [] is none = true≢false is
some_list (x ∷ xs) is none = absurd cc

-- What is known of the value of an option.
pub some_holds : {T : Type 0} (P : T → Type 0) (found : Option T) (value : T) → found ≡ Some value → IfSome found P → P value
some_holds P None value is holds = absurd cc
some_holds P (Some other) value is holds = let same : other ≡ value = cc in subst P same holds

-- The name `-` is bytes.
pub dash_is_bytes : AreBytes (codes "-")
dash_is_bytes = search rules

-- A name that is printed as a text is the only one.
pub only_name : (text name : List ℕ) → AreBytes name → shown_text name ≡ text → IsNameShownAs text name
only_name text name are is = record { bytes = are; is = is; only = λ other same. same_shown other name (same ∙ sym is) }
