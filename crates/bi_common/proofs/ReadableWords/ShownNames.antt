use Rattle.std.proofs.Common.{◌≡◌, ◌≢◌, ◌&&◌, ℕ, ◌+◌, ◌%◌, ◌<◌, ◌≤◌, Bool, true, false, not, cond, leb, eqb, ltb, List, [], ◌∷◌, ◌++◌}
use Rattle.std.proofs.Common.{refl, sym, subst, arith, codes, rules}
use Rattle.std.proofs.lemmas.Bool.{cases_lt, cond-true, cond-false, lt-ltb, le-ltb, lt-leb, leb-true, ne_eqb, eqb-false, and_parts}
use Rattle.std.proofs.lemmas.Bool.{not-true}
use Rattle.std.specs.Fmt.{digit_glyph}
use Rattle.std.specs.List.{AllByRecursion, flat_map}
use Rattle.bi_base.proofs.EqualBytes.{same_bytes, other_bytes}
use Rattle.bi_common.specs.Shown.{digits_of_byte, is_plain, shown_byte, shown_text}
use Rattle.bi_common.proofs.ReadableWords.Cuts.{HasNoEnd, has_no_end, goes_on-flat_map, codes_agree}

-- A name is read back from its shown form, which has no blank, and no slash where the name has none. Bytes are read back from their
-- hexadecimal digits.

-- Whether a byte ends a word: a space, a newline, or another byte that is not graphic.
abbrev pub is_blank : ℕ → Bool
is_blank byte = leb byte 32

-- Whether a byte ends a name in a path.
abbrev pub is_slash : ℕ → Bool
is_slash byte = eqb byte 47

-- The digit of a number below ten.
pub low_glyph : (upper : Bool) (d : ℕ) → d < 10 → digit_glyph upper d ≡ 48 + d
low_glyph upper d small = cond-true (ltb d 10) (48 + d) (cond upper (55 + d) (87 + d)) (lt-ltb d 10 small)

-- The digit of any other number.
pub high_glyph : (upper : Bool) (d : ℕ) → 10 ≤ d → digit_glyph upper d ≡ cond upper (55 + d) (87 + d)
high_glyph upper d large = cond-false (ltb d 10) (48 + d) (cond upper (55 + d) (87 + d)) (le-ltb d 10 large)

-- A number is read back from its digit.
pub same_glyph : (upper : Bool) (a b : ℕ) → digit_glyph upper a ≡ digit_glyph upper b → a ≡ b
same_glyph upper a b same = search (rules, cases_lt, low_glyph, high_glyph)

-- A digit is after the slash.
pub glyph_above : (upper : Bool) (d : ℕ) → 47 < digit_glyph upper d
glyph_above upper d = search (rules, cases_lt, low_glyph, high_glyph)

-- No digit is blank.
pub glyph_no_blank : (upper : Bool) (d : ℕ) → is_blank (digit_glyph upper d) ≡ false
glyph_no_blank upper d = lt-leb (digit_glyph upper d) 32 (let above = glyph_above upper d in omega (arith, above))

-- No digit is a slash.
glyph_no_slash : (upper : Bool) (d : ℕ) → is_slash (digit_glyph upper d) ≡ false
glyph_no_slash upper d = ne_eqb (digit_glyph upper d) 47 (λ e. let above = glyph_above upper d in omega (arith, above, e))

-- A byte is read back from its two digits.
pub read_digits : (upper : Bool) (a b : ℕ) (x y : List ℕ) → digits_of_byte upper a ++ x ≡ digits_of_byte upper b ++ y → (a ≡ b) × (x ≡ y)
read_digits upper a b x y same = search (rules, same_glyph)

-- So are bytes from their digits.
pub same_digits : (upper : Bool) (one other : List ℕ) → flat_map (digits_of_byte upper) one ≡ flat_map (digits_of_byte upper) other →
    one ≡ other
same_digits upper one other same = codes_agree (digits_of_byte upper) (read_digits upper) (λ x e. absurd cc) one other same

-- A byte that is printed unchanged is graphic.
plain_above : (byte : ℕ) → is_plain byte ≡ true → 32 < byte
plain_above byte plain = search (rules, and_parts, leb-true)

-- It is not a percent sign.
pub plain_no_percent : (byte : ℕ) → is_plain byte ≡ true → byte ≡ 37 → ⊥
plain_no_percent byte plain =
    eqb-false byte 37 (not-true (eqb byte 37) (and_parts (leb 0x21 byte && leb byte 0x7e) (not (eqb byte 37)) plain).1)

-- A byte of a name is read back from how it is printed.
pub read_shown_byte : (a b : ℕ) (x y : List ℕ) → shown_byte a ++ x ≡ shown_byte b ++ y → (a ≡ b) × (x ≡ y)
read_shown_byte a b x y same = where_tests (is_plain a) (is_plain b) refl refl
  where
    texts : (p q : Bool) → is_plain a ≡ p → is_plain b ≡ q →
        cond p (a ∷ []) (37 ∷ digits_of_byte true a) ++ x ≡ cond q (b ∷ []) (37 ∷ digits_of_byte true b) ++ y
    texts p q one other =
        subst (λ r. cond p (a ∷ []) (37 ∷ digits_of_byte true a) ++ x ≡ cond r (b ∷ []) (37 ∷ digits_of_byte true b) ++ y) other
        (subst (λ r. cond r (a ∷ []) (37 ∷ digits_of_byte true a) ++ x ≡ shown_byte b ++ y) one same)

    where_tests : (p q : Bool) → is_plain a ≡ p → is_plain b ≡ q → (a ≡ b) × (x ≡ y)
    where_tests true true one other = let both = texts true true one other in (cc, cc)
    where_tests true false one other = let both = texts true false one other in absurd (plain_no_percent a one cc)
    where_tests false true one other = let both = texts false true one other in absurd (plain_no_percent b other cc)
    where_tests false false one other = let both = texts false false one other in read_digits true a b x y cc

-- No byte of a name is printed as nothing.
pub some_shown_byte : (byte : ℕ) → shown_byte byte ≡ [] → ⊥
some_shown_byte byte = search rules

-- How a name is shown.
pub data ShownName (name : List ℕ) : Type 0 where
  Nothing : name ≡ [] → shown_text name ≡ codes "-" → ShownName name
  Dash : name ≡ codes "-" → shown_text name ≡ codes "%2D" → ShownName name
  Others : name ≢ [] → name ≢ codes "-" → shown_text name ≡ flat_map shown_byte name → ShownName name

-- It is shown in one of these ways.
pub ways : (name : List ℕ) → ShownName name
ways name = search (rules, same_bytes, cond-true, cond-false, other_bytes)

-- Bytes are read back from how they are printed.
pub same_shown_bytes : (one other : List ℕ) → flat_map shown_byte one ≡ flat_map shown_byte other → one ≡ other
same_shown_bytes one other same = codes_agree shown_byte read_shown_byte some_shown_byte one other same

-- No bytes are printed as the name `-` is.
not_as_dash : (name : List ℕ) → flat_map shown_byte name ≡ codes "%2D" → ⊥
not_as_dash [] same = absurd cc
not_as_dash (byte ∷ later) same = search (rules, plain_no_percent, read_digits)

-- A name is read back from its shown form.
pub same_shown : (one other : List ℕ) → shown_text one ≡ shown_text other → one ≡ other
same_shown one other same = search (rules, ways, same_shown_bytes, not_as_dash)

-- A byte as it is printed is not a blank.
shown_byte_no_blank : (byte : ℕ) → HasNoEnd is_blank (shown_byte byte)
shown_byte_no_blank byte = search (rules, lt-leb, plain_above, glyph_no_blank)

-- It is not a slash if the byte is not one.
shown_byte_no_slash : (byte : ℕ) → byte ≢ 47 → HasNoEnd is_slash (shown_byte byte)
shown_byte_no_slash byte other = search (rules, ne_eqb, glyph_no_slash)

-- A shown name is not a blank.
pub shown_no_blank : (name : List ℕ) → HasNoEnd is_blank (shown_text name)
shown_no_blank name = where_way (ways name)
  where
    each : (bytes : List ℕ) → AllByRecursion (λ byte. HasNoEnd is_blank (shown_byte byte)) bytes
    each [] = tt
    each (byte ∷ later) = (shown_byte_no_blank byte, each later)

    where_way : ShownName name → HasNoEnd is_blank (shown_text name)
    where_way (Nothing is text) = subst (HasNoEnd is_blank) (sym text) (has_no_end is_blank (codes "-") refl)
    where_way (Dash is text) = subst (HasNoEnd is_blank) (sym text) (has_no_end is_blank (codes "%2D") refl)
    where_way (Others some other text) = subst (HasNoEnd is_blank) (sym text) (goes_on-flat_map is_blank shown_byte name (each name))

-- It has no slash if the name has none.
pub shown_no_slash : (name : List ℕ) → AllByRecursion (λ byte. byte ≢ 47) name → HasNoEnd is_slash (shown_text name)
shown_no_slash name others = where_way (ways name)
  where
    each : (bytes : List ℕ) → AllByRecursion (λ byte. byte ≢ 47) bytes → AllByRecursion (λ byte. HasNoEnd is_slash (shown_byte byte)) bytes
    each [] others = tt
    each (byte ∷ later) others = (shown_byte_no_slash byte others.0, each later others.1)

    where_way : ShownName name → HasNoEnd is_slash (shown_text name)
    where_way (Nothing is text) = subst (HasNoEnd is_slash) (sym text) (has_no_end is_slash (codes "-") refl)
    where_way (Dash is text) = subst (HasNoEnd is_slash) (sym text) (has_no_end is_slash (codes "%2D") refl)
    where_way (Others some other text) = subst (HasNoEnd is_slash) (sym text) (goes_on-flat_map is_slash shown_byte name (each name others))

-- No name is shown as nothing.
pub some_shown : (name : List ℕ) → shown_text name ≡ [] → ⊥
some_shown name nothing = search (rules, ways, same_shown_bytes)
