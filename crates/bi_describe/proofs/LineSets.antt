use Rattle.std.proofs.Common.{◌≡◌, ℕ, zero, suc, ◌+◌, ◌<◌, ◌&&◌, ◌||◌, ◌++◌, flat_map, Bool, true, false, not, List, ◌∷◌, []}
use Rattle.std.proofs.Common.{cond, drop, get_or, length, map, refl, ap, take, ◌∙◌, sym, Option, None, Some, slice_get}
use Rattle.std.specs.Prelude.{bytes_eq}
use Rattle.std.specs.BTreeMap.{BTreeMap, get_by, Updates as UpdatesMap}
use Rattle.std.specs.BTreeSet.{BTreeSet, Updates as UpdatesSet}
use Rattle.std.specs.Cmp.{tied_then}
use Rattle.std.specs.Cmp.Lexicographic.{slice_cmp}
use Rattle.std.specs.List.{list_any}
use Rattle.std.specs.Option.{option_map}
use Rattle.std.specs.Ordering.{is_eq, nat_cmp, ordering_then}
use Rattle.std.specs.declared.cmp.Ordering.{Ordering}
use Rattle.std.proofs.lemmas.Bool.{true≢false}
use Rattle.std.proofs.lemmas.Cmp.{tied_itself, nat_cmp_total}
use Rattle.std.proofs.lemmas.List.{append-nil, drop_more, flat_map_more, map-append, map_more}
use Rattle.std.proofs.lemmas.List.Folds.{list_any-append}
use Rattle.std.proofs.lemmas.Map.Text.{is_eq-slice_cmp}
use Rattle.std.proofs.lemmas.Slice.Eq.{bytes_eq-Decides}
use Rattle.bi_base.specs.Crc.{crc32}
use Rattle.bi_describe.specs.declared.compare.signed_lines.ComparedLine.{ComparedLine as MadeLine}
use Rattle.bi_describe.specs.Differences.{ComparedLine, first_text, has_text, lines_only_in, only_line}
use Rattle.bi_describe.specs.LineSets.{HasFirst, HasMissing, NumberedText, TextRef, missing_line, numbered_text, order_of_text, set_has}
use Rattle.bi_describe.specs.MadeLines.{compared_line, compared_lines}

-- Sets and maps of texts after a loop's step, and the lines that are found by them.

-- ---- texts with their numbers

and_false : (b : Bool) → (b && false) ≡ false
and_false true = refl
and_false false = refl

-- Equal texts have the same number.
same_number : (one other : List ℕ) (b : Bool) → bytes_eq one other ≡ b → (is_eq (nat_cmp (crc32 one) (crc32 other)) && b) ≡ b
same_number one other true is =
    ap (λ text. is_eq (nat_cmp (crc32 one) (crc32 text)) && true) (sym ((bytes_eq-Decides one other).0 is))
    ∙ ap (λ o. is_eq o && true) (tied_itself nat_cmp_total (crc32 one))
same_number one other false is = and_false (is_eq (nat_cmp (crc32 one) (crc32 other)))

-- A text and another one with its number are at the same place in the order if and only if they are equal.
is_at_text : (one : List ℕ) (other : TextRef) → is_eq (order_of_text one (numbered_text other)) ≡ bytes_eq one other.now
is_at_text one other =
    sym (tied_then (nat_cmp (crc32 one) (crc32 other.now)) (slice_cmp nat_cmp one other.now))
    ∙ ap (λ b. is_eq (nat_cmp (crc32 one) (crc32 other.now)) && b) (is_eq-slice_cmp one other.now)
    ∙ same_number one other.now (bytes_eq one other.now) refl

-- The order of texts with their numbers.
abbrev pub by_number : NumberedText → NumberedText → Ordering
by_number x y = ordering_then (nat_cmp x.0 y.0) (slice_cmp nat_cmp x.1.now y.1.now)

-- A reference to a text.
abbrev ref_of : List ℕ → TextRef
ref_of text = record { ref_ptr = (0, 0); now = text }

-- Whether a set has a text, after another text was inserted or removed.
set_updated : (old new : BTreeSet NumberedText) (key : NumberedText) (text : TextRef) (b : Bool) → key ≡ numbered_text text →
    UpdatesSet by_number old new key b → (q : List ℕ) → set_has new q ≡ cond (bytes_eq text.now q) b (set_has old q)
set_updated old new key text b is_key updates q =
    updates.0 (numbered_text (ref_of q))
    ∙ ap (λ key. cond (is_eq (by_number key (numbered_text (ref_of q)))) b (set_has old q)) is_key
    ∙ ap (λ found. cond found b (set_has old q)) (is_at_text text.now (ref_of q))

-- ---- sets of the texts of lines

or_of_cond : (b c : Bool) → cond b true c ≡ (c || (b || false))
or_of_cond true true = refl
or_of_cond true false = refl
or_of_cond false true = refl
or_of_cond false false = refl

-- A set of a part of the first lines, after that of the next one is inserted.
pub set_more : (part : ComparedLine → List ℕ) (made_part : MadeLine → TextRef) (lines : List MadeLine) (index : ℕ) (line : MadeLine)
    (key : NumberedText) (old new : BTreeSet NumberedText) → ((line : MadeLine) → part (compared_line line) ≡ (made_part line).now) →
    index < length lines → key ≡ numbered_text (made_part (get_or lines index line)) → UpdatesSet by_number old new key true →
    (q : List ℕ) → set_has old q ≡ list_any (λ line. bytes_eq (part line) q) (compared_lines (take index lines)) →
    set_has new q ≡ list_any (λ line. bytes_eq (part line) q) (compared_lines (take (index + 1) lines))
set_more part made_part lines index line key old new same within is_key updates q has =
    let next = get_or lines index line in
    let test : ComparedLine → Bool = λ line. bytes_eq (part line) q in
    set_updated old new key (made_part next) true is_key updates q
    ∙ ap (λ b. cond b true (set_has old q)) (ap (λ text. bytes_eq text q) (sym (same next)))
    ∙ or_of_cond (test (compared_line next)) (set_has old q)
    ∙ ap (λ b. b || (test (compared_line next) || false)) has
    ∙ sym (ap (list_any test) (map_more compared_line lines index line within)
    ∙ list_any-append test (compared_lines (take index lines)) (compared_line next ∷ []))

missing_or : (b has had : Bool) → cond b false (has && not had) ≡ (has && not (had || (b || false)))
missing_or true true true = refl
missing_or true true false = refl
missing_or true false had = refl
missing_or false true true = refl
missing_or false true false = refl
missing_or false false had = refl

-- The texts that are missing, after that of the next line is removed.
pub missing_more : (lines : List ComparedLine) (others : List MadeLine) (index : ℕ) (line : MadeLine) (key : NumberedText)
    (old new : BTreeSet NumberedText) → index < length others → key ≡ numbered_text (get_or others index line).text →
    UpdatesSet by_number old new key false → HasMissing lines (compared_lines (take index others)) old →
    HasMissing lines (compared_lines (take (index + 1) others)) new
missing_more lines others index line key old new within is_key updates missing q =
    let next = get_or others index line in
    let test : ComparedLine → Bool = λ line. bytes_eq line.text q in
    set_updated old new key next.text false is_key updates q
    ∙ ap (λ has. cond (test (compared_line next)) false has) (missing q)
    ∙ missing_or (test (compared_line next)) (has_text lines q) (has_text (compared_lines (take index others)) q)
    ∙ ap (λ had. has_text lines q && not had) (sym (ap (list_any test) (map_more compared_line others index line within)
    ∙ list_any-append test (compared_lines (take index others)) (compared_line next ∷ [])))

-- ---- lines that are only in one list

sooner : (b rest : Bool) → (b || false) ≡ true → (b || rest) ≡ true
sooner true rest is = refl
sooner false rest is = absurd (true≢false (sym is))

later : (b : Bool) {rest : Bool} → rest ≡ true → (b || rest) ≡ true
later true is = refl
later false is = is

or_false : (b : Bool) → b ≡ (b || false)
or_false true = refl
or_false false = refl

-- Whether the line at a place has a text, if there is one.
pub text_at_place : (lines : List MadeLine) (index : ℕ) (line : MadeLine) (text : List ℕ) → slice_get lines index ≡ Some line →
    bytes_eq line.text.now text ≡ has_text (take 1 (drop index (compared_lines lines))) text
text_at_place [] index line text found = let other : None ≡ Some line = found in cc
text_at_place (first ∷ lines) zero line text found =
    let same : first ≡ line = cc in
    ap (λ line. bytes_eq line.text.now text) (sym same) ∙ or_false (bytes_eq first.text.now text)
text_at_place (first ∷ lines) (suc index) line text found = text_at_place lines index line text found

-- The line at a place is one of the lines.
has_text_at : (lines : List ComparedLine) (index : ℕ) (text : List ℕ) → has_text (take 1 (drop index lines)) text ≡ true →
    has_text lines text ≡ true
has_text_at [] zero text has = absurd (true≢false (sym has))
has_text_at [] (suc index) text has = absurd (true≢false (sym has))
has_text_at (line ∷ lines) zero text has = sooner (bytes_eq line.text text) (has_text lines text) has
has_text_at (line ∷ lines) (suc index) text has = later (bytes_eq line.text text) (has_text_at lines index text has)

-- A line whose text the other list has at a place is not only in the first one.
pub only_at : (others old : List ComparedLine) (line : ComparedLine) (index : ℕ) →
    has_text (take 1 (drop index others)) line.text ≡ true →
    lines_only_in old others ≡ lines_only_in old others ++ only_line (has_text others) line
only_at others old line index has =
    sym (append-nil (lines_only_in old others))
    ∙ ap (λ b. lines_only_in old others ++ cond b [] (line ∷ [])) (sym (has_text_at others index line.text has))

-- Those only in the first list, after a line is appended to it.
pub only_pushed : (others : List ComparedLine) (old : List MadeLine) (line : MadeLine) →
    lines_only_in (compared_lines (old ++ line ∷ [])) others
    ≡ lines_only_in (compared_lines old) others ++ only_line (has_text others) (compared_line line)
only_pushed others old line =
    ap (λ all. lines_only_in all others) (map-append compared_line old (line ∷ []))
    ∙ sym (flat_map_more (only_line (has_text others)) [] (compared_lines old) (compared_line line))

-- Tests that agree at the texts of these lines find the same of them.
same_only : (one other : List ℕ → Bool) (lines : List ComparedLine) →
    ((text : List ℕ) → has_text lines text ≡ true → one text ≡ other text) →
    flat_map (only_line one) lines ≡ flat_map (only_line other) lines
same_only one other [] same = refl
same_only one other (line ∷ lines) same =
    ap (λ b. cond b [] (line ∷ []) ++ flat_map (only_line one) lines)
    (same line.text (ap (λ b. b || has_text lines line.text) ((bytes_eq-Decides line.text line.text).1 refl)))
    ∙ ap (λ rest. only_line other line ++ rest) (same_only one other lines (λ text has. same text (later (bytes_eq line.text text) has)))

not_missing : (has had : Bool) → has ≡ true → not (has && not had) ≡ had
not_missing true true is = refl
not_missing true false is = refl
not_missing false had is = absurd (true≢false (sym is))

-- The lines whose texts are missing are those that are only in the first list.
missing_are_only : (lines others : List ComparedLine) (missing : BTreeSet NumberedText) → HasMissing lines others missing →
    flat_map (missing_line missing) lines ≡ lines_only_in lines others
missing_are_only lines others missing has =
    same_only (λ text. not (set_has missing text)) (has_text others) lines
    (λ text is. ap not (has text) ∙ not_missing (has_text lines text) (has_text others text) is)

-- The lines apart whose texts are missing are the lines that are only in the first list.
pub apart_are_only : (lines others apart : List ComparedLine) (missing : BTreeSet NumberedText) (only : List ComparedLine) →
    lines_only_in apart others ≡ lines_only_in lines others → HasMissing apart others missing →
    only ≡ flat_map (missing_line missing) apart → only ≡ lines_only_in lines others
apart_are_only lines others apart missing only same has found = found ∙ missing_are_only apart others missing has ∙ same

-- ---- what is made of the first elements of a list

-- What is made of the first elements of a list, after that of the next one is appended.
pub pushed_more : {X Y Z : Type 0} (f : X → Y) (write : Y → List Z) (start : List Z) (xs : List X) (index : ℕ) (x : X) (old new : List Z) →
    index < length xs → old ≡ start ++ flat_map write (map f (take index xs)) → new ≡ old ++ write (f (get_or xs index x)) →
    new ≡ start ++ flat_map write (map f (take (index + 1) xs))
pushed_more f write start xs index x old new within has appended =
    appended ∙ ap (λ made. made ++ write (f (get_or xs index x))) has
    ∙ flat_map_more write start (map f (take index xs)) (f (get_or xs index x))
    ∙ ap (λ all. start ++ flat_map write all) (sym (map_more f xs index x within))

found_at : (b : Bool) (text : TextRef) (found : Option TextRef) (rest : Option (List ℕ)) → option_map (λ text. text.now) found ≡ rest →
    option_map (λ text. text.now) (cond b (Some text) found) ≡ cond b (Some text.now) rest
found_at true text found rest is = refl
found_at false text found rest is = is

-- A map of the lines from one on, after that one is inserted.
pub first_more : (lines : List MadeLine) (index next : ℕ) (line : MadeLine) (key : NumberedText) (old new : BTreeMap NumberedText TextRef) →
    next ≡ index + 1 → index < length lines → key ≡ numbered_text (get_or lines index line).key →
    UpdatesMap by_number old new key (Some (get_or lines index line).text) →
    HasFirst (compared_lines (drop next lines)) old → HasFirst (compared_lines (drop index lines)) new
first_more lines index next line key old new is_next within is_key updates has q =
    let here = get_or lines index line in
    let before : Option TextRef = get_by (order_of_text q) old in
    ap (option_map (λ text. text.now)) (updates.0 (numbered_text (ref_of q)))
    ∙ ap (λ key. option_map (λ text. text.now) (cond (is_eq (by_number key (numbered_text (ref_of q)))) (Some here.text) before)) is_key
    ∙ found_at _ here.text _ (first_text (compared_lines (drop next lines)) q) (has q)
    ∙ ap (λ b. cond b (Some here.text.now) (first_text (compared_lines (drop next lines)) q)) (is_at_text here.key.now (ref_of q))
    ∙ ap (λ n. first_text (compared_line here ∷ compared_lines (drop n lines)) q) is_next
    ∙ ap (λ rest. first_text (compared_lines rest) q) (sym (drop_more lines index line within))
