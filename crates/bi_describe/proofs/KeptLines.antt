use Rattle.std.proofs.Common.{◌≡◌, ℕ, zero, suc, ◌+◌, ◌-◌, ◌<◌, ◌≤◌, Bool, true, false, get_or, List, [], ◌∷◌, ◌++◌, append-nil}
use Rattle.std.proofs.Common.{append_assoc, arith, length}
use Rattle.std.proofs.Common.{length-append, map, take, drop, flat_map, refl, sym, ap, ◌∙◌, Some, None, Option, ◌⊎◌, inl, inr}
use Rattle.std.proofs.Common.{codes, bytes_eq, ◌||◌, if◌then◌else◌}
use Rattle.std.specs.Option.{option_map}
use Rattle.std.proofs.lemmas.Bool.{and_parts, le-leb, leb-true, lt-ltb, ltb-true, ne_eqb}
use Rattle.std.proofs.lemmas.Grind.{flat_map-append}
use Rattle.std.proofs.lemmas.List.{append_cancel_right, drop_more, take-append-drop}
use Rattle.std.proofs.Math.Seq.{drop-append_seam, take-append_seam}
use Rattle.bi_base.specs.MemoryPens.{MemoryPuts}
use Rattle.bi_common.specs.LineTokens.{LineToken, NextField, EndOfLine, end_of_line, has_word, line_token_text, line_tokens, line_writing}
use Rattle.bi_common.specs.LineTokens.{one_field}
use Rattle.bi_common.specs.LineTokens.{tokens_of_lines}
use Rattle.bi_common.specs.Lines.{Decimal, Digits, Field, Hexadecimal, Hexadecimal64, Line, Name, Path, Text, Value, line_text}
use Rattle.bi_common.specs.Lines.{text_of_lines}
use Rattle.bi_common.specs.Tokens.{fact_after, tokens_text}
use Rattle.bi_common.proofs.WrittenLines.{text_of_tokens}
use Rattle.bi_describe.specs.declared.compare.line_keeper.KeyPart.{KeyPart}
use Rattle.bi_describe.specs.declared.compare.line_keeper.KeyPart.TheVariants as part
use Rattle.bi_describe.specs.declared.compare.line_keeper.Mark.{Mark}
use Rattle.bi_describe.specs.declared.compare.line_keeper.OpenLine.{OpenLine}
use Rattle.bi_describe.specs.Differences.{ComparedLine, plain_key, is_inside_word, key_of_line, line_bytes, line_to_compare, words_of_key}
use Rattle.bi_describe.specs.LineMarks.{marks_fit, cut_line, cut_lines, mark_of}
use Rattle.bi_describe.specs.LineKeeping.{Keeping, Keeps, KeeperPuts, is_in_key, line_after_word, end_mark, keep_token, keep_tokens}
use Rattle.bi_describe.specs.LineKeeping.{part_after}
use Rattle.bi_describe.specs.LineKeeping.{keep_tokens-append}
use Rattle.bi_describe.specs.LineKeeping.{new_keeping, new_line, kept_length}

-- What a pen keeps of lines, and the lines that are cut from it.

-- ---- the text of words

abbrev text_from : (is_later : Bool) → Line → List ℕ
text_from is_later words = tokens_text line_writing is_later (flat_map one_field words)

-- Words and what is put after them.
text_in_turn : (is_later : Bool) (words : Line) (later : List LineToken) →
    tokens_text line_writing is_later (flat_map one_field words ++ later)
    ≡ text_from is_later words ++ tokens_text line_writing (fact_after line_writing is_later (flat_map one_field words)) later
unfolding one_field
text_in_turn is_later [] later = refl
text_in_turn is_later (word ∷ words) later =
    ap (λ text. line_token_text is_later (NextField word) ++ text) (text_in_turn (has_word is_later (NextField word)) words later)
    ∙ sym (append_assoc (line_token_text is_later (NextField word)) _ _)

-- The words of a line without its end.
words_text : (words : Line) → text_from false words ≡ line_bytes words
unfolding end_of_line
words_text words =
    append_cancel_right (text_from false words) (line_bytes words) (10 ∷ [])
    (sym (text_in_turn false words (EndOfLine ∷ []))
    ∙ ap (tokens_text line_writing false) (sym (append-nil (line_tokens words)))
    ∙ text_of_tokens (words ∷ []) ∙ append-nil (line_text words))

-- How many words the key of a line has.
abbrev inside_count : Line → ℕ
inside_count [] = 0
inside_count (path ∷ []) = 1
inside_count (path ∷ second ∷ later) = suc (words_of_key second)

abbrev key_count : Line → ℕ
key_count [] = 0
key_count (first ∷ later) = if is_inside_word first then suc (inside_count later) else words_of_key first

-- The key is the first words.
inside_taken : (later : Line) → take 1 later ++ plain_key (drop 1 later) ≡ take (inside_count later) later
inside_taken [] = refl
inside_taken (path ∷ []) = refl
inside_taken (path ∷ second ∷ later) = refl

count_taken : (is : Bool) (first : Field) (later : Line) →
    (if is then first ∷ (take 1 later ++ plain_key (drop 1 later)) else plain_key (first ∷ later))
    ≡ take (if is then suc (inside_count later) else words_of_key first) (first ∷ later)
count_taken true first later = ap (λ rest. first ∷ rest) (inside_taken later)
count_taken false first later = refl

key_taken : (words : Line) → key_of_line words ≡ take (key_count words) words
key_taken [] = refl
key_taken (first ∷ later) = count_taken (is_inside_word first) first later

-- The text of a line begins with that of its first words, and so with that of its key.
words_before : (count : ℕ) (words : Line) → (rest : List ℕ) × (line_bytes words ≡ line_bytes (take count words) ++ rest)
words_before count words = (
  _,
  sym (words_text words)
      ∙ ap (text_from false) (sym (take-append-drop count words))
      ∙ ap (tokens_text line_writing false) (flat_map-append one_field (take count words) (drop count words))
      ∙ text_in_turn false (take count words) (flat_map one_field (drop count words))
      ∙ ap (λ text. text ++ tokens_text line_writing (fact_after line_writing false (flat_map one_field (take count words)))
      (flat_map one_field (drop count words))) (words_text (take count words)),
)

key_before : (words : Line) → (rest : List ℕ) × (line_bytes words ≡ line_bytes (key_of_line words) ++ rest)
key_before words =
    let (rest, is) = words_before (key_count words) words in
    (rest, is ∙ ap (λ key. line_bytes key ++ rest) (sym (key_taken words)))

-- ---- what is kept

-- What is kept before a line.
abbrev fresh : (text : List ℕ) → List Mark → Keeping
fresh text marks = record { text = text; marks = marks; line = new_line (length text) }

-- The text after words, and what does not change.
text_kept : (words : Line) (kept : Keeping) →
    ((keep_tokens kept (flat_map one_field words)).text ≡ kept.text ++ text_from kept.line.has_word words)
    × ((keep_tokens kept (flat_map one_field words)).marks ≡ kept.marks)
    × ((keep_tokens kept (flat_map one_field words)).line.start ≡ kept.line.start)
unfolding one_field
text_kept [] kept = (sym (append-nil kept.text), refl, refl)
text_kept (word ∷ words) kept =
    let (text, marks, start) = text_kept words (keep_token kept (NextField word)) in
    (text ∙ append_assoc kept.text (line_token_text kept.line.has_word (NextField word)) _, marks, start)

-- What is kept within a line.
abbrev keeping : (text : List ℕ) → List Mark → (start key_end missing : ℕ) → (has_word : Bool) → Keeping
keeping text marks start key_end missing has_word = record {
  text = text;
  marks = marks;
  line = record { start = start; key_end = key_end; next = part.Named missing; has_word = has_word };
}

-- The key ends where it ended, if no word of it is missing.
key_ended : (words : Line) (text : List ℕ) (marks : List Mark) (start key_end : ℕ) (is_later : Bool) →
    (keep_tokens (keeping text marks start key_end 0 is_later) (flat_map one_field words)).line.key_end ≡ key_end
unfolding one_field
key_ended [] text marks start key_end is_later = refl
key_ended (word ∷ words) text marks start key_end is_later =
    key_ended words (text ++ line_token_text is_later (NextField word)) marks start key_end (has_word is_later (NextField word))

-- The key ends after as many words as are missing.
key_ends : (missing : ℕ) (words : Line) (text : List ℕ) (marks : List Mark) (start counted : ℕ) (is_later : Bool) → counted ≡ missing →
    (keep_tokens (keeping text marks start (length text) counted is_later) (flat_map one_field words)).line.key_end
    ≡ length (text ++ text_from is_later (take missing words))
unfolding one_field
key_ends zero words text marks start counted is_later is =
    rw is (key_ended words text marks start (length text) is_later ∙ ap length (sym (append-nil text)))
key_ends (suc missing) [] text marks start counted is_later is = ap length (sym (append-nil text))
key_ends (suc missing) (word ∷ words) text marks start counted is_later is =
    let own = line_token_text is_later (NextField word) in
    rw (is, ne_eqb (suc missing) 0 (omega arith)) (key_ends missing words (text ++ own) marks start (suc missing - 1)
    (has_word is_later (NextField word)) (omega arith)
    ∙ ap length (append_assoc text own _))

-- A key has a word.
named_count : (one two : Bool) → (if one then 3 else if two then 2 else 1) ≡ suc ((if one then 3 else if two then 2 else 1) - 1)
named_count true two = refl
named_count false true = refl
named_count false false = refl

has_count : (first : Field) → words_of_key first ≡ suc (words_of_key first - 1)
has_count (Text word) =
    named_count (bytes_eq word (codes "property") || bytes_eq word (codes "reservation"))
    (bytes_eq word (codes "node") || (bytes_eq word (codes "payload") || bytes_eq word (codes "part")))
has_count (Name name) = refl
has_count (Decimal number) = refl
has_count (Hexadecimal number) = refl
has_count (Hexadecimal64 number) = refl
has_count (Digits bytes) = refl
has_count (Path names) = refl
has_count (Value value) = refl

-- What is kept before a word of a line.
abbrev before_word : (text : List ℕ) → List Mark → (start key_end : ℕ) → KeyPart → (has_word : Bool) → Keeping
before_word text marks start key_end next has_word = record {
  text = text;
  marks = marks;
  line = record { start = start; key_end = key_end; next = next; has_word = has_word };
}

-- The key ends after as many words as the next one says.
counted_kept : (word : Field) (words : Line) (text : List ℕ) (marks : List Mark) (start key_end : ℕ) (next : KeyPart) (is_later : Bool) →
    is_in_key next ≡ true → part_after next word ≡ part.Named (words_of_key word - 1) →
    (keep_tokens (before_word text marks start key_end next is_later) (flat_map one_field (word ∷ words))).line.key_end
    ≡ length (text ++ text_from is_later (take (words_of_key word) (word ∷ words)))
unfolding one_field
counted_kept word words text marks start key_end next is_later in_key is =
    let own = line_token_text is_later (NextField word) in
    let count = words_of_key word - 1 in
    rw (in_key, is) (key_ends count words (text ++ own) marks start count (has_word is_later (NextField word)) refl
    ∙ ap length (append_assoc text own _)
    ∙ ap (λ n. length (text ++ text_from is_later (take n (word ∷ words)))) (sym (has_count word)))

-- After the first word of a line that is inside a payload.
inside_kept : (later : Line) (text : List ℕ) (marks : List Mark) (start : ℕ) (is_later : Bool) →
    (keep_tokens (before_word text marks start (length text) part.Payload is_later) (flat_map one_field later)).line.key_end
    ≡ length (text ++ text_from is_later (take (inside_count later) later))
unfolding one_field
inside_kept [] text marks start is_later = ap length (sym (append-nil text))
inside_kept (path ∷ []) text marks start is_later =
    ap (λ own. length (text ++ own)) (sym (append-nil (line_token_text is_later (NextField path))))
inside_kept (path ∷ second ∷ later) text marks start is_later =
    let own = line_token_text is_later (NextField path) in
    counted_kept second later (text ++ own) marks start (length (text ++ own)) part.Second (has_word is_later (NextField path)) refl refl
    ∙ ap length (append_assoc text own _)

first_kept : (is : Bool) (first : Field) (later : Line) (text : List ℕ) (marks : List Mark) → is_inside_word first ≡ is →
    (keep_tokens (fresh text marks) (flat_map one_field (first ∷ later))).line.key_end
    ≡ length (text ++ text_from false (take (if is then suc (inside_count later) else words_of_key first) (first ∷ later)))
unfolding one_field
first_kept true first later text marks is =
    let own = line_token_text false (NextField first) in
    rw is (inside_kept later (text ++ own) marks (length text) (has_word false (NextField first)) ∙ ap length (append_assoc text own _))
first_kept false first later text marks is =
    counted_kept first later text marks (length text) (length text) part.First false refl
    (ap (λ inside. if inside then part.Payload else part.Named (words_of_key first - 1)) is)

-- The key of a line.
key_kept : (words : Line) (text : List ℕ) (marks : List Mark) →
    (keep_tokens (fresh text marks) (flat_map one_field words)).line.key_end ≡ length (text ++ line_bytes (key_of_line words))
key_kept [] text marks = ap length (sym (append-nil text))
key_kept (first ∷ later) text marks =
    first_kept (is_inside_word first) first later text marks refl
    ∙ ap (λ key. length (text ++ key)) (words_text (take (key_count (first ∷ later)) (first ∷ later)))
    ∙ ap (λ key. length (text ++ line_bytes key)) (sym (key_taken (first ∷ later)))

-- The end of a line.
line_ended : (words : Line) (text : List ℕ) (kept : Keeping) → kept.text ≡ text ++ line_bytes words → kept.line.start ≡ length text →
    kept.line.key_end ≡ length (text ++ line_bytes (key_of_line words)) →
    keep_token kept EndOfLine ≡ fresh (text ++ line_text words) (kept.marks ++ mark_of words ∷ [])
line_ended words text kept is start key =
    let length_is : length kept.text - kept.line.start ≡ length (line_bytes words) =
    omega (arith, ap length is, length-append text (line_bytes words), start) in
    let key_is : kept.line.key_end - kept.line.start ≡ length (line_bytes (key_of_line words)) =
    omega (arith, key, length-append text (line_bytes (key_of_line words)), start) in
    let whole : kept.text ++ 10 ∷ [] ≡ text ++ line_text words =
    ap (λ own. own ++ 10 ∷ []) is ∙ append_assoc text (line_bytes words) (10 ∷ []) in
    (λ i. fresh (whole i) (kept.marks ++ record { len = length_is i; key = key_is i } ∷ []))

line_kept : (words : Line) (text : List ℕ) (marks : List Mark) →
    keep_tokens (fresh text marks) (line_tokens words) ≡ fresh (text ++ line_text words) (marks ++ mark_of words ∷ [])
unfolding end_of_line
line_kept words text marks =
    let (own, same, start) = text_kept words (fresh text marks) in
    keep_tokens-append (fresh text marks) (flat_map one_field words) (EndOfLine ∷ [])
    ∙ line_ended words text (keep_tokens (fresh text marks) (flat_map one_field words)) (own ∙ ap (λ line. text ++ line) (words_text words))
    start (key_kept words text marks)
    ∙ ap (λ before. fresh (text ++ line_text words) (before ++ mark_of words ∷ [])) same

-- A word that is put to the pen.
pub word_kept : (old new : Option (List ℕ)) (marks : List Mark) (line : OpenLine) (word : Field) →
    MemoryPuts old (line_token_text line.has_word (NextField word)) new →
    KeeperPuts (option_map (λ text. record { text = text; marks = marks; line = line }) old) (one_field word)
    (option_map (λ text. record { text = text; marks = marks; line = line_after_word line word (kept_length new) }) new)
unfolding one_field
word_kept old None marks line word put = tt
word_kept None (Some new) marks line word put = absurd put
word_kept (Some old) (Some new) marks line word put =
    (λ i. record { text = put i; marks = marks; line = line_after_word line word (length (put i)) })

-- The end of a line that is put to the pen.
pub end_kept : (old middle new : Option (List ℕ)) (marks later : List Mark) (line : OpenLine) → MemoryPuts old (codes "\n") middle →
    (new ≡ None) ⊎ ((new ≡ middle) × (later ≡ marks ++ end_mark line (kept_length old) ∷ [])) →
    KeeperPuts (option_map (λ text. record { text = text; marks = marks; line = line }) old) end_of_line
    (option_map (λ text. record { text = text; marks = later; line = new_line (kept_length new) }) new)
unfolding end_of_line
end_kept old middle new marks later line put (inl failed) = rw failed tt
end_kept old None new marks later line put (inr (same, pushed)) = rw same tt
end_kept None (Some middle) new marks later line put (inr (same, pushed)) = absurd put
end_kept (Some old) (Some middle) new marks later line put (inr (same, pushed)) =
    rw same (λ i. record { text = put i; marks = pushed i; line = new_line (length (put i)) })

-- All lines.
lines_kept : (lines : List Line) (text : List ℕ) (marks : List Mark) →
    keep_tokens (fresh text marks) (tokens_of_lines lines) ≡ fresh (text ++ text_of_lines lines) (marks ++ map mark_of lines)
lines_kept [] text marks = (λ i. fresh (sym (append-nil text) i) (sym (append-nil marks) i))
lines_kept (words ∷ lines) text marks =
    keep_tokens-append (fresh text marks) (line_tokens words) (tokens_of_lines lines)
    ∙ ap (λ kept. keep_tokens kept (tokens_of_lines lines)) (line_kept words text marks)
    ∙ lines_kept lines (text ++ line_text words) (marks ++ mark_of words ∷ [])
    ∙ (λ i. fresh (append_assoc text (line_text words) (text_of_lines lines) i)
    (append_assoc marks (mark_of words ∷ []) (map mark_of lines) i))

-- What the pen has at the end.
pub put_kept : (lines : List Line) (begin end : Option Keeping) (text : List ℕ) (marks : List Mark) → begin ≡ Some new_keeping →
    KeeperPuts begin (tokens_of_lines lines) end → Keeps end text marks → (text ≡ text_of_lines lines) × (marks ≡ map mark_of lines)
put_kept lines begin None text marks begins put keeps = absurd keeps
put_kept lines begin (Some kept) text marks begins put keeps =
    let is : kept ≡ fresh (text_of_lines lines) (map mark_of lines) = (rw begins at put) ∙ lines_kept lines [] [] in
    (sym keeps.0 ∙ ap (λ (kept : Keeping). kept.text) is, sym keeps.1 ∙ ap (λ (kept : Keeping). kept.marks) is)

-- ---- what is cut

-- What follows a line.
after_line : (words : Line) (rest : List ℕ) → drop (length (line_bytes words) + 1) (line_text words ++ rest) ≡ rest
after_line words rest =
    ap (λ n. drop n (line_text words ++ rest)) (sym (length-append (line_bytes words) (10 ∷ []))) ∙ drop-append_seam (line_text words) rest

-- The texts of lines are as long as their marks say.
pub lines_fit : (lines : List Line) → marks_fit (text_of_lines lines) (map mark_of lines) ≡ true
lines_fit [] = refl
lines_fit (words ∷ lines) =
    let longer : length (line_bytes words) < length (line_text words ++ text_of_lines lines) =
    omega (arith, length-append (line_text words) (text_of_lines lines), length-append (line_bytes words) (10 ∷ [])) in
    let within : length (line_bytes (key_of_line words)) ≤ length (line_bytes words) =
    omega (arith, ap length (key_before words).1, length-append (line_bytes (key_of_line words)) (key_before words).0) in
    rw (lt-ltb _ _ longer, le-leb _ _ within, after_line words (text_of_lines lines)) (lines_fit lines)

-- The next line that is cut.
pub next_cut : (text : List ℕ) (marks : List Mark) (index : ℕ) (mark : Mark) → index < length marks →
    marks_fit text (drop index marks) ≡ true →
    ((get_or marks index mark).len < length text) × ((get_or marks index mark).key ≤ (get_or marks index mark).len)
    × (marks_fit (drop ((get_or marks index mark).len + 1) text) (drop (index + 1) marks) ≡ true)
next_cut text marks index mark within fit =
    let next = get_or marks index mark in
    let (longer, rest) = and_parts _ _ (rw (drop_more marks index mark within) at fit) in
    let (key, later) = and_parts _ _ rest in
    (ltb-true next.len (length text) longer, leb-true next.key next.len key, later)

pub cut_more : (whole made : List ComparedLine) (text : List ℕ) (marks : List Mark) (index : ℕ) (mark : Mark) (line : ComparedLine)
    (rest : List ℕ) → index < length marks → whole ≡ made ++ cut_lines text (drop index marks) →
    line ≡ cut_line text (get_or marks index mark) → rest ≡ drop ((get_or marks index mark).len + 1) text →
    whole ≡ (made ++ line ∷ []) ++ cut_lines rest (drop (index + 1) marks)
cut_more whole made text marks index mark line rest within is is_line is_rest =
    is ∙ ap (λ left. made ++ cut_lines text left) (drop_more marks index mark within)
    ∙ sym (append_assoc made (line ∷ []) (cut_lines rest (drop (index + 1) marks))
    ∙ (λ i. made ++ (is_line i ∷ cut_lines (is_rest i) (drop (index + 1) marks))))

-- The first line.
line_cut : (words : Line) (rest : List ℕ) → cut_line (line_text words ++ rest) (mark_of words) ≡ line_to_compare words
line_cut words rest =
    let key = line_bytes (key_of_line words) in
    let text_is : take (length (line_bytes words)) (line_text words ++ rest) ≡ line_bytes words =
    ap (take (length (line_bytes words))) (append_assoc (line_bytes words) (10 ∷ []) rest) ∙ take-append_seam (line_bytes words) _ in
    let key_is : take (length key) (line_text words ++ rest) ≡ key =
    ap (λ line. take (length key) ((line ++ 10 ∷ []) ++ rest)) (key_before words).1
    ∙ ap (take (length key)) (append_assoc (key ++ (key_before words).0) (10 ∷ []) rest ∙ append_assoc key (key_before words).0 _)
    ∙ take-append_seam key _ in
    (λ i. record { text = text_is i; key = key_is i })

-- The lines that are cut are the lines that were put.
pub lines_cut : (lines : List Line) → cut_lines (text_of_lines lines) (map mark_of lines) ≡ map line_to_compare lines
lines_cut [] = refl
lines_cut (words ∷ lines) =
    (λ i. line_cut words (text_of_lines lines) i ∷ cut_lines (after_line words (text_of_lines lines) i) (map mark_of lines))
    ∙ ap (λ later. line_to_compare words ∷ later) (lines_cut lines)
