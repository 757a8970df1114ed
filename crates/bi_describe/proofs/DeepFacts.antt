use Rattle.std.proofs.Common.{◌≡◌, ℕ, ◌+◌, List, [], ◌∷◌, ◌++◌, Option, None, Some, map, refl, sym, ap, subst, ◌∙◌}
use Rattle.std.proofs.Common.{◌-◌, ◌≤◌, suc, arith, flat_map, get_or, length}
use Rattle.std.specs.Borrow.{Bor}
use Rattle.std.proofs.lemmas.Grind.{flat_map-append}
use Rattle.std.proofs.lemmas.List.{map-append}
use Rattle.bi_norm.specs.Meaning.{Meaning, OfLegacy, OfFit}
use Rattle.bi_common.specs.Json.{Json}
use Rattle.bi_common.specs.LineTokens.{EndOfLine, LineToken, NextField, end_of_line, line_tokens, one_field, tokens_of_lines}
use Rattle.bi_common.specs.Lines.{Decimal, Digits, Field, Hexadecimal, Hexadecimal64, Line, Name, Path, Text, Value}
use Rattle.bi_common.specs.declared.fields.Field.{Field as MadeField}
use Rattle.bi_common.specs.declared.fields.Field.TheVariants as field
use Rattle.bi_common.specs.MadeFields.{bytes_of_names, field_of}
use Rattle.bi_describe.specs.declared.describe.entries.Entry.{Entry}
use Rattle.bi_describe.specs.declared.describe.entries.Entry.TheVariants as entry
use Rattle.bi_describe.specs.declared.describe.image_payload.ImagePayload.{ImagePayload}
use Rattle.bi_describe.specs.TreeEntries.{as_entry, lines_of_entry}
use Rattle.bi_describe.specs.DeepDescriptions.{InsidesShown, insides_shown, line_at, line_inside, lines_with_inside, place_of_line}
use Rattle.bi_describe.specs.DeepDescriptions.{name_of_last, word_of_inside}
use Rattle.bi_describe.specs.DeepJson.{deep_part_objects, object_with_inside}
use Rattle.bi_describe.specs.DeepLaws.{NothingInsideIsDescription}
use Rattle.bi_describe.specs.DescriptionJson.{digest_object, legacy_object_with, meaning_object}
use Rattle.bi_describe.specs.Descriptions.{description_lines, digest_of_payload}
use Rattle.bi_describe.specs.Devicetrees.{nothing_inside}
use Rattle.bi_describe.specs.Ignoring.{PayloadPlace}
use Rattle.bi_describe.specs.InsidePens.{token_inside}

-- Deep descriptions with nothing inside are descriptions.

line_alone : (place : Option PayloadPlace) (line : Line) → line_at (insides_shown nothing_inside) place line ≡ line ∷ []
line_alone None line = refl
line_alone (Some place) line = refl

pub lines_alone : (lines : List Line) → lines_with_inside (insides_shown nothing_inside) lines ≡ lines
lines_alone [] = refl
lines_alone (line ∷ later) =
    ap (λ (first : List Line). first ++ lines_with_inside (insides_shown nothing_inside) later) (line_alone (place_of_line line) line)
    ∙ ap (λ (rest : List Line). line ∷ rest) (lines_alone later)

parts_alone : (index : ℕ) (parts : List (List ℕ)) →
    deep_part_objects nothing_inside index parts ≡ map (λ part. digest_object (digest_of_payload part)) parts
parts_alone index [] = refl
parts_alone index (part ∷ later) =
    ap (λ (objects : List Json). digest_object (digest_of_payload part) ∷ objects) (parts_alone (index + 1) later)

object_alone : (meaning : Meaning) → object_with_inside nothing_inside meaning ≡ meaning_object meaning
object_alone (OfLegacy image) = ap (λ (objects : List Json). legacy_object_with objects image) (parts_alone 0 image.parts)
object_alone (OfFit tree) = refl

pub nothing_inside_is_description : NothingInsideIsDescription
nothing_inside_is_description meaning =
    record { lines = lines_alone (description_lines meaning); json = object_alone meaning }

-- ---- lines in parts

pub deep_tokens-append : (shown : InsidesShown) (xs ys : List Line) →
    tokens_of_lines (lines_with_inside shown (xs ++ ys))
    ≡ tokens_of_lines (lines_with_inside shown xs) ++ tokens_of_lines (lines_with_inside shown ys)
deep_tokens-append shown xs ys =
    ap tokens_of_lines (flat_map-append (λ line. line_at shown (place_of_line line) line) xs ys)
    ∙ flat_map-append line_tokens (lines_with_inside shown xs) (lines_with_inside shown ys)

-- ---- paths inside a payload

token_of_word : (payload : List ℕ) (word : Field) →
    token_inside payload (NextField word) ≡ NextField (word_of_inside payload word)
token_of_word payload (Text text) = refl
token_of_word payload (Name name) = refl
token_of_word payload (Decimal number) = refl
token_of_word payload (Hexadecimal number) = refl
token_of_word payload (Hexadecimal64 number) = refl
token_of_word payload (Digits bytes) = refl
token_of_word payload (Path names) = refl
token_of_word payload (Value value) = refl

words_inside_are : (payload : List ℕ) (words : Line) →
    map (token_inside payload) (flat_map one_field words) ≡ flat_map one_field (map (word_of_inside payload) words)
unfolding one_field
words_inside_are payload [] = refl
words_inside_are payload (word ∷ later) =
    ap (λ (first : LineToken). first ∷ map (token_inside payload) (flat_map one_field later)) (token_of_word payload word)
    ∙ ap (λ (rest : List LineToken). NextField (word_of_inside payload word) ∷ rest) (words_inside_are payload later)

tokens_of_line : (payload : List ℕ) (words : Line) →
    map (token_inside payload) (line_tokens words) ≡ line_tokens (line_inside payload words)
unfolding end_of_line
tokens_of_line payload words =
    map-append (token_inside payload) (flat_map one_field words) (EndOfLine ∷ [])
    ∙ ap (λ (first : List LineToken). first ++ EndOfLine ∷ []) (words_inside_are payload words)

-- The tokens of lines with the paths inside a payload.
pub tokens_inside : (payload : List ℕ) (lines : List Line) →
    map (token_inside payload) (tokens_of_lines lines) ≡ tokens_of_lines (map (line_inside payload) lines)
tokens_inside payload [] = refl
tokens_inside payload (words ∷ later) =
    map-append (token_inside payload) (line_tokens words) (tokens_of_lines later)
    ∙ ap (λ (first : List LineToken). first ++ map (token_inside payload) (tokens_of_lines later)) (tokens_of_line payload words)
    ∙ ap (λ (rest : List LineToken). line_tokens (line_inside payload words) ++ rest) (tokens_inside payload later)

-- The lines of a tree were put with its paths inside a payload.
pub inside_put : {L : Type 0} (puts : L → List LineToken → L → Type 0) (old new begin end : L) (own payload : List ℕ) (lines : List Line) →
    own ≡ payload → old ≡ begin → new ≡ end → puts old (map (token_inside own) (tokens_of_lines lines)) new →
    puts begin (tokens_of_lines (map (line_inside payload) lines)) end
inside_put puts old new begin end own payload lines same begins ends put =
    rw (sym begins, sym ends)
    (subst (λ (tokens : List LineToken). puts old tokens new)
    (ap (λ payload. map (token_inside payload) (tokens_of_lines lines)) same ∙ tokens_inside payload lines) put)

-- A word that is no path stays.
pub token_stays : (payload : List ℕ) (word : MadeField) → ((names : Bor (List (Bor (List ℕ)))) → word ≡ field.Path names → ⊥) →
    token_inside payload (NextField (field_of word)) ≡ NextField (field_of word)
token_stays payload (field.Text text) other = refl
token_stays payload (field.Shown name) other = refl
token_stays payload (field.Decimal number) other = refl
token_stays payload (field.Hexadecimal number) other = refl
token_stays payload (field.Hexadecimal64 number) other = refl
token_stays payload (field.Sha256 digest) other = refl
token_stays payload (field.Digits bytes) other = refl
token_stays payload (field.Path names) other = absurd (other names refl)
token_stays payload (field.Value value) other = refl

-- The line of an entry that is no payload is about no payload.
pub entry_alone : (shown : InsidesShown) (names : List (List ℕ)) (made : Entry) →
    ((payload : ImagePayload) → made ≡ entry.Payload payload → ⊥) →
    lines_with_inside shown (lines_of_entry names (as_entry made)) ≡ lines_of_entry names (as_entry made)
entry_alone shown names (entry.Begin name) other = refl
entry_alone shown names (entry.Payload payload) other = absurd (other payload refl)
entry_alone shown names entry.Properties other = refl
entry_alone shown names (entry.Property name value) other = refl
entry_alone shown names entry.Children other = refl
entry_alone shown names entry.End other = refl

-- The last name.
pub last_is : (names : List (Bor (List ℕ))) (name : Bor (List ℕ)) → 1 ≤ length names →
    (get_or names (length names - 1) name).now ≡ name_of_last (bytes_of_names names)
last_is [] name some = absurd (omega (arith, some))
last_is (first ∷ []) name some = refl
last_is (first ∷ next ∷ later) name some =
    let one_more : length (first ∷ next ∷ later) - 1 ≡ suc (length (next ∷ later) - 1) = omega arith in
    ap (λ n. (get_or (first ∷ next ∷ later) n name).now) one_more ∙ last_is (next ∷ later) name (omega arith)
