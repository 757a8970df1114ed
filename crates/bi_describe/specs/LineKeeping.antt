use Rattle.std.specs.Prelude.{◌≡◌, ℕ, ◌-◌, ◌==◌, ⊤, Bool, true, false, not, List, [], ◌∷◌, ◌++◌}
use Rattle.std.specs.Prelude.{Option, None, Some, codes, length, refl, if◌then◌else◌}
use Rattle.std.proofs.Common.{sym, ap, ◌∙◌}
use Rattle.bi_common.specs.LineTokens.{LineToken, NextField, EndOfLine, has_word, line_token_text}
use Rattle.bi_common.specs.Lines.{Field}
use Rattle.bi_common.specs.Tokens.{PutsInTurn, PutsNothing}
use Rattle.bi_describe.specs.declared.compare.line_keeper.KeyPart.{KeyPart}
use Rattle.bi_describe.specs.declared.compare.line_keeper.KeyPart.TheVariants as part
use Rattle.bi_describe.specs.declared.compare.line_keeper.Mark.{Mark}
use Rattle.bi_describe.specs.declared.compare.line_keeper.OpenLine.{OpenLine}
use Rattle.bi_describe.specs.Differences.{is_inside_word, words_of_key}

-- A pen that keeps lines, as contracts see it.

-- The text of the lines that were put, how long each line is, and the line that is put.
pub record Keeping : Type 0 where
  pub text : List ℕ
  pub marks : List Mark
  pub line : OpenLine

-- The length of a text that is kept: 0 if an allocation has failed.
abbrev pub kept_length : Option (List ℕ) → ℕ
kept_length None = 0
kept_length (Some text) = length text

-- A line without words, which begins here.
abbrev pub new_line : (start : ℕ) → OpenLine
new_line start = record { start = start; key_end = start; next = part.First; has_word = false }

abbrev pub new_keeping : Keeping
new_keeping = record { text = []; marks = []; line = new_line 0 }

-- Whether a word is in the key.
abbrev pub is_in_key : KeyPart → Bool
is_in_key (part.Named missing) = not (missing == 0)
is_in_key next = true

-- The next word after a word.
abbrev pub part_after : KeyPart → Field → KeyPart
part_after part.First word =
    if is_inside_word word then part.Payload else part.Named (words_of_key word - 1)
part_after part.Payload word = part.Second
part_after part.Second word = part.Named (words_of_key word - 1)
part_after (part.Named missing) word = part.Named (missing - 1)

-- A line after a word, which ends here.
abbrev pub line_after_word : OpenLine → Field → (end : ℕ) → OpenLine
line_after_word line word end = record {
  start = line.start;
  key_end = if is_in_key line.next then end else line.key_end;
  next = part_after line.next word;
  has_word = has_word line.has_word (NextField word);
}

-- How long a line is, which ends here.
abbrev pub end_mark : OpenLine → (end : ℕ) → Mark
end_mark line end = record { len = end - line.start; key = line.key_end - line.start }

-- What is kept after a word or the end of a line.
abbrev pub keep_token : Keeping → LineToken → Keeping
keep_token kept (NextField word) =
    let text = kept.text ++ line_token_text kept.line.has_word (NextField word) in
    record { text = text; marks = kept.marks; line = line_after_word kept.line word (length text) }
keep_token kept EndOfLine =
    let text = kept.text ++ codes "\n" in
    record {
      text = text;
      marks = kept.marks ++ end_mark kept.line (length kept.text) ∷ [];
      line = new_line (length text);
    }

abbrev pub keep_tokens : Keeping → List LineToken → Keeping
keep_tokens kept [] = kept
keep_tokens kept (token ∷ later) = keep_tokens (keep_token kept token) later

-- No allocation has failed, and the lines have this text and these lengths.
abbrev pub Keeps : Option Keeping → (text : List ℕ) → (marks : List Mark) → Type 0
Keeps None text marks = ⊥
Keeps (Some kept) text marks = (kept.text ≡ text) × (kept.marks ≡ marks)

-- What a call did to the pen: it keeps the tokens too, or an allocation has failed.
abbrev pub KeeperPuts : Option Keeping → List LineToken → Option Keeping → Type 0
KeeperPuts old tokens None = ⊤
KeeperPuts None tokens (Some new) = ⊥
KeeperPuts (Some old) tokens (Some new) = new ≡ keep_tokens old tokens

pub keeper_puts_nothing : PutsNothing KeeperPuts
keeper_puts_nothing None = tt
keeper_puts_nothing (Some kept) = refl

pub keep_tokens-append : (kept : Keeping) (xs ys : List LineToken)
    → keep_tokens kept (xs ++ ys) ≡ keep_tokens (keep_tokens kept xs) ys
keep_tokens-append kept [] ys = refl
keep_tokens-append kept (token ∷ xs) ys = keep_tokens-append (keep_token kept token) xs ys

pub keeper_puts_in_turn : PutsInTurn KeeperPuts
keeper_puts_in_turn a b None xs ys first second = tt
keeper_puts_in_turn a None (Some c) xs ys first second = absurd second
keeper_puts_in_turn None (Some b) (Some c) xs ys first second = absurd first
keeper_puts_in_turn (Some a) (Some b) (Some c) xs ys first second =
    second ∙ ap (λ kept. keep_tokens kept ys) first ∙ sym (keep_tokens-append a xs ys)
