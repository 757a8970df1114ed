use Rattle.std.specs.Prelude.{ℕ, ◌≡◌, ◌&&◌, Bool, List, Option, not}
use Rattle.std.specs.BTreeMap.{BTreeMap, get_by}
use Rattle.std.specs.BTreeSet.{BTreeSet, contains_by}
use Rattle.std.specs.Cmp.Lexicographic.{slice_cmp}
use Rattle.std.specs.declared.cmp.Ordering.{Ordering}
use Rattle.std.specs.Option.{option_map}
use Rattle.std.specs.Ordering.{nat_cmp, ordering_then}
use denote.Ref.{Bor}
use Rattle.bi_base.specs.Crc.{crc32}
use Rattle.bi_describe.specs.Differences.{ComparedLine, has_text, has_line_key, first_text}
use Rattle.bi_describe.specs.Differences.{only_line}

-- Sets and maps of texts, by which the differences of two lists of lines are found. Each text has a
-- number before it, its checksum, so that two texts are read only if they have the same number.

abbrev pub TextRef : Type 0
TextRef = Bor (List ℕ)

-- A text with its number.
abbrev pub NumberedText : Type 0
NumberedText = ℕ × TextRef

abbrev pub numbered_text : TextRef → NumberedText
numbered_text text = (crc32 text.now, text)

-- The order of a text, with its number, and another one.
abbrev pub order_of_text : List ℕ → NumberedText → Ordering
order_of_text text other =
    ordering_then (nat_cmp (crc32 text) other.0) (slice_cmp nat_cmp text other.1.now)

-- The set has this text.
abbrev pub set_has : BTreeSet NumberedText → List ℕ → Bool
set_has set text = contains_by (order_of_text text) set

-- The text at a key.
abbrev pub text_at : BTreeMap NumberedText TextRef → List ℕ → Option (List ℕ)
text_at texts key = option_map (λ text. text.now) (get_by (order_of_text key) texts)

-- The set has the texts of these lines.
abbrev pub HasLineTexts : List ComparedLine → BTreeSet NumberedText → Type 0
HasLineTexts lines set = (text : List ℕ) → set_has set text ≡ has_text lines text

-- The set has the texts of these lines that none of the others has.
abbrev pub HasMissing : (lines others : List ComparedLine) → BTreeSet NumberedText → Type 0
HasMissing lines others set =
    (text : List ℕ) → set_has set text ≡ (has_text lines text && not (has_text others text))

-- The line, if the set has its text.
abbrev pub missing_line : BTreeSet NumberedText → ComparedLine → List ComparedLine
missing_line missing line = only_line (λ text. not (set_has missing text)) line

-- The set has the keys of these lines.
abbrev pub HasKeys : List ComparedLine → BTreeSet NumberedText → Type 0
HasKeys lines set = (key : List ℕ) → set_has set key ≡ has_line_key lines key

-- The map has, at each key, the text of the first of these lines that has this key.
abbrev pub HasFirst : List ComparedLine → BTreeMap NumberedText TextRef → Type 0
HasFirst lines texts = (key : List ℕ) → text_at texts key ≡ first_text lines key
