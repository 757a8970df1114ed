use Rattle.std.specs.Prelude.{◌≡◌, [], ◌∷◌, ◌++◌, codes, ℕ, List, None, Some}
use Rattle.bi_common.specs.ValueTexts.{value_words}
use Rattle.bi_common.specs.Lines.{text_of_lines, Text, Name, Decimal, Hexadecimal, Hexadecimal64}
use Rattle.bi_common.specs.Lines.{Digits, Path, Value, digits_or_dash, field_text, name_or_dash}
use Rattle.bi_common.specs.Shown.{shown_text}

-- Names and values as they are printed, by which a reader can judge the definitions.

-- Names as they are shown.
pub record NamesAreShown : Type 0 where
  pub empty : shown_text [] ≡ codes "-"
  pub minus : shown_text (codes "-") ≡ codes "%2D"
  pub space : shown_text (codes " ") ≡ codes "%20"
  pub percent : shown_text (codes "%") ≡ codes "%25"
  pub first : shown_text (0x21 ∷ []) ≡ codes "!"
  pub before_first : shown_text (0x1f ∷ []) ≡ codes "%1F"
  pub last : shown_text (0x7e ∷ []) ≡ codes "~"
  pub after_last : shown_text (0x7f ∷ []) ≡ codes "%7F"
  pub greatest : shown_text (0xff ∷ []) ≡ codes "%FF"
  pub plain : shown_text (codes "kernel-1") ≡ codes "kernel-1"
  pub minus_inside : shown_text (codes "a-b c") ≡ codes "a-b%20c"

-- Lines of a text, each with its newline.
abbrev pub lines : List (List ℕ) → List ℕ
lines [] = []
lines (text ∷ later) = text ++ 10 ∷ lines later

-- Lines of words are printed with a space between each two words, and a newline. An empty value has
-- no word.
pub record LinesAreShown : Type 0 where
  pub line : text_of_lines
      ((Text (codes "image") ∷ Name (codes "a b") ∷ Decimal 10 ∷ Hexadecimal 10 ∷ []) ∷ [])
      ≡ codes "image a%20b 10 0x0000000a\n"
  pub lines : text_of_lines ((Path [] ∷ []) ∷ (Path (codes "a" ∷ codes "b" ∷ []) ∷ []) ∷ [])
      ≡ codes "/\n/a/b\n"
  pub value : text_of_lines
      ((Value (codes "x" ++ 0 ∷ codes "y" ++ 0 ∷ []) ∷ Digits (1 ∷ []) ∷ []) ∷ [])
      ≡ codes "\"x\" \"y\" 01\n"
  pub no_name : field_text (name_or_dash None) ≡ codes "-"
  pub no_digits : field_text (digits_or_dash (Some [])) ≡ codes "-"
  pub no_value : text_of_lines ((Text (codes "v") ∷ Value [] ∷ Hexadecimal64 10 ∷ []) ∷ [])
      ≡ codes "v 0x000000000000000a\n"

-- Values of properties as they are printed. A text is in quotes if it has a byte, if each of its
-- bytes is one of 0x20 to 0x7e, and if a zero follows it.
pub record ValuesAreShown : Type 0 where
  pub no_bytes : value_words [] ≡ []
  pub text : value_words (codes "a-b c" ++ 0 ∷ []) ≡ codes "\"a-b c\"" ∷ []
  pub escaped : value_words (codes "say \"hi\" in C:\\" ++ 0 ∷ [])
      ≡ codes "\"say \\\"hi\\\" in C:\\\\\"" ∷ []
  pub two_texts : value_words (codes "x" ++ 0 ∷ codes "y z" ++ 0 ∷ [])
      ≡ codes "\"x\"" ∷ codes "\"y z\"" ∷ []
  pub first : value_words (0x20 ∷ 0 ∷ []) ≡ codes "\" \"" ∷ []
  pub before_first : value_words (0x1f ∷ 0 ∷ []) ≡ codes "0x1f00" ∷ []
  pub last : value_words (0x7e ∷ 0 ∷ []) ≡ codes "\"~\"" ∷ []
  pub after_last : value_words (0x7f ∷ 0 ∷ []) ≡ codes "0x7f00" ∷ []
  pub no_ascii : value_words (0x80 ∷ 0 ∷ []) ≡ codes "0x8000" ∷ []
  pub newline : value_words (codes "x\n" ++ 0 ∷ []) ≡ codes "0x780a00" ∷ []
  pub no_zero : value_words (codes "x") ≡ codes "0x78" ∷ []
  pub only_zero : value_words (0 ∷ []) ≡ codes "0x00" ∷ []
  pub two_zeros : value_words (codes "x" ++ 0 ∷ 0 ∷ []) ≡ codes "0x780000" ∷ []
  pub zero_first : value_words (0 ∷ codes "x" ++ 0 ∷ []) ≡ codes "0x007800" ∷ []
  pub one_text_of_two : value_words (codes "x" ++ 0 ∷ 1 ∷ 0 ∷ []) ≡ codes "0x78000100" ∷ []
  pub a_cell : value_words (0 ∷ 0 ∷ 0 ∷ 1 ∷ []) ≡ codes "0x00000001" ∷ []
  pub digits : value_words (0xab ∷ 0xcd ∷ 0xef ∷ []) ≡ codes "0xabcdef" ∷ []
