use Rattle.std.proofs.Common.{refl}
use Rattle.std.specs.Fmt.{digits}
use Rattle.bi_base.specs.Cells.{cell, cell8}
use Rattle.bi_common.specs.KnownWords.{LinesAreShown, NamesAreShown, ValuesAreShown}

-- Names and values are printed as known words.

pub names_are_shown : NamesAreShown
names_are_shown = record {
  empty = refl;
  minus = refl;
  space = refl;
  percent = refl;
  first = refl;
  before_first = refl;
  last = refl;
  after_last = refl;
  greatest = refl;
  plain = refl;
  minus_inside = refl;
}

pub lines_are_shown : LinesAreShown
unfolding digits cell cell8
lines_are_shown = record { line = refl; lines = refl; value = refl; no_name = refl; no_digits = refl; no_value = refl }

pub values_are_shown : ValuesAreShown
values_are_shown = record {
  no_bytes = refl;
  text = refl;
  escaped = refl;
  two_texts = refl;
  first = refl;
  before_first = refl;
  last = refl;
  after_last = refl;
  no_ascii = refl;
  newline = refl;
  no_zero = refl;
  only_zero = refl;
  two_zeros = refl;
  zero_first = refl;
  one_text_of_two = refl;
  a_cell = refl;
  digits = refl;
}
