use Rattle.std.proofs.Common.{refl}
use Rattle.std.specs.Fmt.{digits}
use Rattle.std.specs.Str.{chars}
use Rattle.strsim.specs.Edits.{cost_at, next_row, rows}
use Rattle.bootimg.specs.KnownHints.{FailureHintsAreKnown, ImageWritersAreKnown, RefusedWordsAreKnown}

-- Hints are known, and so are the commands that write images.

pub refused_words_are_known : RefusedWordsAreKnown
unfolding digits chars cost_at next_row rows
refused_words_are_known = record {
  compression = refl;
  number = refl;
  file = refl;
  argument = refl;
  no_word = refl;
  no_file = refl;
  left_out = refl;
  configuration = refl;
  own_text = refl;
  near = refl;
  nearer = refl;
  none_near = refl;
}

pub failure_hints_are_known : FailureHintsAreKnown
failure_hints_are_known = record {
  refused = refl;
  memory = refl;
  missing_file = refl;
  configuration = refl;
  part = refl;
  line = refl;
  no_line = refl;
}

pub image_writers_are_known : ImageWritersAreKnown
image_writers_are_known = record { normalise = refl; extract = refl; build = refl; values = refl; list = refl }
