use Rattle.bi_describe.specs.declared.compare.ignoring.IgnoringOptions.{IgnoringOptions}
use Rattle.bi_describe.specs.ComparingWithout.{IgnoringOptionsModel}
use Rattle.bi_describe.specs.MadeWords.{ignored_words}

-- Options of a comparison, as the code has them.

abbrev pub ignoring_model : IgnoringOptions → IgnoringOptionsModel
ignoring_model options = record {
  words = ignored_words options.words.now;
  quiet = options.quiet;
  format = options.format;
}
