use Rattle.std.specs.Prelude.{◌≡◌, [], ◌∷◌, ◌++◌, codes}
use Rattle.bi_common.specs.declared.format.Format.TheVariants.{Json, Lines}
use Rattle.bi_common.specs.Shown.{shown_text}
use Rattle.bi_labels.specs.LabelledTexts.{labelled_text, lines_in}

-- Texts with the name of their image, by which a reader can judge the definitions.

-- Lines end with a newline, or with the text.
pub record LinesInTextsAreKnown : Type 0 where
  pub no_line : lines_in [] ≡ []
  pub empty_line : lines_in (codes "\n") ≡ [] ∷ []
  pub two_lines : lines_in (codes "a\nb c\n") ≡ codes "a" ∷ codes "b c" ∷ []
  pub empty_between : lines_in (codes "a\n\nb\n") ≡ codes "a" ∷ [] ∷ codes "b" ∷ []
  pub no_newline : lines_in (codes "a\nb") ≡ codes "a" ∷ codes "b" ∷ []

-- Each line has the name, an empty one too. A text without lines has none.
pub record LabelledLinesAreKnown : Type 0 where
  pub two_lines : labelled_text Lines (codes "r1") (codes "header crc32 good\ndata crc32 good\n")
      ≡ codes "r1: header crc32 good\nr1: data crc32 good\n"
  pub empty_line : labelled_text Lines (shown_text []) (codes "\n") ≡ codes "-: \n"
  pub no_line : labelled_text Lines (codes "r1") [] ≡ []
  pub shown : labelled_text Lines (shown_text (codes "a b")) (codes "x\n") ≡ codes "a%20b: x\n"

-- A value is one line with the name. In a string `"` and a backslash are escaped.
pub record LabelledValuesAreKnown : Type 0 where
  pub none : labelled_text Json (codes "r17") (codes "{\"concerns\":[]}\n")
      ≡ codes "{\"file\":\"r17\",\"result\":{\"concerns\":[]}}\n"
  pub one : labelled_text Json (codes "r12e")
      (codes "{\"concerns\":[{\"concern\":\"unhashed\",\"image\":\"a\"}]}\n")
      ≡ codes "{\"file\":\"r12e\",\"result\":"
      ++ codes "{\"concerns\":[{\"concern\":\"unhashed\",\"image\":\"a\"}]}}\n"
  pub escaped : labelled_text Json (shown_text (codes "a\"b")) (codes "{}\n")
      ≡ codes "{\"file\":\"a\\\"b\",\"result\":{}}\n"
