use Rattle.std.specs.Prelude.{ℕ, Bool, List, [], ◌∷◌, codes}
use Rattle.bi_blob.specs.KnownTexts.{smallest_text}
use Rattle.bi_common.specs.KnownWords.{lines}
use Rattle.bi_common.specs.declared.format.Format.TheVariants.{Lines, Json}
use Rattle.bi_describe.specs.ComparingWithout.{AreComparedWithout}
use Rattle.bi_describe.specs.Ignoring.{IgnoredPart, IgnoredTime}
use Rattle.bi_fit.specs.KnownFiles.{bare_file}
use Rattle.bi_legacy.specs.KnownImages.{kernel_file}
use Rattle.bi_norm.specs.KnownComparisons.{file_without_magic, no_magic}
use Rattle.bi_c.specs.IgnoringCalls.{HasIgnoredWords, IsErrorAs, IsIgnoringFailure}
use Rattle.bi_c.specs.IgnoringCalls.{IsWithoutWords}
use Rattle.bi_c.specs.KnownElements.{region_at_offset}
use Rattle.bi_c.specs.declared.argument.Argument.TheVariants as argument
use Rattle.bi_c.specs.declared.failure.Failure.TheVariants.{Refused, WrongArgument, NotFound}

-- What the calls return for small files that compare without what words name, by which a reader can
-- judge the definitions. The limits are the largest ones.

-- Regions of an input are for words. Without the root, two trees that differ are the same: the text
-- is empty, or JSON. Without anything left out, the image that only one of them has differs. The
-- second word is bad: it is empty. A region that ends after the input is a wrong argument. The
-- first file may be refused. The deep calls fail so, too.
pub record IgnoringCallsAreKnown : Type 0 where
  pub words : HasIgnoredWords 0x7fffffff 64 (codes "timepart-0")
      (region_at_offset 0 4 ∷ region_at_offset 4 6 ∷ [])
      (IgnoredTime ∷ IgnoredPart 0 ∷ [])
  pub same : IsWithoutWords AreComparedWithout Lines 0x7fffffff 64 (codes "x/")
      (region_at_offset 1 1 ∷ []) smallest_text bare_file [] 1
  pub same_json : IsWithoutWords AreComparedWithout Json 0x7fffffff 64 (codes "x/")
      (region_at_offset 1 1 ∷ []) smallest_text bare_file
      (lines (codes "{\"same\":true,\"differences\":[]}" ∷ [])) 1
  pub different : IsWithoutWords AreComparedWithout Lines 0x7fffffff 64 [] [] smallest_text
      bare_file (lines (codes "+node /images/a" ∷ codes "+payload /images/a none" ∷ [])) 0
  pub bad_word : (deep : Bool) (one other : List ℕ) → IsIgnoringFailure (IsErrorAs deep)
      0x7fffffff 64 (codes "timex")
      (region_at_offset 0 4 ∷ region_at_offset 4 0 ∷ region_at_offset 4 1 ∷ []) one other
      (NotFound 16 1)
  pub outside : (deep : Bool) (one other : List ℕ) → IsIgnoringFailure (IsErrorAs deep)
      0x7fffffff 64 (codes "time") (region_at_offset 0 4 ∷ region_at_offset 1 4 ∷ []) one other
      (WrongArgument argument.Words 1)
  pub refused : (deep : Bool) → IsIgnoringFailure (IsErrorAs deep) 0x7fffffff 64 [] []
      file_without_magic kernel_file (Refused 1 no_magic)
