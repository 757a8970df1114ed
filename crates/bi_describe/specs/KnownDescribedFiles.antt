use Rattle.std.specs.Prelude.{◌≡◌, ℕ, Bool, true, false, List, [], ◌∷◌, ◌++◌, codes}
use Rattle.bi_base.specs.Limits.{Limits, widest}
use Rattle.bi_blob.specs.KnownTexts.{smallest_text}
use Rattle.bi_fit.specs.KnownFiles.{bare_file}
use Rattle.bi_common.specs.declared.format.Format.{Format}
use Rattle.bi_common.specs.declared.format.Format.TheVariants.{Lines, Json}
use Rattle.bi_common.specs.KnownWords.{lines}
use Rattle.bi_describe.specs.Comparing.{IsComparison, comparison_text, kinds_differ}
use Rattle.bi_describe.specs.Comparing.{other_order_line}
use Rattle.bi_describe.specs.Describing.{describe_promise}

-- Whole outputs of `describe` and `compare` on small files, as text and as JSON, with the value
-- that the exit status follows. A reader can judge the definitions by them.

-- Describing the file in this form gives this text, and no other.
pub record IsOnlyDescription (format : Format) (file text : List ℕ) : Type 0 where
  pub is_output : (describe_promise format widest).is_output tt file text
  pub is_text : (describe_promise format widest).is_text file text
  pub only : (other : List ℕ) → (describe_promise format widest).is_output tt file other
      → other ≡ text

-- The descriptions of the smallest flattened image tree.
pub record DescribedFilesAreKnown : Type 0 where
  pub text : IsOnlyDescription Lines smallest_text
      (lines
      (codes "kind fit" ∷ codes "boot-cpu 0" ∷ codes "node /" ∷ codes "node /images" ∷ []))
  pub json : IsOnlyDescription Json smallest_text
      (codes "{\"kind\":\"fit\",\"boot_cpu\":0,\"reservations\":[],\"root\":{\"properties\":[],"
      ++ lines
      (codes "\"children\":[{\"name\":\"images\",\"properties\":[],\"children\":[]}]}}" ∷ []))

-- That file beside itself, and beside one with an image that has no payload. A line that says why
-- no line differs has no sign. Two files have one such value.
pub record ComparedTextsAreKnown : Type 0 where
  pub same : IsComparison Lines widest smallest_text smallest_text true []
  pub same_json : IsComparison Json widest smallest_text smallest_text true
      (lines (codes "{\"same\":true,\"differences\":[]}" ∷ []))
  pub different : IsComparison Lines widest smallest_text bare_file false
      (lines (codes "+node /images/a" ∷ codes "+payload /images/a none" ∷ []))
  pub different_json : IsComparison Json widest smallest_text bare_file false
      (codes "{\"same\":false,\"differences\":[{\"sign\":\"+\",\"line\":\"node /images/a\"},"
      ++ lines (codes "{\"sign\":\"+\",\"line\":\"payload /images/a none\"}]}" ∷ []))
  pub no_sign : comparison_text Json false (other_order_line ∷ [])
      ≡ codes "{\"same\":false,\"differences\":[{\"sign\":\"\",\"line\":"
      ++ lines (codes "\"the same lines in another order or number\"}]}" ∷ [])
  pub signs : comparison_text Json false (kinds_differ (codes "kind fit") (codes "kind legacy"))
      ≡ codes "{\"same\":false,\"differences\":[{\"sign\":\"-\",\"line\":\"kind fit\"},"
      ++ lines (codes "{\"sign\":\"+\",\"line\":\"kind legacy\"}]}" ∷ [])
  pub one : (format other_format : Format) (limits : Limits) (file other_file : List ℕ)
      (value other : Bool) (text other_text : List ℕ)
      → IsComparison format limits file other_file value text
      → IsComparison other_format limits file other_file other other_text → value ≡ other
