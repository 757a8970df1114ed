use Rattle.std.specs.Prelude.{◌≡◌, ℕ, Bool, true, false, List, [], ◌∷◌, codes}
use Rattle.bi_base.specs.Limits.{Limits, widest}
use Rattle.bi_base.specs.Reading.{too_large}
use Rattle.bi_blob.specs.KnownTexts.{smallest_text}
use Rattle.bi_fit.specs.KnownFiles.{bare_file}
use Rattle.bi_fit.specs.Names.{images_name}
use Rattle.bi_legacy.specs.KnownFaults.{limited_to}
use Rattle.bi_legacy.specs.KnownImages.{kernel_file}
use Rattle.bi_norm.specs.KnownComparisons.{file_without_magic, no_magic}
use Rattle.bi_common.specs.declared.format.Format.{Format}
use Rattle.bi_common.specs.declared.format.Format.TheVariants.{Lines, Json}
use Rattle.bi_common.specs.KnownWords.{lines}
use Rattle.bi_describe.specs.declared.compare.CompareError.TheVariants.{One, Other}
use Rattle.bi_describe.specs.declared.compare.ignoring.IgnoringOptions.{IgnoringOptions}
use Rattle.bi_describe.specs.declared.ignored.Ignored.TheVariants as word
use Rattle.bi_describe.specs.declared.ignored.IgnoredError.TheVariants.{BadValue}
use Rattle.bi_describe.specs.declared.ignored.NodePlace.{NodePlace as MadePlace}
use Rattle.bi_describe.specs.declared.ignored.TreePlace.TheVariants as tree
use Rattle.bi_describe.specs.declared.ignored.PayloadPlace.TheVariants as payload
use Rattle.bi_describe.specs.ComparingWithout.{AreComparedWithout, IgnoringOptionsModel}
use Rattle.bi_describe.specs.ComparingWithout.{IsIgnoringError}
use Rattle.bi_describe.specs.IgnoredErrors.{IsParseError}
use Rattle.bi_describe.specs.IgnoredWords.{AreWordsOfValues}
use Rattle.bi_describe.specs.Ignoring.{Ignored, IgnoredTime, IgnoredSignatures, IgnoredNode}
use Rattle.bi_describe.specs.Ignoring.{IgnoredPart, Inside, OfPart}
use Rattle.bi_describe.specs.KnownIgnored.{own_node}
use Rattle.bi_describe.specs.MadeOptions.{ignoring_model}
use Rattle.bi_describe.specs.MadeWords.{ignored_words, node_place, tree_place}

-- Small files that are compared without something, by which a reader can judge the definitions.

-- What is written as lines, or in JSON, or not at all.
abbrev pub options_with : List Ignored → (quiet : Bool) → Format → IgnoringOptionsModel
options_with words quiet format = record { words = words; quiet = quiet; format = format }

-- The node of the image `a`.
abbrev pub node_a : Ignored
node_a = IgnoredNode (own_node (images_name ∷ codes "a" ∷ []))

-- The smallest flattened image tree, and one with an image `a` that has no payload.
abbrev pub ComparesWith : IgnoringOptionsModel → (same : Bool) → (text : List ℕ) → Type 0
ComparesWith options same text = AreComparedWithout options widest smallest_text bare_file same text

-- Without the image both are the same. If nothing is written, they still differ.
pub record ComparedWithoutIsKnown : Type 0 where
  pub same : ComparesWith (options_with (node_a ∷ []) false Lines) true []
  pub same_json : ComparesWith (options_with (node_a ∷ []) false Json) true
      (lines (codes "{\"same\":true,\"differences\":[]}" ∷ []))
  pub different : ComparesWith (options_with [] false Lines) false
      (lines (codes "+node /images/a" ∷ codes "+payload /images/a none" ∷ []))
  pub quiet : ComparesWith (options_with [] true Lines) false []

-- A file that is too long to describe is refused, even beside itself.
pub record IgnoringErrorsAreKnown : Type 0 where
  pub no_magic_first : IsIgnoringError widest file_without_magic kernel_file (One no_magic)
  pub no_magic_second : IsIgnoringError widest kernel_file file_without_magic (Other no_magic)
  pub too_long : IsIgnoringError (limited_to 191) kernel_file kernel_file (One (too_large 191))

-- Values of an option, and the first that is for no words.
pub record IgnoredValuesAreKnown : Type 0 where
  pub two : AreWordsOfValues (codes "time" ∷ codes "part-0" ∷ [])
      (IgnoredTime ∷ IgnoredPart 0 ∷ [])
  pub second : IsParseError (codes "time" ∷ [] ∷ codes "x" ∷ []) (BadValue 1)
  pub made : ignored_words (word.Time ∷ word.Signatures ∷ word.Part 3 ∷ [])
      ≡ IgnoredTime ∷ IgnoredSignatures ∷ IgnoredPart 3 ∷ []
  pub made_place : tree_place (tree.Inside (payload.Part 2)) ≡ Inside (OfPart 2)
  pub made_node : (place : MadePlace)
      → ignored_words (word.Node place ∷ []) ≡ IgnoredNode (node_place place) ∷ []
  pub made_options : (options : IgnoringOptions)
      → (ignoring_model options).words ≡ ignored_words options.words.now
