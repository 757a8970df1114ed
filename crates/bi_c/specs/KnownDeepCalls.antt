use Rattle.std.specs.Prelude.{ℕ, List, [], ◌∷◌, ◌++◌, codes}
use Rattle.bi_blob.specs.Layout.{text_of_tree}
use Rattle.bi_blob.specs.Tree.{none, node, Property, Root}
use Rattle.bi_common.specs.KnownWords.{lines}
use Rattle.bi_common.specs.declared.format.Format.TheVariants.{Lines, Json}
use Rattle.bi_describe.specs.DeepComparing.{AreComparedDeepWithout}
use Rattle.bi_describe.specs.DeepDescribing.{IsDeepDescription}
use Rattle.bi_describe.specs.KnownDeep.{only_model}
use Rattle.bi_describe.specs.KnownDescriptions.{sha256_digits}
use Rattle.bi_fit.specs.KnownFiles.{file_of_images}
use Rattle.bi_fit.specs.Names.{data_name}
use Rattle.bi_c.specs.Calls.{IsTextOnly}
use Rattle.bi_c.specs.IgnoringCalls.{IsWithoutWords}
use Rattle.bi_c.specs.KnownElements.{region_at_offset}

-- What the deep calls return for small files with a devicetree inside, by which a reader can judge
-- the definitions. The limits are the largest ones.

-- A devicetree whose root has one property, `model`, with this value, and the blob of it.
abbrev pub model_root : (value : List ℕ) → Root (List Property)
model_root value = record { own = only_model value; children = none }

abbrev pub model_blob : (value : List ℕ) → List ℕ
model_blob value = text_of_tree 4 0 [] (model_root value) ++ []

-- A flattened image tree whose image `a` is this devicetree.
abbrev pub model_file : (value : List ℕ) → List ℕ
model_file value =
    file_of_images (node (codes "a") ((data_name, model_blob value) ∷ []) none none) []

-- The deep description has lines of the devicetree. Two files whose devicetrees have other models
-- are the same without that property inside the payload.
pub record DeepCallsAreKnown : Type 0 where
  pub described : IsTextOnly 0x7fffffff 64
      (λ limits text. IsDeepDescription Lines limits (model_file (codes "m")) text)
      (lines
      (codes "kind fit"
      ∷ codes "boot-cpu 0"
      ∷ codes "node /"
      ∷ codes "node /images"
      ∷ codes "node /images/a"
      ∷ (codes "payload /images/a size 96 sha256 " ++ sha256_digits (model_blob (codes "m")))
      ∷ codes "inside /images/a boot-cpu 0"
      ∷ codes "node /images/a//"
      ∷ codes "property /images/a// model \"m\""
      ∷ []))
      0
  pub same : IsWithoutWords AreComparedDeepWithout Lines 0x7fffffff 64 (codes "/images/a// model")
      (region_at_offset 0 17 ∷ []) (model_file (codes "m")) (model_file (codes "n")) [] 1
  pub same_json : IsWithoutWords AreComparedDeepWithout Json 0x7fffffff 64
      (codes "/images/a// model") (region_at_offset 0 17 ∷ []) (model_file (codes "m"))
      (model_file (codes "n")) (lines (codes "{\"same\":true,\"differences\":[]}" ∷ [])) 1
